use Rattle.std.proofs.Common.{◌≡◌, rules, Ok, map, sym, length, refl, arith}
use Rattle.std.proofs.lemmas.Grind.{common_steps}
use Rattle.toml.specs.View.{view, table_view}
use Rattle.cbsrun_toml_tables.specs.declared.fault.Place.TheVariants.{Step as AtStep}
use Rattle.cbsrun_task_steps.specs.Entries.{step_entry}
use Rattle.cbsrun_toml_tables.specs.Fields.{each_from}
use Rattle.cbsrun_tasks.specs.Spelling.{admitted_entry}
use Rattle.cbsrun_toml_tables.specs.Documents.{at, taken_in}
use Rattle.cbsrun_tasks.specs.TopTables.{top_table, top_view}
use Rattle.cbs_rules.specs.Setups.{no_servers}
use Rattle.cbsrun_tasks.proofs.file.tasks_in.Goals as goal

pub returns : goal.returns
returns c =
    let top : top_table (table_view c.args.table.now) ≡ Ok (top_view c.in-Ok.top) = sym c.in-Ok.ensures.value in
    let setup : taken_in (admitted_entry c.in-Ok.top.mode) 0 (no_servers c.in-Ok.top.bound) (map view c.in-Ok.top.servers.now.items)
    ≡ Ok c.in_ok-setup.setup = rw (← c.deref.ensures.value) (sym c.in_ok-setup.ensures) in
    let len : c.len-servers.result ≡ length c.in_ok-setup.setup.plan.rates = search rules in
    let steps : each_from 0 (λ i entry. at (AtStep i) (step_entry c.in-Ok.top.format (length c.in_ok-setup.setup.plan.rates) entry))
    (map view c.in-Ok.top.steps.now.items) ≡ Ok c.in_ok-steps.steps.items = rw (← c.deref-2.ensures.value, ← len) c.in_ok-steps.ensures.steps in
    rw (top, setup, steps) refl

pub returns-in-Err : goal.returns-in-Err
returns-in-Err c = grind (arith, common_steps)

pub returns-in_err-setup : goal.returns-in_err-setup
returns-in_err-setup c = grind (arith, common_steps)

pub returns-in_err-steps : goal.returns-in_err-steps
returns-in_err-steps c = grind (arith, common_steps)
