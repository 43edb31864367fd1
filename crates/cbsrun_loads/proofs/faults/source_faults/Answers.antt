use Rattle.std.proofs.Common.{◌≡◌, ◌++◌, [], map, string_bytes, refl, sym, ◌∙◌, arith}
use Rattle.std.specs.Result.{result_err}
use Rattle.toml.specs.View.{view}
use Rattle.cbsrun_toml_tables.specs.declared.fault.Place.TheVariants.{Source}
use Rattle.cbsrun_entries.specs.Noted.{told_at}
use Rattle.cbsrun_loads.specs.Faults.{read_source}
use Rattle.cbsrun_entries.specs.Sources.{source_view}
use Rattle.cbsrun_loads.specs.Due.{due_in_plan, source_entry}
use Rattle.cbsrun_loads.proofs.Judged.{given_fault, same_fault, one_more, judged_on, judged_all, unit_after}
use Rattle.cbsrun_loads.proofs.faults.source_faults.Goals as goal

pub loop-i-init : goal.loop-i-init
loop-i-init c = ([], c.new-faults.ensures c.args.most, omega arith, refl)

pub loop-i-preserved : goal.loop-i-preserved
loop-i-preserved c =
    let inv = c.loop-i.invariant in
    let i = c.loop-i.i in
    let v = c.index-entries-i.result in
    let names = map string_bytes c.args.names.now in
    let due = due_in_plan c.args.plan.now.rates in
    let read = read_source c.args.tick names due tt (view v) in
    let kind : result_err read ≡ c.err.result =
    same_fault (λ _. tt {0}) (source_entry c.args.tick names due (view v))
    ∙ (given_fault source_view c.source_entry-read.result (source_entry c.args.tick names due (view v)) c.source_entry-read.ensures.value
    (rw (← c.err.ensures.value) c.in_ok-note.ensures.memory) ∙ sym c.err.ensures.value) in
    let on = judged_on view Source (read_source c.args.tick names due) i tt c.args.entries.now v inv.0 _ read c.loop-i-test.true
    (rw (← c.index-entries-i.is) refl) inv.3 in (
      inv.0 ++ told_at (Source i) c.err.result,
      c.in_ok-note.ensures.noted inv.0 inv.1,
      one_more (Source i) c.err.result inv.0 i inv.2,
      rw (kind, unit_after read) at on,
    )

pub returns : goal.returns
returns c =
    let inv = c.loop-i.invariant in
    let names = map string_bytes c.args.names.now in
    let due = due_in_plan c.args.plan.now.rates in
    let all = judged_all view Source (read_source c.args.tick names due) c.loop-i.i tt c.args.entries.now inv.0 _ c.loop-i-test.false inv.3 in
    rw (← all) inv.1
