use Rattle.std.proofs.Common.{sym, ◌∙◌}
use Rattle.std.proofs.lemmas.Result.{err_from_is_err_and}
use Rattle.toml.specs.View.{view}
use Rattle.cbsrun_toml_tables.specs.declared.fault.Place.TheVariants.{Server}
use Rattle.cbsrun_tasks.specs.Spelling.{admitted_entry}
use Rattle.cbsrun_toml_tables.proofs.TakenIn.{taken_on, taken_ends, taken_done}
use Rattle.cbsrun_toml_tables.proofs.Places.{seen_at, seen_at_err}
use Rattle.cbsrun_tasks.proofs.file.setup_of.Goals as goal

pub returns-in_err-at : goal.returns-in_err-at
returns-in_err-at c =
    let i = c.loop-i.i in
    let v = c.index-entries-i.result in
    let p = err_from_is_err_and c.from_residual.result c.from_residual.ensures.1 in
    let fault = seen_at_err (Server i) (λ _. c.admit_entry.new.setup) c.admit_entry.result
    (admitted_entry c.args.mode c.loop-i.setup (view v)) c.in_err-at.field-0.0 c.admit_entry.ensures (sym c.at.ensures ∙ c.in_err-at.was) in
    let total = taken_ends view (admitted_entry c.args.mode) i c.loop-i.setup c.args.entries.now v _ c.in_err-at.field-0.0 c.loop-i-test.true
    (rw (← c.index-entries-i.is) fault) c.loop-i.invariant in
    rw (p.1, p.2) (sym total)

pub loop-i-preserved : goal.loop-i-preserved
loop-i-preserved c =
    let i = c.loop-i.i in
    let v = c.index-entries-i.result in
    let next = seen_at (Server i) (λ _. c.admit_entry.new.setup) c.admit_entry.result
    (admitted_entry c.args.mode c.loop-i.setup (view v)) c.in_ok-at.field-0 c.admit_entry.ensures (sym c.at.ensures ∙ c.in_ok-at.was) in
    taken_on view (admitted_entry c.args.mode) i c.loop-i.setup c.admit_entry.new.setup c.args.entries.now v _ c.loop-i-test.true
    (rw (← c.index-entries-i.is) next) c.loop-i.invariant

pub returns : goal.returns
returns c = sym (taken_done view (admitted_entry c.args.mode) c.loop-i.i c.loop-i.setup c.args.entries.now _ c.loop-i-test.false c.loop-i.invariant)
