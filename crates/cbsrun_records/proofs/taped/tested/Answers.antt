use Rattle.std.proofs.Common.{◌∙◌, ap, sym}
use Rattle.std.proofs.lemmas.Result.{err_from_is_err_and}
use Rattle.cbsrun_toml_tables.specs.declared.fault.Place.TheVariants.{Step as AtStep}
use Rattle.cbsrun_toml_tables.specs.Documents.{at}
use Rattle.cbsrun_toml_tables.proofs.Each.{ends}
use Rattle.cbsrun_toml_tables.proofs.Places.{at_ok}
use Rattle.cbsrun_records.proofs.TapedEntries.{all_passed, one_more, one_more_lawful, test}
use Rattle.cbsrun_records.proofs.taped.tested.Goals as goal

pub returns-in_err-_entry-clause-entries : goal.returns-in_err-_entry-clause-entries
returns-in_err-_entry-clause-entries c =
    let i = c.loop-i.i in
    let p = err_from_is_err_and c.from_residual.result c.from_residual.ensures.1 in
    let failed = ap (at (AtStep i)) (sym c.taped_entry.ensures.entry) ∙ sym c.at.ensures ∙ c.in_err-_entry.was in
    rw (p.1, p.2) (sym (ends (test c.args.servers) _ i c.args.entries.now _ c.in_err-_entry.field-0.0 _ c.loop-i-test.true failed c.loop-i.invariant.so_far))

pub loop-i-preserved : goal.loop-i-preserved
loop-i-preserved c =
    let i = c.loop-i.i in
    let passed = ap (at (AtStep i)) (sym c.taped_entry.ensures.entry) ∙ sym c.at.ensures ∙ c.in_ok-_entry.was in
    let is = at_ok (AtStep i) c.taped_entry.result c.in_ok-_entry._entry (sym c.at.ensures ∙ c.in_ok-_entry.was) in
    record {
      so_far = one_more c.args.servers i c.args.entries.now _ _ _ c.loop-i-test.true passed c.loop-i.invariant.so_far;
      lawful = one_more_lawful c.args.servers i c.args.entries.now _ c.loop-i-test.true c.loop-i.invariant.lawful (rw is at c.taped_entry.ensures.lawful);
    }

pub returns-clause-entries : goal.returns-clause-entries
returns-clause-entries c = all_passed c.args.servers c.loop-i.i c.args.entries.now _ c.loop-i-test.false c.loop-i.invariant.so_far
