use Rattle.std.proofs.Common.{◌≡◌, Ok, length, inr, sym, refl}
use Rattle.cbsrun_toml_tables.specs.Fields.{each_from}
use Rattle.cbsrun_records.specs.Taped.{taped}
use Rattle.cbsrun_records.proofs.TapedEntries.{test}
use Rattle.cbsrun_records.proofs.taped.taped_entries.Goals as goal

pub returns-in-Unknown-clause-entries : goal.returns-in-Unknown-clause-entries
unfolding taped
returns-in-Unknown-clause-entries c =
    let es = c.in-Ok.read.entries.items in
    let tested : each_from 0 (test c.args.servers) es ≡ Ok es = rw c.deref.ensures.value at (sym c.in_ok-tested.ensures.entries) in
    let count : c.len.result ≡ length es = let len = c.deref.ensures.len in let value = c.deref.ensures.value in let all = c.len.ensures in cc in
    inr (rw (c.in-Ok.ensures.exact, tested, c.in-Unknown.is, c.faulty-in-Unknown.ensures, count) refl)
