use Rattle.std.proofs.Common.{map, string_bytes, sym}
use Rattle.cbsrun_entries.specs.Sources.{fields_view}
use Rattle.cbsrun_entries.proofs.Gaps.{listed_are}
use Rattle.cbsrun_entries.proofs.listed.listed_entry.Goals as goal

pub returns-clause-listed : goal.returns-clause-listed
returns-clause-listed c =
    let timing = rw c.deref.ensures.value at c.in_ok-fields.ensures.timing in
    listed_are (map string_bytes c.args.names.now) (fields_view c.in_ok-fields.fields) c.in_ok-terms.terms c.in_ok-listed.listed.items _ timing.0 timing.1
    (sym c.in_ok-terms.ensures.value) c.in_ok-listed.ensures.ascending
