-- A job of a load takes at most so many ticks.
use Rattle.std.proofs.Common.{ℕ, ◌+◌, ◌*◌, ◌≤◌, arith}
use Rattle.std.proofs.lemmas.Nat.{mul-le}
use Rattle.cbsrun_loads.specs.Loads.{IsSource}
use Rattle.cbsrun_simulate.specs.declared.terms.SourceTerms.{SourceTerms}
use Rattle.cbsrun_sizing.specs.Asked.{most_ticks}
use Rattle.cbsrun_check_text.specs.Tables.{greatest_job}

pub job_short : (n : ℕ) (t : SourceTerms) → IsSource n t → greatest_job t ≤ most_ticks
job_short n t is =
    let units = is.lawful.few_units in
    let short = is.short in
    mul-le t.units.greatest (1 + t.overrun.greatest) 1000000 1000000001 (omega arith) (omega arith)
