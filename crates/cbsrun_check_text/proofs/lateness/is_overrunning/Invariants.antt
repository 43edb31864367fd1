use Rattle.std.proofs.Common.{◌≡◌, false, take}
use Rattle.cbsrun_check_text.specs.Checks.{is_overrunning}
use Rattle.cbsrun_check_text.proofs.lateness.is_overrunning.Given as goal

abbrev pub invariant-loop-terms : goal.invariant-loop-terms
invariant-loop-terms l = is_overrunning (take l.terms-index l.sources) ≡ false
