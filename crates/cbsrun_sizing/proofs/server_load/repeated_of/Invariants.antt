use Rattle.std.proofs.Common.{◌≡◌, ◌≤◌, length, take}
use Rattle.cbsrun_sizing.specs.ServerLoads.{repeated_of}
use Rattle.cbsrun_sizing.proofs.server_load.repeated_of.Given as goal

abbrev pub invariant-loop-terms : goal.invariant-loop-terms
invariant-loop-terms l = record {
  value : l.repeated.items ≡ repeated_of l.server (take l.terms-index l.sources);
  few : length l.repeated.items ≤ l.terms-index;
}
