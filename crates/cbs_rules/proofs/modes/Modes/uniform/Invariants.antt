use Rattle.std.proofs.Common.{◌≡◌, replicate}
use Rattle.cbs_rules.proofs.modes.Modes.uniform.Given as goal

-- as many as were counted
abbrev pub invariant-loop-server : goal.invariant-loop-server
invariant-loop-server l = l.modes ≡ replicate l._server l.mode
