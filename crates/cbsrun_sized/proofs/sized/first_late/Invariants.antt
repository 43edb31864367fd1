use Rattle.std.proofs.Common.{◌≡◌, ℕ, ◌<◌, get_or, None}
use Rattle.cbsrun_sizing.specs.ServerLoads.{no_load}
use Rattle.cbsrun_sized.proofs.sized.first_late.Given as goal

abbrev pub invariant-loop-server : goal.invariant-loop-server
invariant-loop-server l = (s : ℕ) → s < l.server → (get_or l.loads s no_load).remedy ≡ None
