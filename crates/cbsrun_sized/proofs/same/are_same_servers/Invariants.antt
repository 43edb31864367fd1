use Rattle.std.proofs.Common.{ℕ, ◌<◌, get_or}
use Rattle.cbsrun_proposals.specs.Proposals.{rate_of}
use Rattle.cbsrun_sized.specs.Sized.{no_proposal, IsSameServer}
use Rattle.cbsrun_sized.proofs.same.are_same_servers.Given as goal

abbrev pub invariant-loop-server : goal.invariant-loop-server
invariant-loop-server l = (s : ℕ) → s < l.server → IsSameServer l.sketch l.load s (rate_of (get_or l.reservations s no_proposal))
