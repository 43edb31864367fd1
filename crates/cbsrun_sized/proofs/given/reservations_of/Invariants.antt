use Rattle.cbsrun_sized.specs.Sized.{AreReservations}
use Rattle.cbsrun_sized.proofs.given.reservations_of.Given as goal

abbrev pub invariant-loop-server : goal.invariant-loop-server
invariant-loop-server l = AreReservations l.sketch l.all l.server l.reservations.items
