use Rattle.std.proofs.Common.{take}
use Rattle.std.specs.Prelude.{map}
use Rattle.toml.specs.View.{view}
use Rattle.cbsrun_faults.specs.Refused.{AreReservations}
use Rattle.cbsrun_faults.proofs.refused.reservations.Given as goal

abbrev pub invariant-loop-entry : goal.invariant-loop-entry
invariant-loop-entry l = AreReservations l.tick (map view (take l.entry-index l.servers)) l.all.items
