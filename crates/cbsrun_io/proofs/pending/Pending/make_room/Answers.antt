use Rattle.std.proofs.Common.{arith}
use Rattle.std.proofs.lemmas.Grind.{common_steps}
use Rattle.cbsrun_io.proofs.pending.Pending.make_room.Goals as goal

pub flush-requires : goal.flush-requires
flush-requires g c = grind (arith, common_steps)
