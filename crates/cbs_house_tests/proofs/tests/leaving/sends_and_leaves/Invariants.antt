use Rattle.std.proofs.Common.{vec_len}
use Rattle.cbs_house_tests.proofs.tests.leaving.sends_and_leaves.Given as goal

abbrev pub decreases-loop-client : goal.decreases-loop-client
decreases-loop-client l = vec_len l.clients
