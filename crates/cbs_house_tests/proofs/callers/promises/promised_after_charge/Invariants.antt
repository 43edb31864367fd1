use Rattle.cbs_clients.specs.Houses.{IsHousePaced}
use Rattle.cbs_house_tests.proofs.callers.promises.promised_after_charge.Given as goal

abbrev pub invariant-loop : goal.invariant-loop
invariant-loop g l = IsHousePaced l.house
