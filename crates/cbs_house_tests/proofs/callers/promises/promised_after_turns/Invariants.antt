use Rattle.cbs_clients.specs.Houses.{IsHouseOnTime}
use Rattle.cbs_house_tests.proofs.callers.promises.promised_after_turns.Given as goal

abbrev pub invariant-loop : goal.invariant-loop
invariant-loop g l = IsHouseOnTime l.house
