use Rattle.cbs_clients.specs.Houses.{IsHouseOnTime}
use Rattle.cbs_embed.specs.Handles.{held_by}
use Rattle.cbs_house_tests.proofs.HeldHouses.{IsHeld}
use Rattle.cbs_house_tests.proofs.callers.promises.told_after_turns.Given as goal

abbrev pub invariant-loop : goal.invariant-loop
invariant-loop l = IsHeld (λ h. IsHouseOnTime h) (held_by l.house)
