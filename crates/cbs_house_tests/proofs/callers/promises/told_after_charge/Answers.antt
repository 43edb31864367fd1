use Rattle.cbs_clients.specs.Houses.{IsHousePaced}
use Rattle.cbs_embed.specs.Calls.{Turns}
use Rattle.cbs_embed.specs.Handles.{held_by}
use Rattle.cbs_house_tests.proofs.HeldHouses.{opened, called}
use Rattle.cbs_house_tests.proofs.callers.promises.told_after_charge.Goals as goal

pub loop-init : goal.loop-init
loop-init c =
    let o = c.in_ok-open.ensures.ok in
    opened (λ h. IsHousePaced h) (held_by c.open.new.house) o.house o.holds o.new.paced

pub loop-preserved : goal.loop-preserved
loop-preserved c = called Turns (λ h. IsHousePaced h) c.in_ok-turn.field-0 (λ a b turn. turn.paced)
    (held_by c.loop.house) (held_by c.turn.new.handle) c.in_ok-turn.ensures c.loop.invariant
