use Rattle.cbs_core.specs.Held.{IsCoreOnTime, IsCorePaced}
use Rattle.cbs_embed.proofs.Drops.{drops_keep}
use Rattle.cbs_embed.proofs.on_house.turn.Goals as goal

pub returns : goal.returns
returns c =
    let t = c.turn-turn in
    record {
      between = t.new.self;
      turn = t.ensures;
      named = c.token_of-token.ensures;
      drops = c.forget.ensures;
      over = c.is_over-over.ensures;
      on_time = λ on. drops_keep (λ core. IsCoreOnTime core) t.result.ran t.new.self c.forget.new.house c.forget.ensures (t.ensures.on_time on);
      paced = λ on. drops_keep (λ core. IsCorePaced core) t.result.ran t.new.self c.forget.new.house c.forget.ensures (t.ensures.paced on);
    }
