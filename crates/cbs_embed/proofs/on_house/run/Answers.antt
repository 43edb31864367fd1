use Rattle.cbs_core.specs.Held.{IsCoreOnTime, IsCorePaced}
use Rattle.cbs_embed.proofs.Drops.{drops_keep}
use Rattle.cbs_embed.proofs.on_house.run.Goals as goal

pub returns : goal.returns
returns c =
    let r = c.run-ran in
    record {
      between = r.new.self;
      run = r.ensures;
      named = c.token_of-token.ensures;
      drops = c.forget.ensures;
      on_time = λ on. drops_keep (λ core. IsCoreOnTime core) r.result r.new.self c.forget.new.house c.forget.ensures (r.ensures.on_time on);
      paced = λ on. drops_keep (λ core. IsCorePaced core) r.result r.new.self c.forget.new.house c.forget.ensures (r.ensures.paced on);
    }
