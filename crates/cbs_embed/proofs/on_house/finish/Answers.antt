use Rattle.std.proofs.Common.{sym, subst}
use Rattle.cbs_core.specs.Held.{IsCoreOnTime, IsCorePaced}
use Rattle.cbs_embed.proofs.on_house.finish.Goals as goal

pub returns-in-Ok : goal.returns-in-Ok
returns-in-Ok c =
    let dropped = c.discard_results.ensures.discarded in
    record {
      done = c.in-Ok._done;
      between = c.finish.new.self;
      finish = c.in-Ok.ensures;
      drops = dropped;
      on_time = λ on. subst (λ core. IsCoreOnTime core) (sym dropped.core) (c.in-Ok.ensures.on_time on);
      paced = λ on. subst (λ core. IsCorePaced core) (sym dropped.core) (c.in-Ok.ensures.paced on);
    }
