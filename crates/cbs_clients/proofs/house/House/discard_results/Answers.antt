use Rattle.std.proofs.Common.{refl}
use Rattle.cbs_clients.proofs.HouseInvariant.{housed_handed}
use Rattle.cbs_clients.proofs.house.House.discard_results.Goals as goal

pub invariant_of-self : goal.invariant_of-self
invariant_of-self g c =
    let old = c.args.self.now in
    let d = c.discard in
    record {
      housed = housed_handed g.W.Work.meaning old.core old.core old.rings old.rings old.collector d.new.self old.housed c.args.server refl refl
          d.ensures.others.1 d.ensures.discarded d.ensures.others.0;
    }
