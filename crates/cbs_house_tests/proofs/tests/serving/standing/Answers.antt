use Rattle.std.proofs.Common.{get_or, refl, sym, subst}
use Rattle.cbs_clients.specs.Houses.{rings_of}
use Rattle.cbs_clients.specs.Clients.{IsOpened}
use Rattle.cbs_house.proofs.Feeds.{keeps_looked, ready_at, ready_set}
use Rattle.cbs_house_tests.proofs.tests.serving.standing.Goals as goal

pub settle-requires : goal.settle-requires
settle-requires c =
    subst (λ x. IsOpened (rings_of c.args.house.now) x) (sym c.client.ensures.value)
    (ready_at c.args.house.now c.args.feeds.now c.args.index c.index-feeds-index.result c.requires.within c.requires.ready)

pub returns : goal.returns
returns c =
    let fs = c.args.feeds.now in
    let d = c.index-feeds-index.result in
    let old = get_or fs c.args.index d in
    let s = c.settle in
    let looked = rw c.client.ensures.value at s.ensures.client in
    record {
      ready =
          ready_set c.args.house.now s.new.self fs c.args.index (record { client = s.new.client; jobs = old.jobs }) d s.ensures.looked.rings c.requires.within
          (keeps_looked old (record { client = s.new.client; jobs = old.jobs }) looked.same looked.sent refl) c.requires.ready;
    }
