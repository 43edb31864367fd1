use Rattle.std.proofs.Common.{◌≡◌, ◌<◌, length, refl, ap, ◌∙◌, arith, length-set}
use Rattle.std.proofs.lemmas.List.{take_all, length-map}
use Rattle.cbs_house.specs.Feeds.{servers_of}
use Rattle.cbs_house.proofs.Feeds.{server_noted}
use Rattle.cbs_house.proofs.round.servers_of.Goals as goal

pub loop-index-init : goal.loop-index-init
loop-index-init g c = record { count = c.told-servers; noted = refl }

pub loop-index-preserved : goal.loop-index-preserved
loop-index-preserved g c =
    let l = c.loop-index in
    let fs = c.args.feeds.now in
    let feed = c.index-feeds-index in
    let within : l.index < length fs = omega (arith, c.loop-index-test.true) in
    let room : l.index < length l.servers = omega (arith, within, c.requires, l.invariant.count) in
    record {
      count = length-set l.servers l.index c.server.result ∙ l.invariant.count;
      noted = server_noted l.servers fs l.index c.server.result feed.result room within
          (c.server.ensures ∙ ap (λ f. f.client.server) feed.is) l.invariant.noted;
    }

pub returns : goal.returns
returns g c =
    let l = c.loop-index in
    let fs = c.args.feeds.now in
    let all : l.index ≡ length fs = omega (arith, c.loop-index-test.false, l.auto.index-end) in
    rw (← all) (l.invariant.noted ∙ take_all l.index (servers_of fs) (omega (arith, all, length-map fs (λ f. f.client.server))))
