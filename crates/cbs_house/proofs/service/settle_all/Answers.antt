use Rattle.std.proofs.Common.{◌<◌, length, arith, rules}
use Rattle.cbs_house.proofs.Feeds.{feeds_same, feeds_on, feeds_set, ready_set, ready_at}
use Rattle.cbs_house.proofs.Looks.{looks_none, looks_then, first_more}
use Rattle.cbs_house.proofs.StandingMessages.{standing_first, taken_set, taken_looked}
use Rattle.cbs_house.proofs.service.settle_all.Goals as goal

pub loop-index-init : goal.loop-index-init
loop-index-init g c = record {
  ready = c.requires.ready;
  feeds = feeds_same c.args.feeds.now;
  looked = looks_none c.args.house.now;
  received = λ k d p q. absurd (omega (arith, q));
  taken = λ was. was;
}

pub loop-index-preserved : goal.loop-index-preserved
loop-index-preserved g c =
    let l = c.loop-index in
    let t = c.settle_feed in
    let feed = c.index-feeds-index in
    let within : l.index < length l.feeds = omega (arith, c.loop-index-test.true) in
    record {
      ready = ready_set l.house t.new.house l.feeds l.index t.new.feed feed.result t.ensures.looked.rings within t.ensures.feed l.invariant.ready;
      feeds = feeds_on c.args.feeds.now l.feeds _ l.invariant.feeds (feeds_set l.feeds l.index t.new.feed feed.result within t.ensures.feed);
      looked = looks_then c.args.house.now l.house t.new.house l.invariant.looked t.ensures.looked;
      received = first_more l.house t.new.house l.feeds l.index t.new.feed within t.ensures.looked l.invariant.received
          (standing_first t.new.house t.new.feed t.result t.ensures.standing);
      taken = λ was.
          let now = l.invariant.taken was in
          taken_set t.new.house l.feeds l.index t.new.feed (taken_looked l.house t.new.house l.feeds t.ensures.looked now)
          (t.ensures.taken (now l.index feed.result within));
    }

pub settle_feed-requires : goal.settle_feed-requires
settle_feed-requires g c =
    let l = c.loop-index in
    record { opened = ready_at l.house l.feeds l.index c.index-feeds-index.result (omega (arith, c.loop-index-test.true)) l.invariant.ready }

pub returns-clause-received : goal.returns-clause-received
returns-clause-received g c = search rules
