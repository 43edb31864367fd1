use Rattle.std.proofs.Common.{◌<◌, length, arith, rules}
use Rattle.cbs_house.proofs.Feeds.{feeds_same, feeds_on, feeds_set, ready_set, ready_at}
use Rattle.cbs_clients.proofs.Moves.{serves_none, serves_then, by_rings}
use Rattle.cbs_house.proofs.StandingMessages.{received_more, taken_more}
use Rattle.cbs_house.proofs.service.take_rest.Goals as goal

pub loop-index-init : goal.loop-index-init
loop-index-init g c = record {
  ready = c.requires.ready;
  feeds = feeds_same c.args.feeds.now;
  steps = serves_none g.W.Work.meaning g.M.Meter.may_tell c.args.house.now;
  taken = λ k d p q. absurd (omega (arith, q));
}

pub returns-in_err-take_ring-clause-feeds : goal.returns-in_err-take_ring-clause-feeds
returns-in_err-take_ring-clause-feeds g c =
    let l = c.loop-index in
    let t = c.take_ring in
    feeds_on c.args.feeds.now l.feeds _ l.invariant.feeds (feeds_set l.feeds l.index t.new.feed c.index-feeds-index.result
    (omega (arith, c.loop-index-test.true)) t.ensures.feed)

pub returns-in_err-take_ring-clause-steps : goal.returns-in_err-take_ring-clause-steps
returns-in_err-take_ring-clause-steps g c = serves_then g.W.Work.meaning g.M.Meter.may_tell c.args.house.now c.loop-index.house c.take_ring.new.house
    c.loop-index.invariant.steps c.take_ring.ensures.steps

pub loop-index-preserved : goal.loop-index-preserved
loop-index-preserved g c =
    let work = g.W.Work.meaning in
    let l = c.loop-index in
    let t = c.take_ring in
    let within : l.index < length l.feeds = omega (arith, c.loop-index-test.true) in
    record {
      ready = ready_set l.house t.new.house l.feeds l.index t.new.feed c.index-feeds-index.result
          (by_rings work g.M.Meter.may_tell l.house t.new.house t.ensures.steps) within t.ensures.feed l.invariant.ready;
      feeds = feeds_on c.args.feeds.now l.feeds _ l.invariant.feeds (feeds_set l.feeds l.index t.new.feed c.index-feeds-index.result within t.ensures.feed);
      steps = serves_then work g.M.Meter.may_tell c.args.house.now l.house t.new.house l.invariant.steps t.ensures.steps;
      taken = taken_more l.house t.new.house l.feeds l.index t.new.feed within (received_more work g.M.Meter.may_tell l.house t.new.house t.ensures.steps)
          l.invariant.taken c.in_ok-take_ring.ensures.taken;
    }

pub take_ring-requires : goal.take_ring-requires
take_ring-requires g c =
    let l = c.loop-index in
    record { opened = ready_at l.house l.feeds l.index c.index-feeds-index.result (omega (arith, c.loop-index-test.true)) l.invariant.ready }

pub returns-in_err-take_ring-clause-ready : goal.returns-in_err-take_ring-clause-ready
returns-in_err-take_ring-clause-ready g c =
    let l = c.loop-index in
    let t = c.take_ring in
    ready_set l.house t.new.house l.feeds l.index t.new.feed c.index-feeds-index.result
    (by_rings g.W.Work.meaning g.M.Meter.may_tell l.house t.new.house t.ensures.steps) (omega (arith, c.loop-index-test.true)) t.ensures.feed l.invariant.ready

pub returns-clause-taken : goal.returns-clause-taken
returns-clause-taken g c = search rules
