use Rattle.std.proofs.Common.{◌+◌, ◌-◌, arith}
use Rattle.cbs_clients.specs.Houses.{rings_of}
use Rattle.cbs_house.proofs.Feeds.{keeps_feed, opened_same}
use Rattle.cbs_clients.proofs.Moves.{serves_then, serves_look, by_rings}
use Rattle.cbs_house.proofs.StandingMessages.{standing_at, standing_none}
use Rattle.cbs_house.proofs.service.take_ring.Goals as goal

pub loop-init : goal.loop-init
loop-init g c =
    let s = c.settle_feed-end in
    let old = c.args.house.now in
    record {
      steps = serves_look g.W.Work.meaning g.M.Meter.may_tell old s.new.house s.ensures.looked;
      opened = opened_same (rings_of old) (rings_of s.new.house) c.args.feed.now s.new.feed s.ensures.looked.rings s.ensures.feed c.requires.opened;
      standing = standing_at s.new.house s.new.feed.client s.result _ s.ensures.standing (omega arith);
    }

pub returns-in_err-take_message-clause-steps : goal.returns-in_err-take_message-clause-steps
returns-in_err-take_message-clause-steps g c = serves_then g.W.Work.meaning g.M.Meter.may_tell c.args.house.now c.loop.house c.take_message.new.house
    c.loop.invariant.steps c.take_message.ensures.steps

pub loop-preserved : goal.loop-preserved
loop-preserved g c =
    let work = g.W.Work.meaning in
    let l = c.loop in
    let t = c.take_message in
    let feed = c.settle_feed-end.new.feed in
    let n = c.settle_feed-end.result in
    record {
      steps = serves_then work g.M.Meter.may_tell c.args.house.now l.house t.new.house l.invariant.steps t.ensures.steps;
      opened = opened_same (rings_of l.house) (rings_of t.new.house) feed feed (by_rings work g.M.Meter.may_tell l.house t.new.house t.ensures.steps)
          (keeps_feed feed) l.invariant.opened;
      standing = c.in_ok-take_message.ensures.taken (n - (l.counter + 1))
          (standing_at l.house feed.client (n - l.counter) _ l.invariant.standing (omega (arith, c.loop-test.true)));
    }

pub returns-clause-taken : goal.returns-clause-taken
returns-clause-taken g c =
    let l = c.loop in
    let feed = c.settle_feed-end.new.feed in
    standing_none l.house feed (standing_at l.house feed.client (c.settle_feed-end.result - l.counter) 0 l.invariant.standing
    (omega (arith, c.loop-test.false)))
