use Rattle.std.proofs.Common.{arith}
use Rattle.cbs_house.proofs.Feeds.{keeps_feed, keeps_feed_on}
use Rattle.cbs_house.proofs.senders.send_turns.Goals.{then-turn, else-turn}
use Rattle.cbs_house.proofs.senders.send_turns.Goals as goal

pub loop-init : goal.loop-init
loop-init g c = record { kept = keeps_feed c.args.feed.now; count = omega arith; most = omega arith }

pub loop-preserved : goal.loop-preserved
loop-preserved g c =
    let l = c.loop.invariant in
    let t = c.turn.ensures in
    record {
      kept = keeps_feed_on c.args.feed.now c.loop.feed c.turn.new.self l.kept t.kept;
      count = elim c.if-turn.branch [
        | then-turn w ↦ let n = rw w.if-turn.true at t.count in omega (arith, n, l.count, w.sent-is)
        | else-turn w ↦ let n = rw w.if-turn.false at t.count in omega (arith, n, l.count, w.sent-is)
      ];
      most = elim c.if-turn.branch [ then-turn w ↦ omega (arith, l.most, w.sent-is) | else-turn w ↦ omega (arith, l.most, w.sent-is) ];
    }

pub returns-after-loop-clause-kept : goal.returns-after-loop-clause-kept
returns-after-loop-clause-kept g c = c.loop.invariant.kept

pub returns-after-loop-clause-count : goal.returns-after-loop-clause-count
returns-after-loop-clause-count g c = c.loop.invariant.count

pub returns-after-loop-clause-most : goal.returns-after-loop-clause-most
returns-after-loop-clause-most g c = omega (arith, c.loop.invariant.most)

pub returns-then-done-clause-kept : goal.returns-then-done-clause-kept
returns-then-done-clause-kept g c = c.loop.invariant.kept

pub returns-then-done-clause-count : goal.returns-then-done-clause-count
returns-then-done-clause-count g c = c.loop.invariant.count

pub returns-then-done-clause-most : goal.returns-then-done-clause-most
returns-then-done-clause-most g c = omega (arith, c.loop.invariant.most)

pub overflow_add-sent : goal.overflow_add-sent
overflow_add-sent g c = omega (arith, c.loop.invariant.most)
