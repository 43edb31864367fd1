use Rattle.std.proofs.Common.{◌≡◌, ◌+◌, sym, ◌∙◌, arith, rules}
use Rattle.std.proofs.lemmas.Bool.{false≢true}
use Rattle.cbs_house.specs.Feeds.{all_unsent, servers_of}
use Rattle.cbs_house.specs.Rounds.{IsStalled}
use Rattle.cbs_house.proofs.Feeds.{feeds_same, feeds_on}
use Rattle.cbs_clients.proofs.PacedMoves.{serves_paced}
use Rattle.cbs_clients.proofs.Moves.{serves_none, serves_on_time}
use Rattle.cbs_house.proofs.ServedFeeds.{all_served}
use Rattle.cbs_house.proofs.Rounds.{serves_round, rounds_none, rounds_next}
use Rattle.cbs_house.proofs.StandingMessages.{all_first}
use Rattle.cbs_house.proofs.service.serve_metered.Goals as goal

pub loop-init : goal.loop-init
loop-init g c = record {
  ready = c.requires.ready;
  feeds = feeds_same c.args.feeds.now;
  steps = serves_none g.W.Work.meaning g.M.Meter.may_tell c.args.house.now;
  rounds = rounds_none g.W.Work.meaning g.M.Meter.may_tell c.args.house.now c.args.feeds.now;
  stalled = λ p. absurd (omega (arith, p));
}

pub returns-in_err-finish_round-clause-feeds : goal.returns-in_err-finish_round-clause-feeds
returns-in_err-finish_round-clause-feeds g c =
    let r = c.serve_round_metered in
    feeds_on c.args.feeds.now r.new.feeds c.finish_round.new.feeds
    (feeds_on c.args.feeds.now c.loop.feeds r.new.feeds c.loop.invariant.feeds r.ensures.feeds) c.finish_round.ensures.feeds

pub returns-then-branch-clause-feeds : goal.returns-then-branch-clause-feeds
returns-then-branch-clause-feeds g c =
    let r = c.serve_round_metered in
    feeds_on c.args.feeds.now r.new.feeds c.finish_round.new.feeds
    (feeds_on c.args.feeds.now c.loop.feeds r.new.feeds c.loop.invariant.feeds r.ensures.feeds) c.finish_round.ensures.feeds

pub returns-in_err-finish_round-clause-steps : goal.returns-in_err-finish_round-clause-steps
returns-in_err-finish_round-clause-steps g c =
    let r = c.serve_round_metered in
    serves_round g.W.Work.meaning g.M.Meter.may_tell 10000 (servers_of c.loop.feeds) c.args.house.now c.loop.house r.new.house c.finish_round.new.house
    r.result.took c.loop.invariant.steps r.ensures.took c.finish_round.ensures.steps

pub returns-then-branch-clause-steps : goal.returns-then-branch-clause-steps
returns-then-branch-clause-steps g c =
    let r = c.serve_round_metered in
    serves_round g.W.Work.meaning g.M.Meter.may_tell 10000 (servers_of c.loop.feeds) c.args.house.now c.loop.house r.new.house c.finish_round.new.house
    r.result.took c.loop.invariant.steps r.ensures.took c.finish_round.ensures.steps

pub returns-then-branch-clause-served : goal.returns-then-branch-clause-served
returns-then-branch-clause-served g c =
    let f = c.in_ok-finish_round.ensures in
    let h = c.finish_round.new.house in
    (all_served g.W.Work.meaning h h.housed c.finish_round.new.feeds f.drained f.ready (f.done.0 c.if-branch.true) f.settled, f.drained)

pub loop-preserved : goal.loop-preserved
loop-preserved g c =
    let work = g.W.Work.meaning in
    let may = g.M.Meter.may_tell in
    let l = c.loop in
    let r = c.serve_round_metered in
    let f = c.finish_round in
    let ok = c.in_ok-finish_round.ensures in
    let stalled : IsStalled f.new.house f.new.feeds = record {
      drained = ok.drained;
      settled = ok.settled;
      undone = λ done. false≢true (sym c.if-branch.false ∙ ok.done.1 done);
    } in
    record {
      ready = f.ensures.ready;
      feeds = feeds_on c.args.feeds.now r.new.feeds f.new.feeds
          (feeds_on c.args.feeds.now l.feeds r.new.feeds l.invariant.feeds r.ensures.feeds) f.ensures.feeds;
      steps = serves_round work may 10000 (servers_of l.feeds) c.args.house.now l.house r.new.house f.new.house r.result.took
          l.invariant.steps r.ensures.took f.ensures.steps;
      rounds = rounds_next work may l.counter c.args.house.now l.house f.new.house c.args.feeds.now l.feeds f.new.feeds l.invariant.rounds
          (record {
            house = r.new.house;
            feeds = r.new.feeds;
            took = r.result.took;
            turns = r.ensures.took;
            sends = record { kept = r.ensures.feeds; most = r.ensures.each };
            finish = f.ensures.steps;
            kept = f.ensures.feeds;
            stalled = stalled;
          });
      stalled = λ p. stalled;
    }

pub returns-then-branch-clause-stops : goal.returns-then-branch-clause-stops
returns-then-branch-clause-stops g c = search rules

pub returns-in_err-finish_round-clause-paced : goal.returns-in_err-finish_round-clause-paced
returns-in_err-finish_round-clause-paced g c =
    let a = c.args.house.now in
    serves_paced g.W.Work.meaning g.M.Meter.may_tell a c.finish_round.new.house a.housed.history (returns-in_err-finish_round-clause-steps g c)

pub returns-in_err-finish_round-clause-on_time : goal.returns-in_err-finish_round-clause-on_time
returns-in_err-finish_round-clause-on_time g c = λ never.
    let a = c.args.house.now in
    serves_on_time g.W.Work.meaning g.M.Meter.may_tell a c.finish_round.new.house never a.housed.history (returns-in_err-finish_round-clause-steps g c)

pub returns-then-branch-clause-paced : goal.returns-then-branch-clause-paced
returns-then-branch-clause-paced g c =
    let a = c.args.house.now in
    serves_paced g.W.Work.meaning g.M.Meter.may_tell a c.finish_round.new.house a.housed.history (returns-then-branch-clause-steps g c)

pub returns-then-branch-clause-on_time : goal.returns-then-branch-clause-on_time
returns-then-branch-clause-on_time g c = λ never.
    let a = c.args.house.now in
    serves_on_time g.W.Work.meaning g.M.Meter.may_tell a c.finish_round.new.house never a.housed.history (returns-then-branch-clause-steps g c)

pub returns-clause-paced : goal.returns-clause-paced
returns-clause-paced g c =
    let a = c.args.house.now in
    serves_paced g.W.Work.meaning g.M.Meter.may_tell a c.loop.house a.housed.history c.loop.invariant.steps

pub returns-clause-on_time : goal.returns-clause-on_time
returns-clause-on_time g c = λ never.
    let a = c.args.house.now in
    serves_on_time g.W.Work.meaning g.M.Meter.may_tell a c.loop.house never a.housed.history c.loop.invariant.steps

pub returns-in_err-finish_round-clause-ready : goal.returns-in_err-finish_round-clause-ready
returns-in_err-finish_round-clause-ready g c = c.finish_round.ensures.ready

pub returns-in_err-finish_round-clause-stops : goal.returns-in_err-finish_round-clause-stops
returns-in_err-finish_round-clause-stops g c = search rules

pub returns-then-branch-clause-ready : goal.returns-then-branch-clause-ready
returns-then-branch-clause-ready g c = c.finish_round.ensures.ready

pub returns-clause-ready : goal.returns-clause-ready
returns-clause-ready g c = c.loop.invariant.ready

pub returns-clause-feeds : goal.returns-clause-feeds
returns-clause-feeds g c = c.loop.invariant.feeds

pub returns-clause-steps : goal.returns-clause-steps
returns-clause-steps g c = c.loop.invariant.steps

pub returns-clause-received : goal.returns-clause-received
returns-clause-received g c =
    all_first c.loop.house c.loop.feeds (c.loop.invariant.stalled (omega (arith, c.rounds_for-end.ensures, c.loop-test.false))).settled

pub returns-clause-stops : goal.returns-clause-stops
returns-clause-stops g c =
    let l = c.loop in
    let all : l.counter ≡ all_unsent c.args.feeds.now + 1 = omega (arith, c.rounds_for-end.ensures, c.loop-test.false) in
    (l.invariant.stalled (omega (arith, all)), rw (← all) l.invariant.rounds)
