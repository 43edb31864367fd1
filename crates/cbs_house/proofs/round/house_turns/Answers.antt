use Rattle.std.proofs.Common.{arith}
use Rattle.cbs_house.proofs.Rounds.{turns_none, turns_next, turns_within}
use Rattle.cbs_clients.proofs.PolledServers.{same_servers}
use Rattle.cbs_house.proofs.round.house_turns.Goals as goal

pub loop-init : goal.loop-init
loop-init g c = record { taken = turns_none g.W.Work.meaning g.M.Meter.may_tell c.args.house.now; few = omega arith; most = omega arith }

pub loop-preserved : goal.loop-preserved
loop-preserved g c =
    let work = g.W.Work.meaning in
    let old = c.args.house.now in
    let l = c.loop in
    let t = c.house_turn-taken in
    let same = same_servers work old l.house old.housed l.house.housed l.invariant.taken.made.rings in
    record {
      taken = turns_next work g.M.Meter.may_tell old l.house t.new.house l.counter l.took t.result same l.invariant.taken t.ensures.turn;
      few = omega (arith, l.invariant.few, t.ensures.few, same);
      most = omega (arith, l.invariant.most, t.ensures.most);
    }

pub returns-then-all_closed-clause-turns : goal.returns-then-all_closed-clause-turns
returns-then-all_closed-clause-turns g c =
    let l = c.loop in
    turns_within g.W.Work.meaning g.M.Meter.may_tell c.args.turns l.counter c.args.wanted.now c.args.house.now l.house l.took (omega arith)
    (λ fewer. c.all_closed.ensures.0 c.if-all_closed.true) l.invariant.taken

pub returns-after-loop-clause-turns : goal.returns-after-loop-clause-turns
returns-after-loop-clause-turns g c =
    let l = c.loop in
    turns_within g.W.Work.meaning g.M.Meter.may_tell c.args.turns l.counter c.args.wanted.now c.args.house.now l.house l.took (omega arith)
    (λ fewer. absurd (omega (arith, fewer))) l.invariant.taken

pub overflow_add-took : goal.overflow_add-took
overflow_add-took g c = let l = c.loop in omega (arith, l.invariant.most, c.house_turn-taken.ensures.most, c.requires)
