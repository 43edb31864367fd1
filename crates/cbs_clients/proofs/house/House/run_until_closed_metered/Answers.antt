use Rattle.std.proofs.Common.{◌≡◌, max, true, false, Some, arith, rules, sym, ◌∙◌}
use Rattle.std.specs.Prelude.{IfErr}
use Rattle.std.proofs.lemmas.Bool.{false≢true}
use Rattle.cbs_clients.specs.Houses.{core_of}
use Rattle.cbs_clients.specs.UntilClosed.{moves_on, turn_stop, IsDue, RunStops}
use Rattle.cbs_clients.proofs.HouseInvariant.{none_held}
use Rattle.cbs_clients.proofs.PacedMoves.{serves_paced}
use Rattle.cbs_clients.proofs.Moves.{serves_on_time}
use Rattle.cbs_clients.proofs.Runs.{run_none, run_then, result_behind, run_begins, run_goes_on, run_stopped, less_left, left_of, fewer_turns}
use Rattle.cbs_clients.proofs.house.House.run_until_closed_metered.Goals as goal

pub turns-init : goal.turns-init
turns-init g c = record {
  run = run_none g.W.Work.meaning g.M.Meter.may_tell g.S.Sink.hears c.args.self.now c.args.sink.now;
  on = run_begins g.W.Work.meaning g.M.Meter.may_tell c.max-most.result c.args.self.now;
  within = omega arith;
  idle = λ lt. absurd (omega (arith, lt));
  unclosed = c.open_servers-unclosed.ensures.count;
  few = c.open_servers-unclosed.ensures.few;
}

pub returns-then-idle-most-clause-paced : goal.returns-then-idle-most-clause-paced
returns-then-idle-most-clause-paced g c =
    let a = c.args.self.now in
    serves_paced g.W.Work.meaning g.M.Meter.may_tell a c.turns.self a.housed.history c.turns.invariant.run.steps

pub returns-then-idle-most-clause-on_time : goal.returns-then-idle-most-clause-on_time
returns-then-idle-most-clause-on_time g c = λ never.
    let a = c.args.self.now in
    serves_on_time g.W.Work.meaning g.M.Meter.may_tell a c.turns.self never a.housed.history c.turns.invariant.run.steps

pub returns-clause-paced : goal.returns-clause-paced
returns-clause-paced g c =
    let a = c.args.self.now in
    serves_paced g.W.Work.meaning g.M.Meter.may_tell a c.turns.self a.housed.history c.turns.invariant.run.steps

pub returns-clause-on_time : goal.returns-clause-on_time
returns-clause-on_time g c = λ never.
    let a = c.args.self.now in
    serves_on_time g.W.Work.meaning g.M.Meter.may_tell a c.turns.self never a.housed.history c.turns.invariant.run.steps

pub returns-in_err-move_on-clause-steps : goal.returns-in_err-move_on-clause-steps
returns-in_err-move_on-clause-steps g c =
    let l = c.turns in
    let m = c.move_on in
    (run_then g.W.Work.meaning g.M.Meter.may_tell g.S.Sink.hears c.args.self.now l.self m.new.self c.args.sink.now l.sink m.new.sink l.invariant.run m.ensures.run).steps

pub returns-in_err-move_on-clause-told : goal.returns-in_err-move_on-clause-told
returns-in_err-move_on-clause-told g c =
    let l = c.turns in
    let m = c.move_on in
    (run_then g.W.Work.meaning g.M.Meter.may_tell g.S.Sink.hears c.args.self.now l.self m.new.self c.args.sink.now l.sink m.new.sink l.invariant.run m.ensures.run).told

pub returns-in_err-move_on-clause-paced : goal.returns-in_err-move_on-clause-paced
returns-in_err-move_on-clause-paced g c =
    let a = c.args.self.now in
    serves_paced g.W.Work.meaning g.M.Meter.may_tell a c.move_on.new.self a.housed.history (returns-in_err-move_on-clause-steps g c)

pub returns-in_err-move_on-clause-on_time : goal.returns-in_err-move_on-clause-on_time
returns-in_err-move_on-clause-on_time g c = λ never.
    let a = c.args.self.now in
    serves_on_time g.W.Work.meaning g.M.Meter.may_tell a c.move_on.new.self never a.housed.history (returns-in_err-move_on-clause-steps g c)

pub returns-in_err-move_on-clause-stops : goal.returns-in_err-move_on-clause-stops
returns-in_err-move_on-clause-stops g c =
    let work = g.W.Work.meaning in
    let l = c.turns in
    let m = c.move_on in
    let stops : IfErr c.from_residual.result (λ error. RunStops work g.M.Meter.may_tell error l.self m.new.self) = search rules in
    result_behind work g.M.Meter.may_tell c.args.self.now l.self m.new.self c.from_residual.result l.invariant.run.steps stops

pub returns-in_err-move_on-clause-ends : goal.returns-in_err-move_on-clause-ends
returns-in_err-move_on-clause-ends g c =
    let l = c.turns in
    let t = c.in_err-move_on.ensures.turn in
    let due : IsDue c.max-most.result l.idle (core_of l.self) =
    record {
      unfinished = λ over. false≢true (sym c.turns-test.true ∙ c.is_over_with.ensures.over.1 over);
      patient = omega (arith, l.invariant.within, c.if-idle-most.false);
    } in
    let why : IfErr c.from_residual.result (λ error. turn_stop t.turn ≡ Some error) = search rules in
    let most : c.max-most.result ≡ max c.args.idle_turns 1 = search rules in
    rw (← most) (run_stopped g.W.Work.meaning g.M.Meter.may_tell c.max-most.result l.idle c.args.self.now l.self c.move_on.new.self t.turn l.invariant.on due
    t.taken c.from_residual.result c.from_residual.ensures.0 why)

pub turns-smaller-then-branch : goal.turns-smaller-then-branch
turns-smaller-then-branch g c =
    let old = core_of c.turns.self in
    let new = core_of c.move_on.new.self in
    let is = c.in_ok-move_on.ensures in
    fewer_turns c.max-most.result c.turns.idle (left_of old) (left_of new)
    (less_left old new (sym is.turn.is.1 ∙ c.if-branch.true) is.on.0 is.few.0 is.on.1 (rw is.unclosed at is.few.1))

pub turns-preserved-then-branch : goal.turns-preserved-then-branch
turns-preserved-then-branch g c =
    let work = g.W.Work.meaning in
    let l = c.turns in
    let m = c.move_on in
    let t = c.in_ok-move_on.ensures.turn in
    let due : IsDue c.max-most.result l.idle (core_of l.self) =
    record {
      unfinished = λ over. false≢true (sym c.turns-test.true ∙ c.is_over_with.ensures.over.1 over);
      patient = omega (arith, l.invariant.within, c.if-idle-most.false);
    } in
    let moved : moves_on (core_of l.self) (core_of m.new.self) ≡ true = sym t.is.1 ∙ c.if-branch.true in
    record {
      run = run_then work g.M.Meter.may_tell g.S.Sink.hears c.args.self.now l.self m.new.self c.args.sink.now l.sink m.new.sink l.invariant.run m.ensures.run;
      on = rw moved at (run_goes_on work g.M.Meter.may_tell c.max-most.result c.args.self.now l.self m.new.self l.idle t.turn l.invariant.on due t.taken t.is.0);
      within = omega arith;
      idle = λ lt. absurd (omega (arith, lt));
      unclosed = c.in_ok-move_on.ensures.unclosed;
      few = c.in_ok-move_on.ensures.few.1;
    }

pub turns-preserved : goal.turns-preserved
turns-preserved g c =
    let work = g.W.Work.meaning in
    let l = c.turns in
    let m = c.move_on in
    let t = c.in_ok-move_on.ensures.turn in
    let due : IsDue c.max-most.result l.idle (core_of l.self) =
    record {
      unfinished = λ over. false≢true (sym c.turns-test.true ∙ c.is_over_with.ensures.over.1 over);
      patient = omega (arith, l.invariant.within, c.if-idle-most.false);
    } in
    let still : moves_on (core_of l.self) (core_of m.new.self) ≡ false = sym t.is.1 ∙ c.if-branch.false in
    record {
      run = run_then work g.M.Meter.may_tell g.S.Sink.hears c.args.self.now l.self m.new.self c.args.sink.now l.sink m.new.sink l.invariant.run m.ensures.run;
      on = rw still at (run_goes_on work g.M.Meter.may_tell c.max-most.result c.args.self.now l.self m.new.self l.idle t.turn l.invariant.on due t.taken t.is.0);
      within = omega (arith, l.invariant.within, c.if-idle-most.false);
      idle = λ lt. c.in_ok-move_on.ensures.idle c.if-branch.false;
      unclosed = c.in_ok-move_on.ensures.unclosed;
      few = c.in_ok-move_on.ensures.few.1;
    }

pub returns-then-idle-most-clause-steps : goal.returns-then-idle-most-clause-steps
returns-then-idle-most-clause-steps g c = c.turns.invariant.run.steps

pub returns-then-idle-most-clause-told : goal.returns-then-idle-most-clause-told
returns-then-idle-most-clause-told g c = c.turns.invariant.run.told

pub returns-then-idle-most-clause-rings : goal.returns-then-idle-most-clause-rings
returns-then-idle-most-clause-rings g c = c.turns.invariant.run.steps.moves.1.made.rings

pub returns-then-idle-most-clause-ends : goal.returns-then-idle-most-clause-ends
returns-then-idle-most-clause-ends g c =
    let most = c.max-most.ensures in
    (rw (← most) (rw c.if-idle-most.true at c.turns.invariant.on), λ over. false≢true (sym c.turns-test.true ∙ c.is_over_with.ensures.over.1 over))

pub returns-then-idle-most-clause-stops : goal.returns-then-idle-most-clause-stops
returns-then-idle-most-clause-stops g c =
    let most = c.max-most.ensures in
    c.is_over_with.ensures.waits c.turns-test.true (c.turns.invariant.idle (omega (arith, most, c.if-idle-most.true)))

pub returns-clause-steps : goal.returns-clause-steps
returns-clause-steps g c = c.turns.invariant.run.steps

pub returns-clause-told : goal.returns-clause-told
returns-clause-told g c = c.turns.invariant.run.told

pub returns-clause-rings : goal.returns-clause-rings
returns-clause-rings g c = c.turns.invariant.run.steps.moves.1.made.rings

pub returns-clause-ends : goal.returns-clause-ends
returns-clause-ends g c =
    let most = c.max-most.ensures in ((c.turns.idle, rw (← most) c.turns.invariant.on), c.is_over_with.ensures.over.0 c.turns-test.false)

pub returns-clause-finished : goal.returns-clause-finished
returns-clause-finished g c =
    none_held g.W.Work.meaning c.turns.self c.turns.self.housed (c.is_over_with.ensures.over.0 c.turns-test.false).drained

pub returns-in_err-move_on-clause-rings : goal.returns-in_err-move_on-clause-rings
returns-in_err-move_on-clause-rings g c =
    (returns-in_err-move_on-clause-steps g c).moves.1.made.rings

pub is_over_with-requires : goal.is_over_with-requires
is_over_with-requires g c = c.turns.invariant.unclosed

pub move_on-requires : goal.move_on-requires
move_on-requires g c = record { unclosed = (c.turns.invariant.unclosed, c.turns.invariant.few) }

pub returns-in_err-move_on-clause-finished : goal.returns-in_err-move_on-clause-finished
returns-in_err-move_on-clause-finished g c = search rules

pub overflow_add-idle : goal.overflow_add-idle
overflow_add-idle g c = omega arith

pub turns-smaller : goal.turns-smaller
turns-smaller g c = search rules
