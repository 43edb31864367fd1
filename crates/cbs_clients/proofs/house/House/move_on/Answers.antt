use Rattle.std.proofs.Common.{◌≡◌, false, sym, ◌∙◌, inl, inr, rules}
use Rattle.std.proofs.lemmas.Bool.{false≢true}
use Rattle.cbs_clients.specs.Houses.{core_of}
use Rattle.cbs_clients.specs.UntilClosed.{moves_on}
use Rattle.cbs_clients.proofs.Turns.{turn_on, turn_idle, told_stops}
use Rattle.cbs_clients.proofs.Runs.{moves_later, serves_open, still_open}
use Rattle.cbs_clients.proofs.Tells.{tells_run}
use Rattle.cbs_clients.proofs.house.House.move_on.Goals as goal

pub returns-in_err-stopped_by-clause-run : goal.returns-in_err-stopped_by-clause-run
returns-in_err-stopped_by-clause-run g c =
    let t = c.turn_metered-turn in
    record {
      steps = t.ensures.steps;
      told = tells_run g.S.Sink.hears t.result.ran c.args.self.now t.new.self c.args.sink.now c.tell.new.sink t.ensures.collects
          t.ensures.numbered c.tell.ensures;
    }

pub returns-in_err-stopped_by-clause-on : goal.returns-in_err-stopped_by-clause-on
returns-in_err-stopped_by-clause-on g c =
    let t = c.turn_metered-turn in
    let a = c.args.self.now in (turn_on g.M.Meter.may_tell a t.new.self t.result t.ensures.turn, serves_open g.M.Meter.may_tell a t.new.self t.ensures.steps)

pub returns-in_err-stopped_by-clause-stops : goal.returns-in_err-stopped_by-clause-stops
returns-in_err-stopped_by-clause-stops g c =
    let t = c.turn_metered-turn in
    told_stops g.M.Meter.may_tell c.args.self.now t.new.self t.result t.ensures.turn c.from_residual.result (search rules)

pub returns-clause-run : goal.returns-clause-run
returns-clause-run g c =
    let t = c.turn_metered-turn in
    record {
      steps = t.ensures.steps;
      told = tells_run g.S.Sink.hears t.result.ran c.args.self.now t.new.self c.args.sink.now c.tell.new.sink t.ensures.collects
          t.ensures.numbered c.tell.ensures;
    }

pub returns-clause-on : goal.returns-clause-on
returns-clause-on g c =
    let t = c.turn_metered-turn in
    let a = c.args.self.now in (turn_on g.M.Meter.may_tell a t.new.self t.result t.ensures.turn, serves_open g.M.Meter.may_tell a t.new.self t.ensures.steps)

pub returns-clause-idle : goal.returns-clause-idle
returns-clause-idle g c = λ still.
    let t = c.turn_metered-turn in
    let a = c.args.self.now in
    let same : moves_on (core_of a) (core_of t.new.self) ≡ false = search rules in
    elim (turn_idle g.M.Meter.may_tell a t.new.self t.result t.ensures.turn c.in_ok-stopped_by.ensures) [
      | inl lt ↦ absurd (false≢true (sym same ∙ moves_later (core_of a) (core_of t.new.self) lt))
      | inr none ↦ none
    ]

pub open_after-requires-clause-still : goal.open_after-requires-clause-still
open_after-requires-clause-still g c = λ none.
    let t = c.turn_metered-turn in
    c.requires.unclosed.0 ∙ sym (still_open g.M.Meter.may_tell c.args.self.now t.new.self t.result t.ensures.turn t.ensures.steps none)
