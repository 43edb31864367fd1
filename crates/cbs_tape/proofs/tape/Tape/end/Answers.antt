use Rattle.std.proofs.Common.{◌≡◌, ◌++◌, true, false, refl}
use Rattle.std.proofs.Math.ListN.{replicate}
use Rattle.std.proofs.lemmas.List.{append-nil}
use Rattle.cbs_steps.specs.declared.step.Step.TheVariants as step
use Rattle.cbs_tape.specs.Tapes.{steps_in}
use Rattle.cbs_tape.proofs.Written.{pieces_marked, pieces_cut}
use Rattle.cbs_tape.proofs.tape.Tape.end.Goals as goal

pub returns-then-whole-clause-pieces : goal.returns-then-whole-clause-pieces
returns-then-whole-clause-pieces g c =
    let steps : c.args.self.steps ≡ steps_in c.self.inside.bytes.items ++ replicate c.self.inside.units step.Run = rw (← c.self.view_is, c.if-whole.true) refl in
    let whole : c.args.self.whole ≡ true = rw (← c.self.view_is, c.if-whole.true) refl in
    pieces_marked c.self.inside.bytes.items c.put_units.new.bytes.items c.push_reserved.new.self.items (replicate c.self.inside.units step.Run) c.args.self
    c.put_units.ensures.tells c.push_reserved.ensures.items steps whole

pub returns-else-whole-clause-pieces : goal.returns-else-whole-clause-pieces
returns-else-whole-clause-pieces g c =
    let steps : c.args.self.steps ≡ steps_in c.self.inside.bytes.items = rw (← c.self.view_is, c.if-whole.false) (append-nil (steps_in c.self.inside.bytes.items)) in
    let whole : c.args.self.whole ≡ false = rw (← c.self.view_is, c.if-whole.false) refl in
    pieces_cut c.self.inside.bytes.items c.args.self c.self.invariant.0 steps whole
