use Rattle.std.proofs.Common.{◌≡◌, ◌≤◌, [], ◌++◌, true, false, vec_capacity, refl, sym, ◌∙◌, arith}
use Rattle.std.proofs.lemmas.List.{append-nil}
use Rattle.cbs_tape.specs.Tapes.{steps_in}
use Rattle.cbs_tape.proofs.Written.{none_are, no_steps, hands_out}
use Rattle.cbs_tape.proofs.tape.Tape.take.Goals as goal

pub invariant_of-self : goal.invariant_of-self
invariant_of-self g c = (none_are _ c.hand_out.ensures.none, λ whole. absurd (cc whole))

pub invariant_of-self-2 : goal.invariant_of-self-2
invariant_of-self-2 g c =
    let room = c.self.invariant.1 c.if-not-self.false in
    (none_are _ c.hand_out-2.ensures.none, λ whole. omega (arith, room, c.put_units.ensures.capacity, c.hand_out-2.ensures.len, c.hand_out-2.ensures.capacity))

pub returns-then-not-self-clause-taken : goal.returns-then-not-self-clause-taken
returns-then-not-self-clause-taken g c =
    let old = c.args.self.now in
    let bytes = c.self.inside.bytes.items in
    let h = c.hand_out.ensures in
    let none : steps_in c.hand_out.new.bytes.items ++ [] ≡ [] = append-nil (steps_in c.hand_out.new.bytes.items) ∙ no_steps _ h.none in
    let lost : c.self.inside.whole ≡ false = cc in
    let steps : steps_in bytes ≡ old.steps = rw (← c.self.view_is, lost) (sym (append-nil (steps_in bytes))) in
    let whole : c.self.inside.whole ≡ old.whole = rw (← c.self.view_is) refl in
    let size : old.size ≤ vec_capacity c.hand_out.new.bytes = rw (← c.self.view_is) (omega (arith, h.capacity)) in
    hands_out c.hand_out.result old _ bytes c.args.out.now c.hand_out.new.out c.self.invariant.0 steps h.count h.within h.out (rw lost none) whole
    (omega (arith, h.len)) size

pub returns-clause-taken : goal.returns-clause-taken
returns-clause-taken g c =
    let old = c.args.self.now in
    let bytes = c.put_units.new.bytes.items in
    let h = c.hand_out-2.ensures in
    let kept : c.self.inside.whole ≡ true = cc in
    let none : steps_in c.hand_out-2.new.bytes.items ++ [] ≡ [] = append-nil (steps_in c.hand_out-2.new.bytes.items) ∙ no_steps _ h.none in
    let steps : steps_in bytes ≡ old.steps = rw (← c.self.view_is, kept) (rw c.replace.ensures.value at c.put_units.ensures.tells.steps) in
    let whole : c.self.inside.whole ≡ old.whole = rw (← c.self.view_is) refl in
    let size : old.size ≤ vec_capacity c.hand_out-2.new.bytes = rw (← c.self.view_is) (omega (arith, h.capacity, c.put_units.ensures.capacity)) in
    hands_out c.hand_out-2.result old _ bytes c.args.out.now c.hand_out-2.new.out c.put_units.ensures.tells.are steps h.count h.within h.out
    (rw (kept, c.replace.ensures.after) none) whole (omega (arith, h.len)) size
