use Rattle.std.proofs.Common.{◌≡◌, ◌==◌, ◌-◌, ◌≤◌, pos, true, false, le_refl, refl, ◌∙◌, length, rules, arith}
use Rattle.std.proofs.lemmas.Grind.{common_steps}
use Rattle.cbs_rate.specs.Limits.{most_units, greatest_number}
use Rattle.toml_parser.specs.Lexical.{first, skip_blank}
use Rattle.toml.specs.Data.{integer, no_items, push_item}
use Rattle.toml.specs.Parse.{val}
use Rattle.toml.proofs.Turns.{items_end, items_more}
use Rattle.cbsrun_task_steps.proofs.PlainSteps.{no_units, more_units}
use Rattle.cbsrun_task_steps.proofs.plain.units_in.Goals as goal

pub items-init : goal.items-init
items-init c = (search rules, search rules, le_refl _, λ depth n h. (n, no_items, h, refl, no_units _ c.new-units.ensures.items))

pub returns-then-first-eq93-clause-value : goal.returns-then-first-eq93-clause-value
returns-then-first-eq93-clause-value c depth n h =
    let l = c.items in
    let (m, ds, room, loop, are) = l.invariant.3 depth n h in
    let closing : (first (skip_blank l.rest.now) == 93) ≡ true = grind (arith, common_steps) in
    (ds, loop ∙ items_end (val depth) m ds l.rest.now (omega arith) closing ∙ rw (c.skip.ensures.rest, c.after_trivia-start.ensures.rest), are)

pub items-preserved : goal.items-preserved
items-preserved c =
    let l = c.items in
    let start_is = c.after_trivia-start.ensures.rest in
    let other : (first (skip_blank l.rest.now) == 93) ≡ false = grind (arith, common_steps) in
    let shorter = c.in_ok-number.ensures.shorter in
    let within = c.in-Ok-after_element.ensures.within in
    let before = c.after_trivia-start.ensures.within in
    let most : c.in_ok-number.number ≤ greatest_number = grind (arith, common_steps) in
    let few : length c.push.new.self.items ≤ most_units = grind (arith, common_steps) in (
      search rules,
      few,
      omega (arith, l.invariant.2),
      λ depth n h.
          let (m, ds, room, loop, are) = l.invariant.3 depth n h in
          let d = integer (pos c.in_ok-number.number) in (
            m - 1,
            push_item ds d,
            omega arith,
            loop ∙ items_more (val depth) m ds l.rest.now d _ _ (omega arith) other (rw start_is at (c.in_ok-number.ensures.value depth))
                c.in-Ok-after_element.ensures.value,
            more_units l.units.items c.push.new.self.items ds c.in_ok-number.number are most c.in-Ok.ensures.items,
          ),
    )
