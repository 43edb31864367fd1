use Rattle.std.proofs.Common.{◌≡◌, ◌==◌, ◌-◌, true, false, le_refl, refl, ◌∙◌, rules, arith}
use Rattle.std.proofs.lemmas.Grind.{common_steps}
use Rattle.toml_parser.specs.Lexical.{first, skip_blank}
use Rattle.toml.specs.Data.{no_items, push_item}
use Rattle.toml.specs.Parse.{val}
use Rattle.toml.proofs.Turns.{items_end, items_more, items_bad, items_bad_end}
use Rattle.cbsrun_toml_tables.specs.Fields.{list_of}
use Rattle.cbsrun_task_steps.proofs.MoreSteps.{steps_err, list_of-push}
use Rattle.cbsrun_task_steps.proofs.steps.step_array.Goals as goal

pub items-init : goal.items-init
items-init c = (search rules, le_refl _, λ n h. (n, no_items, h, refl, c.new-found.ensures c.args.terms))

pub returns-then-first-eq93-clause-value : goal.returns-then-first-eq93-clause-value
returns-then-first-eq93-clause-value c n h =
    let l = c.items in
    let (m, ds, room, loop, spells) = l.invariant.2 n h in
    let closing : (first (skip_blank l.rest.now) == 93) ≡ true = grind (arith, common_steps) in
    (ds, loop ∙ items_end (val 79) m ds l.rest.now (omega arith) closing ∙ rw (c.skip.ensures.rest, c.skip_blank-start.ensures.rest), spells)

pub returns-in_err-after-clause-value : goal.returns-in_err-after-clause-value
returns-in_err-after-clause-value c n h =
    let l = c.items in
    let start_is = c.skip_blank-start.ensures.rest in
    let other : (first (skip_blank l.rest.now) == 93) ≡ false = grind (arith, common_steps) in
    let (m, ds, room, loop, spells) = l.invariant.2 n h in
    steps_err c.args.terms c.from_residual.result _ c.in_err-after.field-0.0 _ c.from_residual.ensures.1 (λ y p. p) λ refused.
    loop ∙ items_bad (val 79) m ds l.rest.now (omega arith) other (rw start_is at (c.in_err-after.ensures.refusal refused))

pub returns-in_err-rest-clause-value : goal.returns-in_err-rest-clause-value
returns-in_err-rest-clause-value c n h =
    let l = c.items in
    let start_is = c.skip_blank-start.ensures.rest in
    let other : (first (skip_blank l.rest.now) == 93) ≡ false = grind (arith, common_steps) in
    let (m, ds, room, loop, spells) = l.invariant.2 n h in
    steps_err c.args.terms c.from_residual-in_err-rest.result _ c.in_err-rest.field-0.0 _ c.from_residual-in_err-rest.ensures.1 (λ y p. p) λ refused.
    loop ∙ items_bad_end (val 79) m ds l.rest.now _ _ (omega arith) other (rw start_is at c.in_ok-after.ensures.read.read) (c.in_err-rest.ensures.value refused)

pub items-preserved : goal.items-preserved
items-preserved c =
    let l = c.items in
    let start_is = c.skip_blank-start.ensures.rest in
    let other : (first (skip_blank l.rest.now) == 93) ≡ false = grind (arith, common_steps) in
    let shorter = c.in_ok-after.ensures.shorter in
    let within = c.in_ok-rest.ensures.within in
    let before = c.skip_blank-start.ensures.within in (
      search rules,
      omega (arith, l.invariant.1),
      λ n h.
          let (m, ds, room, loop, spells) = l.invariant.2 n h in
          let taken = c.in_ok-after.ensures.read in
          let d = taken.entry in (
            m - 1,
            push_item ds d,
            omega arith,
            loop ∙ items_more (val 79) m ds l.rest.now d _ _ (omega arith) other (rw start_is at taken.read)
                c.in_ok-rest.ensures.value,
            rw (list_of-push ds d) (taken.took (list_of ds) spells),
          ),
    )
