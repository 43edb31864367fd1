use Rattle.std.proofs.Common.{Some, length, refl, ap, inl, inr, ◌∙◌, arith, rules}
use Rattle.std.proofs.lemmas.List.{length-map}
use Rattle.cbs_embed.specs.Plans.{whole_processor}
use Rattle.cbs_embed.proofs.Admissions.{planned_each}
use Rattle.cbs_embed.proofs.Openings.{opens_each}
use Rattle.cbs_embed.proofs.opening.open.Goals as goal

pub fill-requires : goal.fill-requires
fill-requires c =
    let count = opens_each _ _ _ _ _ _ c.in-Ok.ensures.ok in
    omega (
      arith,
      count,
      length-map c.in-Ok.ends.items (λ b. Some b.value),
      c.len.ensures.value,
      ap (λ p. length p.rates) c.plan.ensures.value,
      c.if-clients-len.false,
    )

pub returns-then-clients-len : goal.returns-then-clients-len
returns-then-clients-len c =
    let taken = rw c.whole_processor-setup.ensures at c.in_ok-take_all.ensures in
    let same = ap (λ p. length p.rates) c.plan.ensures.value ∙ ap (λ s. length s.plan.rates) taken.setup in
    let each = planned_each whole_processor c.args.servers.now in
    record {
      ok = search rules;
      err = search rules;
      refusal = inr (taken.answer, inl ((λ e. absurd (omega (arith, e, each, same, c.len.ensures.value, c.if-clients-len.true))), refl));
    }

pub returns-in-Ok : goal.returns-in-Ok
returns-in-Ok c =
    let taken = rw c.whole_processor-setup.ensures at c.in_ok-take_all.ensures in
    let same = ap (λ p. length p.rates) c.plan.ensures.value ∙ ap (λ s. length s.plan.rates) taken.setup in
    let each = planned_each whole_processor c.args.servers.now in
    record {
      ok = search rules;
      err = search rules;
      refusal = (taken.answer, omega (arith, each, same, c.len.ensures.value, c.if-clients-len.false), c.in-Ok.ensures.refusal);
    }

pub returns-in-Err : goal.returns-in-Err
returns-in-Err c =
    let taken = rw c.whole_processor-setup.ensures at c.in_ok-take_all.ensures in
    let same = ap (λ p. length p.rates) c.plan.ensures.value ∙ ap (λ s. length s.plan.rates) taken.setup in
    let each = planned_each whole_processor c.args.servers.now in
    record {
      ok = search rules;
      err = search rules;
      refusal = inr (
        taken.answer,
        inr (
          omega (arith, each, same, c.len.ensures.value, c.if-clients-len.false),
          (c.in-Err.error, refl, c.in-Err.ensures.refusal),
        ),
      );
    }
