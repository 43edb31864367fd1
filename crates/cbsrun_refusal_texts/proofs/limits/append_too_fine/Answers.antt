use Rattle.std.proofs.Common.{◌≡◌, ℕ, List, ◌++◌, ◌∷◌, [], refl, sym}
use Rattle.std.specs.Prelude.{codes, decimal}
use Rattle.std.proofs.lemmas.List.{append_assoc}
use Rattle.cbs_rate.specs.Limits.{greatest_common_multiple}
use Rattle.cbs_rate.specs.Plan.{common_multiple}
use Rattle.cbsrun_refusal_texts.specs.Refusals.{too_fine_line, IsTooFineText, IsPeriodText, IsSpotLine}
use Rattle.cbsrun_refusal_texts.proofs.Pages.{as_text, after, both}
use Rattle.cbsrun_refusal_texts.proofs.limits.append_too_fine.Goals as goal

line_is : (server ticks : ℕ) → codes "error: with server " ++ (decimal server ++ (codes " the periods come together every " ++ (decimal ticks
    ++ (codes " ticks only, and at most " ++ (decimal greatest_common_multiple ++ codes " are allowed"))))) ≡ too_fine_line server ticks
unfolding too_fine_line
line_is server ticks = by (decimal server) (decimal ticks) (decimal greatest_common_multiple)
  where
    by : (s t m : List ℕ) → codes "error: with server " ++ (s ++ (codes " the periods come together every " ++ (t
        ++ (codes " ticks only, and at most " ++ (m ++ codes " are allowed")))))
        ≡ codes "error: with server " ++ s ++ codes " the periods come together every " ++ t ++ codes " ticks only, and at most " ++ m ++ codes " are allowed"
    by s t m = simp append_assoc

pub returns : goal.returns
returns c =
    let refused = c.args.refused.now in
    let ticks = common_multiple (refused.plan.rates ++ refused.reservation ∷ []) in
    let IsPlace = IsSpotLine c.args.spot.now in
    let Rest = λ (t : List ℕ). (x : List ℕ) × (y : List ℕ) × IsPlace x × IsPeriodText refused y × (t ≡ x ++ y) in
    after c.args.page.now c.write.new.self c.append_period.new.page (too_fine_line refused.number ticks) Rest (IsTooFineText IsPlace refused)
    (as_text c.args.page.now c.write.new.self _ (too_fine_line refused.number ticks) c.write.ensures
    (rw c.common_multiple_with-multiple.ensures (line_is refused.number ticks)))
    (both c.write.new.self c.push_spot.new.self c.append_period.new.page IsPlace (IsPeriodText refused) Rest c.push_spot.ensures c.append_period.ensures
    (λ x y s h. (x, y, s, h, refl)))
    (λ t h. record {
      place = h.0;
      rest = h.1;
      is_place = h.2;
      on_period = h.3;
      bytes = rw h.4 (sym (append_assoc (too_fine_line refused.number ticks) h.0 h.1));
    })
