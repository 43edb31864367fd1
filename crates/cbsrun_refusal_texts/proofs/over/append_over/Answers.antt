use Rattle.std.proofs.Common.{List, ℕ, ◌^◌, ◌≡◌, ◌∷◌, [], ◌++◌, ◌<◌, arith, map, refl}
use Rattle.std.specs.Prelude.{codes, decimal}
use Rattle.std.proofs.lemmas.List.{append_assoc}
use Rattle.std.proofs.lemmas.Nat.{mul-le}
use Rattle.toml.specs.View.{view}
use Rattle.cbs_rate.specs.Bound.{Fraction}
use Rattle.cbs_rate.specs.declared.ratio.Ratio.{Ratio}
use Rattle.cbs_rate.proofs.Rooms.{periods_next_some}
use Rattle.cbsrun_check_text.specs.Fractions.{fraction_text}
use Rattle.cbsrun_refusal_texts.specs.Over.{over_line, sum_text, AreHelps, IsOverText}
use Rattle.cbsrun_refusal_texts.specs.Refusals.{IsSpotLine}
use Rattle.cbsrun_refusal_texts.proofs.Pages.{then, as_text, after, both}
use Rattle.cbsrun_refusal_texts.proofs.Shares.{is_share, excess_shortened}
use Rattle.cbsrun_refusal_texts.proofs.over.append_over.Goals as goal

line_is : (total bound_ratio : Ratio) (server : ℕ) (bound : Fraction) → bound_ratio ≡ record { part = bound.num; whole = bound.den }
    → (codes "error: over the bound: " ++ fraction_text total.part total.whole) ++ ((codes " of the time with server " ++ decimal server)
    ++ (codes ", and the bound is " ++ fraction_text bound_ratio.part bound_ratio.whole)) ≡ over_line total server bound
unfolding over_line
line_is total bound_ratio server bound is = rw is (by (fraction_text total.part total.whole) (decimal server) (fraction_text bound.num bound.den))
  where
    by : (a b c : List ℕ) → (codes "error: over the bound: " ++ a) ++ ((codes " of the time with server " ++ b) ++ (codes ", and the bound is " ++ c))
        ≡ codes "error: over the bound: " ++ a ++ codes " of the time with server " ++ b ++ codes ", and the bound is " ++ c
    by a b c = simp append_assoc

pub append_sum-requires-clause-own : goal.append_sum-requires-clause-own
append_sum-requires-clause-own c =
    let rate = c.ratio_of-own.ensures.lawful in
    let some = rate.some in
    let within = rate.within in
    let short = rate.short in
    rw c.ratio_of-own.ensures.value (record { some = omega arith; budget = omega arith; period = omega arith })

pub append_sum-requires-clause-excess : goal.append_sum-requires-clause-excess
append_sum-requires-clause-excess c =
    let refused = c.args.refused.now in
    let rates = refused.plan.rates ++ refused.reservation ∷ [] in
    let total = c.total_with-total.ensures in
    let rate = c.ratio_of-own.ensures.lawful in
    let some = rate.some in
    let within = rate.within in
    let positive : 0 < refused.reservation.period = omega arith in
    let short = rate.short in
    let coarse = mul-le _ refused.reservation.period (10 ^ 18) (10 ^ 9) total.lawful.coarse (omega arith) in
    is_share refused.plan.bound rates c.in-Some.excess c.shortened.result c.in-Some.ensures c.shortened.ensures c.total_with-total.result
    (rw c.bound.ensures at c.ratio_of_bound-bound.ensures.lawful) (periods_next_some refused.plan.rates refused.reservation total.lawful.lawful positive) total.exact
    (rw total.whole (omega arith)) total.at_most_two

pub returns : goal.returns
returns c =
    let refused = c.args.refused.now in
    let entries = map view c.args.spot.now.document.servers.now in
    let p0 = c.args.page.now in
    let p3 = c.push_fraction-2.new.self in
    let p4 = c.push_spot.new.self in
    let p5 = c.append_sum.new.page in
    let p6 = c.append_helps.new.page in
    let line = over_line c.total_with-total.result refused.number refused.plan.bound in
    let own : Ratio = record { part = refused.reservation.budget; whole = refused.reservation.period } in
    let sum = sum_text refused.tick refused.number refused.plan.rates own c.shortened.result in
    let IsPlace = IsSpotLine c.args.spot.now in
    let Helps = AreHelps entries refused in
    let Rest = λ (t : List ℕ). (y : List ℕ) × Helps y × (t ≡ sum ++ y) in
    let AtPlace = λ (t : List ℕ). (x : List ℕ) × (y : List ℕ) × IsPlace x × Helps y × (t ≡ x ++ (sum ++ y)) in
    after p0 p3 p6 line AtPlace (IsOverText IsPlace entries refused)
    (as_text p0 p3 _ line
    (then p0 c.push_fraction.new.self p3 _ _ c.push_fraction.ensures
    (then c.push_fraction.new.self c.push_number.new.self p3 _ _ c.push_number.ensures c.push_fraction-2.ensures))
    (line_is c.total_with-total.result c.ratio_of_bound-bound.result refused.number refused.plan.bound (rw c.bound.ensures at c.ratio_of_bound-bound.ensures.value)))
    (both p3 p4 p6 IsPlace Rest AtPlace c.push_spot.ensures
    (after p4 p5 p6 sum Helps Rest (rw c.ratio_of-own.ensures.value at c.append_sum.ensures) c.append_helps.ensures (λ y h. (y, h, refl)))
    (λ x t s h. (x, h.0, s, h.1, rw h.2 refl)))
    (λ t h. record {
      total = c.total_with-total.result;
      excess = c.shortened.result;
      place = h.0;
      helps = h.1;
      all = c.total_with-total.ensures.exact;
      too_much = excess_shortened refused.plan.bound _ c.in-Some.excess c.shortened.result c.in-Some.ensures c.shortened.ensures;
      is_place = h.2;
      are_helps = h.3;
      bytes = rw h.4 (simp append_assoc);
    })
