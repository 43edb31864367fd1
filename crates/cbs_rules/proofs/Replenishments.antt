-- One replenishment at a later time is as good as one at each tick on the way.
use Rattle.std.proofs.Common.{◌≡◌, ℕ, zero, suc, ◌+◌, ◌≤◌, ◌<◌, refl, sym, ◌∙◌, ap, arith}
use Rattle.std.proofs.lemmas.Bool.Decides.{nat_tests}
use Rattle.cbs_rate.specs.Rate.{Rate}
use Rattle.cbs_rules.specs.Rules.{State, after_replenishment, after_ticks}

-- a replenishment at a later time makes an earlier one of no matter
pub replenished_twice : (r : Rate) (k m : ℕ) (s : State) → k ≤ m → after_replenishment r m (after_replenishment r k s) ≡ after_replenishment r m s
replenished_twice r k m s h = grind (arith, nat_tests)

ticked_replenished : (r : Rate) (now n : ℕ) (s : State) → after_ticks r now (suc n) s ≡ after_replenishment r (now + suc n) s
ticked_replenished r now zero s = refl
ticked_replenished r now (suc n) s =
    let e : now + 1 + suc n ≡ now + suc (suc n) = omega arith in
    ticked_replenished r (now + 1) n (after_replenishment r (now + 1) s) ∙ replenished_twice r (now + 1) (now + 1 + suc n) s (omega arith)
    ∙ ap (λ m. after_replenishment r m s) e

-- n ticks are one replenishment at the last of them
pub replenished_ticked : (r : Rate) (now start n : ℕ) (s : State) → 0 < n → now ≡ start + n → after_replenishment r now s ≡ after_ticks r start n s
replenished_ticked r now start zero s some e = absurd (omega arith)
replenished_ticked r now start (suc n) s some e = ap (λ m. after_replenishment r m s) e ∙ sym (ticked_replenished r start n s)
