-- If no step takes anybody's time, no server was charged.
use Rattle.std.proofs.Common.{◌≡◌, ℕ, zero, suc, ◌+◌, Bool, ◌||◌, List, [], ◌∷◌, map, arith, refl}
use Rattle.std.specs.Prelude.{if◌then◌else◌}
use Rattle.std.proofs.lemmas.Bool.Decides.{nat_tests}
use Rattle.cbs_job.specs.Work.{Meaning}
use Rattle.cbs_rate.specs.Rate.{Rate}
use Rattle.cbs_rules.specs.Rules.{State, Terms, after_arrival, after_unit, after_replenishment}
use Rattle.cbs_rules.specs.declared.mode.Mode.{Mode}
use Rattle.cbs_rules.specs.declared.mode.Mode.TheVariants.{Soft, Throttled}
use Rattle.cbs_steps.specs.Faces.{is_active}
use Rattle.cbs_steps.specs.Accounts.{Account, face_of, new_account, account_with_job, account_with_unit, account_with_replenishment}
use Rattle.cbs_steps.specs.History.{Setup, account, after}
use Rattle.cbs_steps.specs.Quiet.{AreQuiet}
use Rattle.cbs_steps.specs.declared.step.Step.{Step}
use Rattle.cbs_steps.proofs.Histories.{holds_quiet_after}

-- an arrival leaves no overrun
none_arrived : (active : Bool) (mode : Mode) (r : Rate) (now : ℕ) (s : State) → s.overrun ≡ 0
    → (if active || s.throttled then s else after_arrival mode r now s).overrun ≡ 0
none_arrived active mode r now s h = grind (arith, nat_tests)

-- nor does a unit
none_consumed : (mode : Mode) (r : Rate) (s : State) → s.overrun ≡ 0 → (after_unit mode r s).overrun ≡ 0
none_consumed Soft r s h = grind (arith, nat_tests)
none_consumed Throttled r s h = grind (arith, nat_tests)

-- nor a replenishment
none_replenished : (r : Rate) (now : ℕ) (s : State) → s.overrun ≡ 0 → (after_replenishment r now s).overrun ≡ 0
none_replenished r now s h = grind (arith, nat_tests)

-- nothing was charged
pub record IsUncharged {W : Type 0} (a : Account W) : Type 0 where
  pub total : a.charges.total ≡ 0
  pub most : a.charges.most ≡ 0
  pub overrun : a.state.overrun ≡ 0

module _ {W : Type 0} (work : Meaning W) where
  uncharged_unit : (a : Account W) → IsUncharged a → IsUncharged (account_with_unit a)
  uncharged_unit a h = record { total = h.total; most = h.most; overrun = none_consumed a.terms.mode a.terms.reservation a.state h.overrun }

  uncharged_replenishment : (now : ℕ) (a : Account W) → IsUncharged a → IsUncharged (account_with_replenishment now a)
  uncharged_replenishment now a h = record { total = h.total; most = h.most; overrun = none_replenished a.terms.reservation now a.state h.overrun }

  uncharged_job : (now : ℕ) (job : W) (a : Account W) → IsUncharged a → IsUncharged (account_with_job work now job a)
  uncharged_job now job a h = record {
    total = h.total;
    most = h.most;
    overrun = none_arrived (is_active (face_of work a)) a.terms.mode a.terms.reservation now a.state h.overrun;
  }

  uncharged_new : (ts : List Terms) (s : ℕ) → (let a : Account W = account (map new_account ts) s in IsUncharged a)
  uncharged_new [] s = record { total = refl; most = refl; overrun = refl }
  uncharged_new (t ∷ ts) zero = record { total = refl; most = refl; overrun = refl }
  uncharged_new (t ∷ ts) (suc s) = uncharged_new ts s

  -- after a list of steps that takes nobody's time
  pub uncharged_after : (setup : Setup) (M : List (Step W)) (s : ℕ) → AreQuiet work setup M → IsUncharged (account (after work setup M).accounts s)
  uncharged_after setup M s quiet = holds_quiet_after work (λ now. IsUncharged) (λ now a ready h. uncharged_unit a h)
      (λ now a h. uncharged_replenishment (now + 1) a h) (λ now a h. record { total = h.total; most = h.most; overrun = h.overrun })
      (λ now a h. record { total = h.total; most = h.most; overrun = h.overrun }) uncharged_job setup M s quiet (uncharged_new setup.servers s)
