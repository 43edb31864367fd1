-- The greatest budget of each server of a plan, one server after the other.
use Rattle.std.proofs.Common.{◌≡◌, ℕ, ◌+◌, ◌<◌, List, [], ◌∷◌, ◌++◌, length, get_or, arith, Some, inl, inr}
use Rattle.std.specs.Prelude.{slice_get}
use Rattle.std.proofs.lemmas.Bool.{cases_lt}
use Rattle.std.proofs.lemmas.List.{length_push, get_or_push, get_or_append_left}
use Rattle.std.proofs.lemmas.Option.{get_or_from_slice_get}
use Rattle.cbs_rate.specs.Plan.{Planned, IsGreatestBudget}
use Rattle.cbs_rate.specs.Rate.{Rate}
use Rattle.cbsrun_loads.specs.Loads.{LoadFile}
use Rattle.cbsrun_sizing.specs.Budgets.{without, IsGreatestFor, AreGreatest}
use Rattle.cbsrun_sizing.specs.ServerLoads.{IsServerLoad, AreServerLoads, no_load}
use Rattle.cbsrun_sizing.specs.declared.server_load.ServerLoad.{ServerLoad}

-- what holds for each of n elements, and for one more
pub each_more : {X : Type 0} (P : ℕ → X → Type 0) (n : ℕ) (xs : List X) (x d : X) → length xs ≡ n → ((s : ℕ) → s < n → P s (get_or xs s d)) → P n x
    → (s : ℕ) → s < n + 1 → P s (get_or (xs ++ x ∷ []) s d)
each_more P n xs x d count each here s lt = elim (cases_lt s n) [
  | inl below ↦ let e = get_or_append_left xs (x ∷ []) d s (omega arith) in rw e (each s below)
  | inr ge ↦
      let is : s ≡ n = omega arith in
      let e = get_or_push xs x d n count in
      rw (is, e) here
]

-- one more server, with the greatest budget that fits
pub greatest_more : (plan : Planned) (n : ℕ) (budgets : List ℕ) (budget : ℕ) → AreGreatest plan n budgets → IsGreatestFor plan n budget
    → AreGreatest plan (n + 1) (budgets ++ budget ∷ [])
greatest_more plan n budgets budget old here = record {
  count = let e = length_push budgets budget in let c = old.count in omega arith;
  each = each_more (IsGreatestFor plan) n budgets budget 0 old.count old.each here;
}

-- the greatest budget that the plan without server s takes is the greatest for it
pub greatest_for : (plan others : Planned) (s budget period : ℕ) (r : Rate) → others ≡ without plan s → slice_get plan.rates s ≡ Some r → period ≡ r.period
    → IsGreatestBudget others period budget → IsGreatestFor plan s budget
greatest_for plan others s budget period r is here e greatest =
    let read = get_or_from_slice_get plan.rates s r (record { budget = 0; period = 0 }) here in
    rw read (rw (is, e) at greatest)

-- one more server, with its sources
pub loads_more : (f : LoadFile) (n : ℕ) (loads : List ServerLoad) (load : ServerLoad) → AreServerLoads f n loads → IsServerLoad f n load
    → AreServerLoads f (n + 1) (loads ++ load ∷ [])
loads_more f n loads load old here = record {
  count = let e = length_push loads load in let c = old.count in omega arith;
  each = each_more (IsServerLoad f) n loads load no_load old.count old.each here;
}
