-- A server of a load has no remedy if its reservation is enough, and one if it is not.
use Rattle.std.proofs.Common.{◌≡◌, ◌≢◌, ℕ, ◌<◌, List, length, get_or, arith, refl, Option, Some, None}
use Rattle.std.specs.Prelude.{MatchOption}
use Rattle.cbs_guarantee.specs.Parts.{rate_at}
use Rattle.cbsrun_loads.specs.Loads.{LoadFile}
use Rattle.cbsrun_proposals.specs.Proposals.{IsEnough, IsNotEnough}
use Rattle.cbsrun_sizing.specs.ServerLoads.{sources_of, wanted_of, no_load, AreServerLoads}
use Rattle.cbsrun_sizing.specs.declared.server_load.ServerLoad.{ServerLoad}

-- what holds of nothing, and what of something
of_none : {A : Type 0} (o : Option A) (P : Type 0) (Q : A → Type 0) → o ≡ None → MatchOption o P Q → P
of_none None P Q none h = h
of_none (Some x) P Q none h = absurd cc

of_some : {A : Type 0} (o : Option A) (P : Type 0) (Q : A → Type 0) → o ≢ None → MatchOption o P Q → (x : A) × Q x
of_some None P Q some h = absurd (some refl)
of_some (Some x) P Q some h = (x, h)

module _ (f : LoadFile) (loads : List ServerLoad) (are : AreServerLoads f (length f.plan.rates) loads) (s : ℕ) where
  -- a server that there are figures of is one of the load
  pub is_there : s < length loads → s < length f.plan.rates
  is_there lt = let count = are.count in omega arith

  pub enough_if_none : s < length f.plan.rates → (get_or loads s no_load).remedy ≡ None
      → IsEnough (sources_of s f.sources) (wanted_of f s) (rate_at f.plan.rates s)
  enough_if_none lt none = of_none (get_or loads s no_load).remedy _ _ none (are.each s lt).remedy

  pub not_enough_if_some : s < length f.plan.rates → (get_or loads s no_load).remedy ≢ None
      → IsNotEnough (sources_of s f.sources) (wanted_of f s) (rate_at f.plan.rates s)
  not_enough_if_some lt some = (of_some (get_or loads s no_load).remedy _ _ some (are.each s lt).remedy).1.needed
