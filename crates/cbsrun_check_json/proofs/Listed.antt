-- Servers and sources of a load, by their parts.
use Rattle.std.proofs.Common.{◌≡◌, ℕ, ◌<◌, List, [], length, get_or, refl, sym, ap, ◌∙◌, Option, Result}
use Rattle.std.specs.Prelude.{map}
use Rattle.std.proofs.lemmas.List.{get_or-map}
use Rattle.serde_json.specs.Data.{object}
use Rattle.cbs_guarantee.specs.Parts.{rate_at}
use Rattle.cbs_guarantee.specs.declared.source.NotPromised.{NotPromised}
use Rattle.cbs_rate.specs.Plan.{Planned}
use Rattle.cbs_rate.specs.Rate.{Rate}
use Rattle.cbs_rules.specs.declared.mode.Mode.{Mode}
use Rattle.cbs_rules.specs.declared.mode.Mode.TheVariants.{Soft}
use Rattle.cbsrun_loads.specs.Loads.{LoadFile}
use Rattle.cbsrun_simulate.specs.declared.terms.SourceTerms.{SourceTerms}
use Rattle.cbsrun_sizing.specs.ServerLoads.{least_within, no_load}
use Rattle.cbsrun_sizing.specs.declared.server_load.ServerLoad.{ServerLoad}
use Rattle.cbsrun_check_json.specs.Json.{named_at, promised_for, server_at, server_data, server_terms, source_data, source_of}

-- a name that was read at a place
pub name_is : {X : Type 0} (f : X → List ℕ) (xs : List X) (i j : ℕ) (x : X) (name : List ℕ) → j < length xs → i ≡ j → x ≡ get_or xs i x → name ≡ f x
    → get_or (map f xs) j [] ≡ name
name_is f xs i j x name lt e is n = get_or-map f xs j x [] lt ∙ (ap f (sym (rw e at is)) ∙ sym n)

-- a server, by its parts
pub server_is : (f : LoadFile) (budgets : List ℕ) (loads : List ServerLoad) (s : ℕ) (name : List ℕ) (mode : Mode) (rate : Rate) (greatest : ℕ)
    (within : Option ℕ) (load : ServerLoad)
    → get_or f.names s [] ≡ name → get_or f.modes s Soft ≡ mode → rate_at f.plan.rates s ≡ rate → get_or budgets s 0 ≡ greatest
    → within ≡ least_within f.sources s → get_or loads s no_load ≡ load
    → server_at f budgets loads s ≡ server_data name mode rate greatest within load
server_is f budgets loads s name mode rate greatest within load e m r g w l = rw (e, m, r, g, w, l) refl

-- a source, by its parts
pub source_is : (f : LoadFile) (loads : List ServerLoad) (t : SourceTerms) (name : List ℕ) (promised : Result ℕ NotPromised)
    → get_or f.names t.server [] ≡ name → promised ≡ promised_for loads t.server → source_of f loads t ≡ source_data name promised t
source_is f loads t name promised e p = rw (e, p) refl

-- a server of a plan, by its parts
pub named_is : (names : List (List ℕ)) (modes : List Mode) (plan : Planned) (budgets : List ℕ) (s : ℕ) (name : List ℕ) (mode : Mode) (rate : Rate)
    (greatest : ℕ)
    → get_or names s [] ≡ name → get_or modes s Soft ≡ mode → rate_at plan.rates s ≡ rate → get_or budgets s 0 ≡ greatest
    → named_at names modes plan budgets s ≡ object (server_terms name mode rate greatest)
named_is names modes plan budgets s name mode rate greatest n m r g = rw (n, m, r, g) refl
