-- No number of a check is a float.
use Rattle.std.proofs.Common.{◌≡◌, ℕ, false, List, [], ◌∷◌, Option, Some, None, Result, refl, map, length}
use Rattle.std.specs.List.{range_with_len}
use Rattle.std.specs.Result.{result_ok}
use Rattle.serde_json.specs.Data.{object}
use Rattle.serde_json.specs.View.{items_of}
use Rattle.serde_json.specs.Written.{has_float, items_have_float}
use Rattle.cbs_guarantee.specs.declared.source.NotPromised.{NotPromised}
use Rattle.cbs_rate.specs.Plan.{Planned, common_multiple}
use Rattle.cbs_rate.specs.Rate.{Rate}
use Rattle.cbs_rules.specs.declared.mode.Mode.{Mode}
use Rattle.cbsrun_json.proofs.Plain.{long_if_plain, pair_if_plain, pair_plain, text_if_plain, whole_if_plain}
use Rattle.cbsrun_loads.specs.Loads.{LoadFile}
use Rattle.cbsrun_proposals.specs.declared.remedy.Proposal.{Proposal}
use Rattle.cbsrun_proposals.specs.declared.remedy.Remedy.{Remedy}
use Rattle.cbsrun_simulate.specs.Released.{distance}
use Rattle.cbsrun_simulate.specs.declared.terms.SourceTerms.{SourceTerms}
use Rattle.cbsrun_sizing.specs.Budgets.{reserved}
use Rattle.cbsrun_sizing.specs.Recoveries.{recovery}
use Rattle.cbsrun_sizing.specs.declared.server_load.ServerLoad.{ServerLoad}
use Rattle.cbsrun_check_json.specs.Json.{asked_pair, check_data, is_in_time, load_terms, needed_backlog, needs_none, named_at, plan_data, plan_terms, proposal_data, reason_of, remedy_data}
use Rattle.cbsrun_check_json.specs.Json.{server_at, server_data, server_terms, source_data, source_of, with_figures, with_promises}

-- a proposal, or its absence, has no fraction
proposal_plain : (p : Option Proposal) (kept : Option ℕ) (room : ℕ) → has_float (proposal_data p kept room) ≡ false
unfolding proposal_data
proposal_plain None kept room = refl
proposal_plain (Some p) kept room = rw (whole_if_plain kept) refl

-- nor has a remedy
remedy_plain : (r : Option Remedy) (kept : Option ℕ) (room : ℕ) → has_float (remedy_data r kept room) ≡ false
unfolding remedy_data
remedy_plain None kept room = refl
remedy_plain (Some r) kept room = rw (whole_if_plain r.backlog, whole_if_plain r.delayed, proposal_plain r.reservation kept room) refl

-- so a server has none
server_plain : (name : List ℕ) (mode : Mode) (rate : Rate) (greatest : ℕ) (within : Option ℕ) (l : ServerLoad)
    → has_float (server_data name mode rate greatest within l) ≡ false
unfolding server_data server_terms with_figures
server_plain name mode rate greatest within l = rw (
  pair_if_plain (asked_pair l.asked),
  whole_if_plain within,
  whole_if_plain (result_ok l.promised),
  text_if_plain (reason_of (needs_none l.remedy) l.promised),
  whole_if_plain (needed_backlog l.promised),
  remedy_plain l.remedy l.kept l.room,
) refl

-- nor have servers
servers_plain : (f : LoadFile) (budgets : List ℕ) (loads : List ServerLoad) (servers : List ℕ)
    → items_have_float (items_of (map (server_at f budgets loads) servers)) ≡ false
servers_plain f budgets loads [] = refl
servers_plain f budgets loads (s ∷ servers) = rw (server_plain _ _ _ _ _ _) (servers_plain f budgets loads servers)

-- nor has a source
source_plain : (name : List ℕ) (promised : Result ℕ NotPromised) (t : SourceTerms) → has_float (source_data name promised t) ≡ false
unfolding source_data
source_plain name promised t = rw (
  pair_plain t.every.least t.every.greatest,
  pair_plain t.units.least t.units.greatest,
  pair_plain t.overrun.least t.overrun.greatest,
  pair_plain _ (distance t),
  whole_if_plain t.within,
  whole_if_plain (result_ok promised),
  text_if_plain (reason_of (is_in_time promised t.within) promised),
) refl

-- nor have sources
sources_plain : (f : LoadFile) (loads : List ServerLoad) (sources : List SourceTerms) → items_have_float (items_of (map (source_of f loads) sources)) ≡ false
sources_plain f loads [] = refl
sources_plain f loads (t ∷ sources) = rw (source_plain _ _ _) (sources_plain f loads sources)

-- so no number of a load has a fraction
pub check_plain : (name : List ℕ) (f : LoadFile) (budgets : List ℕ) (loads : List ServerLoad) → has_float (check_data name f budgets loads) ≡ false
unfolding check_data load_terms plan_terms with_promises
check_plain name f budgets loads = rw (
  pair_plain f.plan.bound.num f.plan.bound.den,
  pair_plain (reserved f.plan.rates) (common_multiple f.plan.rates),
  long_if_plain (recovery f),
  servers_plain f budgets loads (range_with_len 0 (length f.plan.rates)),
  sources_plain f loads f.sources,
  whole_if_plain f.tick,
) refl

-- a server of a plan has none
named_plain : (name : List ℕ) (mode : Mode) (rate : Rate) (greatest : ℕ) → has_float (object (server_terms name mode rate greatest)) ≡ false
unfolding server_terms
named_plain name mode rate greatest = refl

-- nor have such servers
all_named_plain : (names : List (List ℕ)) (modes : List Mode) (plan : Planned) (budgets : List ℕ) (servers : List ℕ)
    → items_have_float (items_of (map (named_at names modes plan budgets) servers)) ≡ false
all_named_plain names modes plan budgets [] = refl
all_named_plain names modes plan budgets (s ∷ servers) = rw (named_plain _ _ _ _) (all_named_plain names modes plan budgets servers)

-- so no number of a plan has a fraction
pub plan_plain : (name : List ℕ) (names : List (List ℕ)) (modes : List Mode) (plan : Planned) (budgets : List ℕ)
    → has_float (plan_data name names modes plan budgets) ≡ false
unfolding plan_data plan_terms
plan_plain name names modes plan budgets = rw (
  pair_plain plan.bound.num plan.bound.den,
  pair_plain (reserved plan.rates) (common_multiple plan.rates),
  all_named_plain names modes plan budgets (range_with_len 0 (length plan.rates)),
) refl
