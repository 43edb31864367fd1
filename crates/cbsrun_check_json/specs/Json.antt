-- What `check` tells of a file with no fault, as JSON: its keys, and the value of each key.
use Rattle.std.specs.Prelude.{◌≡◌, ℕ, ◌+◌, ◌*◌, Bool, true, false, leb, List, [], ◌∷◌, ◌++◌, codes, get_or, length, map, Option, Some, None, Result, Ok, Err, IfSome}
use Rattle.std.specs.List.{list_all, range_with_len}
use Rattle.std.specs.Result.{result_ok}
use Rattle.serde_json.specs.Data.{Data, null, boolean, string, array, object, Members, no_members}
use Rattle.serde_json.specs.View.{items_of}
use Rattle.serde_json.specs.Written.{compact_text}
use Rattle.cbs_guarantee.specs.Parts.{rate_at}
use Rattle.cbs_guarantee.specs.declared.source.NotPromised.{NotPromised}
use Rattle.cbs_guarantee.specs.declared.source.NotPromised.TheVariants as why
use Rattle.cbs_rate.specs.Plan.{Planned, common_multiple}
use Rattle.cbs_rate.specs.Rate.{Rate}
use Rattle.cbs_rules.specs.declared.mode.Mode.{Mode}
use Rattle.cbs_rules.specs.declared.mode.Mode.TheVariants.{Soft}
use Rattle.cbsrun_json.specs.Members.{object_of, pair_data, pair_if, long_if, text_if, told, whole, whole_if, with_members}
use Rattle.cbsrun_json.specs.declared.scalar.Scalar.{Scalar}
use Rattle.cbsrun_json.specs.declared.scalar.Scalar.TheVariants as scalar
use Rattle.cbsrun_loads.specs.Loads.{LoadFile}
use Rattle.cbsrun_proposals.specs.declared.remedy.Proposal.{Proposal}
use Rattle.cbsrun_proposals.specs.declared.remedy.Remedy.{Remedy}
use Rattle.cbsrun_simulate.specs.Bounds.{Bounds}
use Rattle.cbsrun_simulate.specs.Released.{distance}
use Rattle.cbsrun_simulate.specs.declared.terms.SourceTerms.{SourceTerms}
use Rattle.cbsrun_sizing.specs.Budgets.{reserved, is_within, AreGreatest}
use Rattle.cbsrun_sizing.specs.Lateness.{greatest_delay, BoundsLateness}
use Rattle.cbsrun_sizing.specs.Recoveries.{recovery, IsMadeUpWithin}
use Rattle.cbsrun_sizing.specs.ServerLoads.{least_within, no_load, AreServerLoads}
use Rattle.cbsrun_sizing.specs.declared.asked.Asked.{Asked}
use Rattle.cbsrun_sizing.specs.declared.server_load.ServerLoad.{ServerLoad}
use Rattle.cbsrun_text.specs.Numbers.{mode_word}

-- the word for the reason why jobs are not promised in time: they are promised, but too late, or not at all
abbrev pub reason_word : Result ℕ NotPromised → List ℕ
reason_word (Ok time) = codes "too_late"
reason_word (Err why.AsksTooMuch) = codes "asks_too_much"
reason_word (Err (why.BacklogTooSmall needed)) = codes "backlog_too_small"
reason_word (Err why.SharedOverrun) = codes "shared_overrun"
reason_word (Err why.LateOverrun) = codes "late_overrun"
reason_word (Err why.BeyondLimits) = codes "beyond_limits"

-- .. if they are not
abbrev pub reason_of : Bool → Result ℕ NotPromised → Option (List ℕ)
reason_of true promised = None
reason_of false promised = Some (reason_word promised)

-- the backlog that the jobs need, if theirs is too small
abbrev pub needed_backlog : Result ℕ NotPromised → Option ℕ
needed_backlog (Err (why.BacklogTooSmall needed)) = Some needed
needed_backlog _ = None

-- each job is promised, and in time
abbrev pub is_in_time : Result ℕ NotPromised → Option ℕ → Bool
is_in_time (Ok time) within = is_within time within
is_in_time (Err why) within = false

-- a proposal, the `within` that a source has to say with it, and whether it fits if so much fits at its period
unfoldable pub proposal_data : Option Proposal → Option ℕ → ℕ → Data
proposal_data None kept room = null
proposal_data (Some p) kept room = object_of (
    (codes "budget", whole p.budget)
    ∷ (codes "period", whole p.period)
    ∷ (codes "within", whole_if kept)
    ∷ (codes "greatest_budget", whole room)
    ∷ (codes "fits", boolean (leb p.budget room))
    ∷ [])

-- what would do, or null if the reservation and the backlog do
unfoldable pub remedy_data : Option Remedy → Option ℕ → ℕ → Data
remedy_data None kept room = null
remedy_data (Some r) kept room =
    object_of (
    (codes "backlog", whole_if r.backlog)
    ∷ (codes "delayed_by", whole_if r.delayed)
    ∷ (codes "reservation", proposal_data r.reservation kept room)
    ∷ [])

-- the ticks that are asked for, in every so many, if that is summed
abbrev pub asked_pair : Option Asked → Option (ℕ × ℕ)
asked_pair None = None
asked_pair (Some a) = Some (told a.ticks, a.of)

-- the jobs of a server are promised in time, with its own reservation and backlog
abbrev pub needs_none : Option Remedy → Bool
needs_none None = true
needs_none (Some r) = false

-- the members that say what a server has, and could have
unfoldable pub server_terms : List ℕ → Mode → Rate → ℕ → Members
server_terms name mode rate greatest = with_members (
    (codes "name", string name)
    ∷ (codes "mode", string (mode_word mode))
    ∷ (codes "budget", whole rate.budget)
    ∷ (codes "period", whole rate.period)
    ∷ (codes "greatest_budget", whole greatest)
    ∷ []) no_members

-- the members, with what is told of the sources of a server, of which `within` is the least that is wanted
unfoldable pub with_figures : Option ℕ → ServerLoad → Members → Members
with_figures within l ms = with_members (
    (codes "asked", pair_if (asked_pair l.asked))
    ∷ (codes "asked_once", whole l.once)
    ∷ (codes "within", whole_if within)
    ∷ (codes "finished_within", whole_if (result_ok l.promised))
    ∷ (codes "in_time_always", boolean (needs_none l.remedy))
    ∷ (codes "reason", text_if (reason_of (needs_none l.remedy) l.promised))
    ∷ (codes "needed_backlog", whole_if (needed_backlog l.promised))
    ∷ (codes "remedy", remedy_data l.remedy l.kept l.room)
    ∷ []) ms

-- the object of a server
unfoldable pub server_data : List ℕ → Mode → Rate → ℕ → Option ℕ → ServerLoad → Data
server_data name mode rate greatest within load = object (with_figures within load (server_terms name mode rate greatest))

-- a range as its least and its greatest number
abbrev pub range_scalar : Bounds → Scalar
range_scalar r = scalar.Pair r.least r.greatest

-- a source of a server with this name, of which so much is promised. It asks for the most ticks of a job in the least
-- ticks to the next, which may be fewer by the jitter
unfoldable pub source_data : List ℕ → Result ℕ NotPromised → SourceTerms → Data
source_data name promised t = object_of (
    (codes "server", string name)
    ∷ (codes "every", pair_data t.every.least t.every.greatest)
    ∷ (codes "jitter", whole t.jitter)
    ∷ (codes "units", pair_data t.units.least t.units.greatest)
    ∷ (codes "overrun", pair_data t.overrun.least t.overrun.greatest)
    ∷ (codes "asked", pair_data (told (t.units.greatest * (1 + t.overrun.greatest))) (distance t))
    ∷ (codes "within", whole_if t.within)
    ∷ (codes "finished_within", whole_if (result_ok promised))
    ∷ (codes "in_time_always", boolean (is_in_time promised t.within))
    ∷ (codes "reason", text_if (reason_of (is_in_time promised t.within) promised))
    ∷ [])

-- what is promised of the jobs of server s
abbrev pub promised_for : List ServerLoad → ℕ → Result ℕ NotPromised
promised_for loads s = (get_or loads s no_load).promised

-- server s of a load, by the greatest budgets of its servers and the figures of their sources
abbrev pub server_at : LoadFile → List ℕ → List ServerLoad → ℕ → Data
server_at f budgets loads s =
    server_data (get_or f.names s []) (get_or f.modes s Soft) (rate_at f.plan.rates s) (get_or budgets s 0) (least_within f.sources s)
    (get_or loads s no_load)

-- all servers
abbrev pub servers_data : LoadFile → List ℕ → List ServerLoad → List Data
servers_data f budgets loads = map (server_at f budgets loads) (range_with_len 0 (length f.plan.rates))

-- a source of a load
abbrev pub source_of : LoadFile → List ServerLoad → SourceTerms → Data
source_of f loads t = source_data (get_or f.names t.server []) (promised_for loads t.server) t

-- each job of each source is promised, and in time
abbrev pub all_in_time : List ServerLoad → List SourceTerms → Bool
all_in_time loads sources = list_all (λ t. is_in_time (promised_for loads t.server) t.within) sources

-- the members that say what a plan in a file of this name has reserved. The key `check` is the version of the object
unfoldable pub plan_terms : List ℕ → Planned → Members
plan_terms name plan = with_members (
    (codes "check", whole 1)
    ∷ (codes "file", string name)
    ∷ (codes "unit", string (codes "tick"))
    ∷ (codes "bound", pair_data plan.bound.num plan.bound.den)
    ∷ (codes "reserved", pair_data (reserved plan.rates) (common_multiple plan.rates))
    ∷ []) no_members

-- the same of a load, with its backlog, and the nanoseconds of a tick, if they are known
unfoldable pub load_terms : List ℕ → LoadFile → Members
load_terms name f = with_members ((codes "backlog", whole f.backlog) ∷ (codes "tick_nanoseconds", whole_if f.tick) ∷ []) (plan_terms name f.plan)

-- the members, with what is promised of the jobs of a load
unfoldable pub with_promises : LoadFile → List ℕ → List ServerLoad → Members → Members
with_promises f budgets loads ms = with_members (
    (codes "in_time_always", boolean (all_in_time loads f.sources))
    ∷ (codes "late_by_at_most", whole (greatest_delay f))
    ∷ (codes "made_up_within", long_if (recovery f))
    ∷ (codes "servers", array (items_of (servers_data f budgets loads)))
    ∷ (codes "sources", array (items_of (map (source_of f loads) f.sources)))
    ∷ []) ms

-- the object of a load in a file of this name, by the greatest budgets of its servers and the figures of their sources
unfoldable pub check_data : List ℕ → LoadFile → List ℕ → List ServerLoad → Data
check_data name f budgets loads = object (with_promises f budgets loads (load_terms name f))

-- the object of a load in a file of this name, on one line, with the greatest budget of each server, the demand of its
-- sources, and what is promised for them. No server is ever later than it says, and what one unit overruns is made up as
-- soon as it says
pub record IsCheckJson (name : List ℕ) (f : LoadFile) (text : List ℕ) : Type 0 where
  pub budgets : List ℕ
  pub loads : List ServerLoad
  pub greatest : AreGreatest f.plan (length f.plan.rates) budgets
  pub told_of : AreServerLoads f (length f.plan.rates) loads
  pub late : BoundsLateness f (greatest_delay f)
  pub made_up : IfSome (recovery f) (IsMadeUpWithin f)
  pub text_is : text ≡ compact_text (check_data name f budgets loads) ++ codes "\n"

-- server s of a plan, whose servers have these names
abbrev pub named_at : List (List ℕ) → List Mode → Planned → List ℕ → ℕ → Data
named_at names modes plan budgets s = object (server_terms (get_or names s []) (get_or modes s Soft) (rate_at plan.rates s) (get_or budgets s 0))

-- the object of a plan in a file of this name, by the names and the greatest budgets of its servers
unfoldable pub plan_data : List ℕ → List (List ℕ) → List Mode → Planned → List ℕ → Data
plan_data name names modes plan budgets = object (with_members (
    (codes "servers", array (items_of (map (named_at names modes plan budgets) (range_with_len 0 (length plan.rates)))))
    ∷ []) (plan_terms name plan))

-- the object of a plan in a file of this name, on one line, with the greatest budget of each server
pub record IsPlanJson (name : List ℕ) (names : List (List ℕ)) (modes : List Mode) (plan : Planned) (text : List ℕ) : Type 0 where
  pub budgets : List ℕ
  pub greatest : AreGreatest plan (length plan.rates) budgets
  pub text_is : text ≡ compact_text (plan_data name names modes plan budgets) ++ codes "\n"
