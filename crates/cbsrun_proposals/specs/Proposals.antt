-- Reservations with which the jobs of a server are promised in time.
use Rattle.std.specs.Prelude.{ℕ, ◌≡◌, ◌⊎◌, ◌+◌, ◌*◌, ◌≤◌, ◌<◌, Bool, true, false, leb, if◌then◌else◌, List, map, flat_map, Option, Some, None, IsSome, MatchOption, option_map}
use Rattle.std.specs.Int.{div_ceil}
use Rattle.std.specs.List.{All, range_with_len}
use Rattle.cbs_rate.specs.Limits.{most_backlog}
use Rattle.cbs_rate.specs.Rate.{Rate, IsRate}
use Rattle.cbs_guarantee.specs.Sources.{ticks_of, time_for, IsPromised, IsReason}
use Rattle.cbs_guarantee.specs.declared.source.NotPromised.{NotPromised}
use Rattle.cbs_guarantee.specs.declared.source.Source.{Source}
use Rattle.cbsrun_proposals.specs.declared.remedy.Proposal.{Proposal}
use Rattle.cbsrun_proposals.specs.declared.remedy.Remedy.{Remedy}
use Rattle.cbsrun_proposals.specs.declared.wanted.Wanted.{Wanted}

-- a time is at most the wanted one, if one is wanted
abbrev pub is_by : ℕ → Option ℕ → Bool
is_by time None = true
is_by time (Some within) = leb time within

-- with this reservation each job of the sources is promised, and in time
pub record IsEnough (sources : List Source) (w : Wanted) (server : Rate) : Type 0 where
  pub time : ℕ
  pub promised : IsPromised server sources w.delay w.backlog time
  pub in_time : is_by time w.within ≡ true

-- why a reservation is not enough: nothing is promised for some reason, or the jobs take too long
abbrev pub IsNotEnough : List Source → Wanted → Rate → Type 0
IsNotEnough sources w server =
    ((why : NotPromised) × IsReason server sources w.delay w.backlog why) ⊎ (is_by (time_for server sources w.delay) w.within ≡ false)

-- a budget in every so many ticks
abbrev pub rate : ℕ → ℕ → Rate
rate budget period = record { budget = budget; period = period }

-- the budget is not enough at any period
abbrev pub IsNeverEnough : List Source → Wanted → ℕ → Type 0
IsNeverEnough sources w budget = (period : ℕ) → IsRate budget period → IsNotEnough sources w (rate budget period)

-- the greatest period at which the budget is enough
pub record IsLongest (sources : List Source) (w : Wanted) (budget : ℕ) (server : Rate) : Type 0 where
  pub same : server.budget ≡ budget
  pub lawful : IsRate server.budget server.period
  pub enough : IsEnough sources w server
  pub longest : (period : ℕ) → server.period < period → IsRate budget period → IsNotEnough sources w (rate budget period)

-- the share of the first is less than that of the second
abbrev pub IsLess : Rate → Rate → Type 0
IsLess a b = a.budget * b.period < b.budget * a.period

-- at whatever period, the budget is not enough if its share is less than the server's
abbrev pub IsNoLess : List Source → Wanted → Rate → ℕ → Type 0
IsNoLess sources w server budget =
    (period : ℕ) → IsRate budget period → IsLess (rate budget period) server → IsNotEnough sources w (rate budget period)

-- the greatest jobs of a source in equal parts, of which one budget suffices for each: from one part to this many
abbrev pub most_parts : ℕ
most_parts = 8

-- the budgets that are looked at for a source, and for all sources
abbrev pub parts_of : Source → List ℕ
parts_of source = map (λ k. div_ceil (ticks_of source) (k + 1)) (range_with_len 0 most_parts)

abbrev pub budgets_of : List Source → List ℕ
budgets_of sources = flat_map parts_of sources

-- What is proposed after these budgets were looked at: a reservation that is enough, and none of less share is with one
-- of the budgets, at whatever period. Nothing, if none of the budgets is enough
abbrev pub IsBestOf : List Source → Wanted → List ℕ → Option Rate → Type 0
IsBestOf sources w budgets None = All (IsNeverEnough sources w) budgets
IsBestOf sources w budgets (Some server) =
    IsRate server.budget server.period × IsEnough sources w server × All (IsNoLess sources w server) budgets

-- what is proposed for the sources
abbrev pub IsProposal : List Source → Wanted → Option Rate → Type 0
IsProposal sources w proposed = IsBestOf sources w (budgets_of sources) proposed

-- a proposal as a reservation
abbrev pub rate_of : Proposal → Rate
rate_of p = rate p.budget p.period

-- what is wanted, with another backlog
abbrev pub with_backlog : ℕ → Wanted → Wanted
with_backlog n w = record w { backlog = n }

-- the backlog is lawful, and enough with the server's own reservation
abbrev pub IsBacklogEnough : List Source → Wanted → Rate → ℕ → Type 0
IsBacklogEnough sources w server n = (n ≤ most_backlog) × IsEnough sources (with_backlog n w) server

-- no lawful backlog is
abbrev pub IsNoBacklogEnough : List Source → Wanted → Rate → Type 0
IsNoBacklogEnough sources w server = (n : ℕ) → n ≤ most_backlog → IsNotEnough sources (with_backlog n w) server

-- by how many ticks the others may delay the jobs, if that alone is longer than is wanted
abbrev pub delayed_longer : Wanted → Option ℕ
delayed_longer w = if is_by w.delay w.within then None else Some w.delay

-- no reservation is enough, with whatever backlog
abbrev pub IsHopeless : List Source → Wanted → Type 0
IsHopeless sources w = (server : Rate) (n : ℕ) → IsNotEnough sources (with_backlog n w) server

-- Why the server needs a remedy, and what would do: a backlog, if one would with its own reservation, and another
-- reservation, if one is found. The delay by the others, if that alone is too long: then nothing would do
pub record IsRemedy (sources : List Source) (w : Wanted) (server : Rate) (r : Remedy) : Type 0 where
  pub needed : IsNotEnough sources w server
  pub backlog : MatchOption r.backlog (IsNoBacklogEnough sources w server) (IsBacklogEnough sources w server)
  pub reservation : IsProposal sources w (option_map rate_of r.reservation)
  pub delayed : r.delayed ≡ delayed_longer w
  pub hopeless : IsSome r.delayed → IsHopeless sources w
