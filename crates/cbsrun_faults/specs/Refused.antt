-- A server that a plan does not take, by the document in which it stands.
use Rattle.std.specs.Prelude.{◌≡◌, ℕ, codes, List, [], ◌∷◌, map, take, slice_get, option_map, Option, Some, None, Result, Ok, Err, MatchOption, Vec}
use Rattle.toml.specs.Data.{Data, Members}
use Rattle.cbs_rate.specs.Bound.{Fraction}
use Rattle.cbs_rate.specs.Rate.{Rate}
use Rattle.cbs_rate.specs.Plan.{Planned, admit_refusal, with_rate}
use Rattle.cbs_rate.specs.declared.error.AdmitError.{AdmitError}
use Rattle.cbsrun_toml_tables.specs.declared.fault.FileKind.{FileKind}
use Rattle.cbsrun_times.specs.declared.ticks.Rounding.TheVariants.{Up, Whole}
use Rattle.cbsrun_toml_tables.specs.Fields.{◌>>=◌, members, pair_at}
use Rattle.cbsrun_toml_tables.specs.Plans.{bound_of, reservation}
use Rattle.cbsrun_loads.specs.Times.{tick_at, ticks_at}
use Rattle.cbsrun_faults.specs.declared.refused.Refused.{Refused}

-- the bound that a top table spells, or the fault of its key
unfoldable pub bound_at : Members → Result Fraction FileKind
bound_at top = pair_at (codes "bound") top >>= bound_of

-- the nanoseconds of a tick that a top table tells, if it tells them
abbrev pub tick_told : Result (Option ℕ) FileKind → Option ℕ
tick_told (Ok tick) = tick
tick_told (Err kind) = None

abbrev pub tick_in : Members → Option ℕ
tick_in top = tick_told (tick_at top)

-- the reservation that the entry of a server spells, in a file with this tick, or its fault
unfoldable pub reservation_of : Option ℕ → Data → Result Rate FileKind
reservation_of tick entry = do
  server ← members entry
  budget ← ticks_at tick Up (codes "budget") server
  period ← ticks_at tick Whole (codes "period") server
  reservation budget period

-- the plan with one more server, unless it refuses that
abbrev pub unless_refused : Planned → Option AdmitError → Option Planned
unless_refused plan None = Some plan
unless_refused plan (Some why) = None

-- the plan with the server of one more entry, if the entry spells a reservation that the plan takes
abbrev pub plan_with : Planned → Result Rate FileKind → Option Planned
plan_with plan (Ok r) = unless_refused (with_rate plan r) (admit_refusal plan r)
plan_with plan (Err kind) = None

-- the plan with the servers of these entries, admitted one after another, if it takes them all
abbrev pub plan_from : Option ℕ → Option Planned → List Data → Option Planned
plan_from tick None entries = None
plan_from tick (Some plan) [] = Some plan
plan_from tick (Some plan) (entry ∷ entries) = plan_from tick (plan_with plan (reservation_of tick entry)) entries

-- the plan of these entries alone, if it takes them all
abbrev pub plan_of : Option ℕ → Fraction → List Data → Option Planned
plan_of tick bound entries = plan_from tick (Some (record { bound = bound; rates = [] })) entries

-- the reservations that all these entries spell
abbrev pub AreReservations : Option ℕ → List Data → List Rate → Type 0
AreReservations tick entries rates = map (reservation_of tick) entries ≡ map Ok rates

-- the reservations that all these entries spell, or none if one of them spells none
abbrev pub TellsReservations : {A : Type 0} → Option ℕ → List Data → Option (Vec Rate A) → Type 0
TellsReservations tick entries result =
    MatchOption result ((rates : List Rate) → ¬ (AreReservations tick entries rates)) (λ all. AreReservations tick entries all.items)

-- the plan of the entries before takes them all, and refuses this reservation for that reason
pub record IsRefused (bound : Fraction) (before : List Data) (asked : Rate) (refused : Refused) : Type 0 where
  pub reservation : refused.reservation ≡ asked
  pub plan : plan_of refused.tick bound before ≡ Some refused.plan
  pub why : admit_refusal refused.plan asked ≡ Some refused.why

-- the entries before do not all make a plan, or their plan takes the reservation
abbrev pub IsNotRefused : Option ℕ → Fraction → List Data → Rate → Type 0
IsNotRefused tick bound before asked = (plan : Planned) → plan_of tick bound before ≡ Some plan → admit_refusal plan asked ≡ None

-- so it is with this server of the document with this top table and these entries of `server`
pub record IsRefusedAt (top : Members) (entries : List Data) (server : ℕ) (refused : Refused) : Type 0 where
  pub number : refused.number ≡ server
  pub tick : refused.tick ≡ tick_in top
  pub bound : bound_at top ≡ Ok refused.plan.bound
  pub entry : option_map (reservation_of refused.tick) (slice_get entries server) ≡ Some (Ok refused.reservation)
  pub refusal : IsRefused refused.plan.bound (take server entries) refused.reservation refused

-- the server as its plan refuses it, or none unless it does
abbrev pub TellsRefused : Members → List Data → ℕ → Option Refused → Type 0
TellsRefused top entries server result =
    MatchOption result ((refused : Refused) → ¬ (IsRefusedAt top entries server refused)) (IsRefusedAt top entries server)
