-- Whether one executor takes all reservations.
use Rattle.std.specs.Prelude.{ℕ, Bool, is_some, List, [], ◌∷◌, Option, Some, None}
use Rattle.cbs_rate.specs.Bound.{Fraction}
use Rattle.cbs_rate.specs.Plan.{Planned, admit_refusal, with_rate}
use Rattle.cbs_rate.specs.Rate.{Rate, rate_refusal}
use Rattle.cbs_rate.specs.declared.error.AdmitError.{AdmitError}
use Rattle.cbs_rate.specs.declared.error.RateError.{RateError}
use Rattle.cbsrun_proposals.specs.Proposals.{rate_of}
use Rattle.cbsrun_proposals.specs.declared.remedy.Proposal.{Proposal}

-- a reservation, unless it is none
abbrev pub unless_none : Rate → Option RateError → Option Rate
unless_none r None = Some r
unless_none r (Some why) = None

-- a proposal as a reservation, if it is one
abbrev pub rate_in : Proposal → Option Rate
rate_in p = unless_none (rate_of p) (rate_refusal p.budget p.period)

-- the plan with one more server, unless it refuses that
abbrev pub unless_refused : Planned → Option AdmitError → Option Planned
unless_refused plan None = Some plan
unless_refused plan (Some why) = None

-- the plan with one more reservation, if there is one that the plan takes
abbrev pub plan_with : Planned → Option Rate → Option Planned
plan_with plan None = None
plan_with plan (Some r) = unless_refused (with_rate plan r) (admit_refusal plan r)

-- the plan with these reservations, admitted one after another, if it takes them all
abbrev pub plan_from : Option Planned → List Proposal → Option Planned
plan_from None ps = None
plan_from (Some plan) [] = Some plan
plan_from (Some plan) (p ∷ ps) = plan_from (plan_with plan (rate_in p)) ps

-- the plan of these reservations alone
abbrev pub plan_of : Fraction → List Proposal → Option Planned
plan_of bound ps = plan_from (Some (record { bound = bound; rates = [] })) ps

-- it takes them all
abbrev pub are_admitted : Fraction → List Proposal → Bool
are_admitted bound ps = is_some (plan_of bound ps)
