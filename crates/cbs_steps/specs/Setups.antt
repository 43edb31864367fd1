-- What a core is given.
use Rattle.std.specs.Prelude.{ℕ, ◌||◌, eqb, ltb, if◌then◌else◌, List, [], ◌∷◌, Option, Some, None}
use Rattle.cbs_rate.specs.Limits.{most_backlog}
use Rattle.cbs_rate.specs.Rate.{Rate}
use Rattle.cbs_rules.specs.Rules.{Terms}
use Rattle.cbs_rules.specs.declared.mode.Mode.{Mode}
use Rattle.cbs_steps.specs.History.{History, Setup}
use Rattle.cbs_steps.specs.declared.error.CoreError.{CoreError}
use Rattle.cbs_steps.specs.declared.error.CoreError.TheVariants as error
use Rattle.cbs_steps.specs.declared.step.Step.{Step}

-- the terms of the servers: each has its mode and its reservation
abbrev pub terms_of : List Mode → List Rate → List Terms
terms_of [] rates = []
terms_of (m ∷ modes) [] = []
terms_of (m ∷ modes) (r ∷ rates) = record { mode = m; reservation = r } ∷ terms_of modes rates

-- what an executor of servers with these modes and reservations is given, each with this backlog
abbrev pub setup_of : List Mode → List Rate → ℕ → Setup
setup_of modes rates backlog = record { servers = terms_of modes rates; backlog = backlog }

-- its history of these steps
abbrev pub history_of : {W : Type 0} → List Mode → List Rate → ℕ → List (Step W) → History W
history_of modes rates backlog steps = record { setup = setup_of modes rates backlog; steps = steps }

-- why a backlog is refused, if it is: it must be 1 to 4096 jobs
abbrev pub new_refusal : ℕ → Option CoreError
new_refusal backlog = if eqb backlog 0 || ltb most_backlog backlog then Some error.BadBacklog else None
