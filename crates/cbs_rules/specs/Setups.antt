-- A plan with a mode for each of its servers.
use Rattle.std.specs.Prelude.{List, [], ◌∷◌, ◌++◌}
use Rattle.cbs_rate.specs.Bound.{Fraction}
use Rattle.cbs_rate.specs.Plan.{Planned}
use Rattle.cbs_rate.specs.Rate.{Rate}
use Rattle.cbs_rules.specs.declared.mode.Mode.{Mode}

-- the plan, and the modes of its servers, server 0 first
pub record ModedPlan : Type 0 where
  pub plan : Planned
  pub modes : List Mode

-- the setup with no server, within this bound
abbrev pub no_servers : Fraction → ModedPlan
no_servers bound = record { plan = record { bound = bound; rates = [] }; modes = [] }

-- the setup with one more server, of this rate and this mode
abbrev pub with_server : ModedPlan → Rate → Mode → ModedPlan
with_server s rate mode = record { plan = record s.plan { rates = s.plan.rates ++ rate ∷ [] }; modes = s.modes ++ mode ∷ [] }
