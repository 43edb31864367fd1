-- What each server keeps through every step. An executor depends on it.
use Rattle.std.specs.Prelude.{◌≡◌, ℕ, ◌+◌, ◌*◌, ◌≤◌, ◌<◌, true, false}
use Rattle.cbs_rate.specs.Limits.{longest_period}
use Rattle.cbs_rate.specs.Rate.{IsRate}
use Rattle.cbs_rules.specs.Rules.{clock_end, latest_deadline, IsState}
use Rattle.cbs_rules.specs.declared.mode.Mode.TheVariants.{Soft}
use Rattle.cbs_steps.specs.Faces.{Face, is_active, backlog_of}

-- what each server keeps, with the backlog that it may have and the clock
pub record IsServer (backlog now : ℕ) (f : Face) : Type 0 where
  pub lawful : IsRate f.terms.reservation.budget f.terms.reservation.period
  pub state : IsState f.terms.reservation f.state
  pub free : f.terms.mode ≡ Soft → f.state.throttled ≡ false
  pub begun : is_active f ≡ true → 0 < f.state.deadline
  pub early : f.state.deadline ≤ now + (now + 1) * longest_period
  pub counted : f.finished ≤ f.accepted
  pub few_done : f.finished ≤ now
  pub few_charged : f.charges.total ≤ now
  pub few_jobs : backlog_of f ≤ backlog

-- what must hold of a server before it is charged so many ticks
pub record MayCharge (ticks : ℕ) (f : Face) : Type 0 where
  pub some : 0 < ticks
  pub few : ticks ≤ clock_end
  pub free : f.terms.mode ≡ Soft → f.state.throttled ≡ false
  pub begun : 0 < f.state.deadline
  pub room : f.state.deadline + ticks * f.terms.reservation.period ≤ latest_deadline + longest_period
  pub counted : f.charges.total + ticks ≤ clock_end
