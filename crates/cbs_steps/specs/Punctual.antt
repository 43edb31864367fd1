-- The laws of a history: on time, and on what a server takes.
use Rattle.cbs_job.specs.Work.{Meaning}
use Rattle.cbs_steps.specs.History.{History}
use Rattle.cbs_steps.specs.OnTime.{KeepsOnTime, KeepsDeadlines}
use Rattle.cbs_steps.specs.StrictlyOnTime.{KeepsStrictlyOnTime, KeepsStrictTime, IsStricter}
use Rattle.cbs_steps.specs.Promises.{KeepsPromise, KeepsBound, KeepsDue}
use Rattle.cbs_steps.specs.HardTasks.{KeepsHard}
use Rattle.cbs_steps.specs.Supplies.{KeepsSupply}
use Rattle.cbs_steps.specs.Lateness.{KeepsLateness}
use Rattle.cbs_steps.specs.Paced.{KeepsPaced, KeepsPace, KeepsPacedLateness, KeepsPacedPromise}
use Rattle.cbs_steps.specs.Charged.{KeepsChargedSupply, KeepsChargedPromise, KeepsChargedDue, KeepsChargedEnd, KeepsChargedDueEnd}
use Rattle.cbs_steps.specs.Windows.{KeepsShare, KeepsCap}
use Rattle.cbs_steps.specs.declared.step.Step.{Step}

-- punctual: the laws on time hold of the history, and no server took more than its share
pub record IsPunctual {W : Type 0} (work : Meaning W) (N : History W) : Type 0 where
  pub on_time : KeepsOnTime work N
  pub never_late : KeepsDeadlines work N
  pub strictly_on_time : KeepsStrictlyOnTime work N
  pub strict_steps : (x : Step W) → KeepsStrictTime work N x
  pub stricter : IsStricter work N
  pub promise : KeepsPromise work N
  pub bound : KeepsBound work N
  pub due : KeepsDue work N
  pub hard : KeepsHard work N
  pub supply : KeepsSupply work N
  pub share : KeepsShare work N
  pub cap : KeepsCap work N
  pub late_by : KeepsLateness work N
  pub charged_supply : KeepsChargedSupply work N
  pub charged_promise : KeepsChargedPromise work N
  pub charged_due : KeepsChargedDue work N
  pub charged_end : KeepsChargedEnd work N
  pub charged_due_end : KeepsChargedDueEnd work N
  pub paced : KeepsPaced work N
  pub paced_steps : (x : Step W) → KeepsPace work N x
  pub paced_late : KeepsPacedLateness work N
  pub paced_promise : KeepsPacedPromise work N
