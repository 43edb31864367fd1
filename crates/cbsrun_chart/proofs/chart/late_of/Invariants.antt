use Rattle.std.proofs.Common.{◌≡◌, ℕ, ◌<◌, ◌≤◌, map, take}
use Rattle.std.specs.List.{list_any}
use Rattle.cbsrun_chart.specs.Jobs.{late_stretch}
use Rattle.cbsrun_window.specs.Stretches.{all_of, is_covered, shows}
use Rattle.cbsrun_window.specs.declared.stretch.Kind.TheVariants as kind
use Rattle.cbsrun_chart.proofs.chart.late_of.Given as goal

-- the late ticks of the first jobs
abbrev pub invariant-loop-job : goal.invariant-loop-job
invariant-loop-job l = l.stretches.items ≡ map (late_stretch l.end) (take l.job-index l.jobs)

-- the ticks of the first stretches are covered
abbrev pub invariant-loop-stretch : goal.invariant-loop-stretch
invariant-loop-stretch l =
    (t : ℕ) → l.window.from ≤ t → t < l.window.to
    → is_covered kind.Late t (all_of l.late) ≡ list_any (shows kind.Late t) (take l.stretch-index l.stretch-items)
