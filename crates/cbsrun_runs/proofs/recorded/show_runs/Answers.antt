use Rattle.std.proofs.Common.{◌≡◌, ◌∙◌, ℕ, ◌+◌, ◌-◌, ◌≤◌, ◌++◌, ◌∷◌, [], List, ap, append_assoc, arith, sym}
use Rattle.std.proofs.Math.ListN.{replicate}
use Rattle.std.proofs.lemmas.List.{replicate_more, replicate-append-replicate}
use Rattle.cbs_steps.specs.declared.step.Step.{Step}
use Rattle.cbs_steps.specs.declared.step.Step.TheVariants.{Run}
use Rattle.cbs_units.specs.Counting.{counting}
use Rattle.cbs_units.specs.declared.count.CountJob.{CountJob}
use Rattle.cbsrun_runs.proofs.SeenSteps.{on_err_always, shows_both, shows_none, stops_later}
use Rattle.cbsrun_runs.proofs.recorded.show_runs.Goals as goal

-- so many runs
abbrev runs : ℕ → List (Step CountJob)
runs n = replicate n Run

-- one run
abbrev one : List (Step CountJob)
one = Run ∷ []

-- some runs and one more
one_more : (n : ℕ) → runs n ++ one ≡ runs (n + 1)
one_more n = replicate_more n Run

-- n runs, one more, and those that are left
runs_left : (n all : ℕ) → n + 1 ≤ all → runs n ++ (one ++ runs (all - (n + 1))) ≡ runs all
runs_left n all most =
    let left = all - (n + 1) in
    let e : (n + 1) + left ≡ all = omega arith in
    sym (append_assoc (runs n) one (runs left)) ∙ ap (λ (xs : List (Step CountJob)). xs ++ runs left) (one_more n)
    ∙ replicate-append-replicate (n + 1) left Run ∙ ap runs e

pub loop-time-init : goal.loop-time-init
loop-time-init g c = record { ready = c.requires; shown = shows_none counting g.V.View.saw _ _ }

pub loop-time-preserved : goal.loop-time-preserved
loop-time-preserved g c =
    let n = c.loop-time._time in
    record {
      ready = c.in_ok-show_step.ensures.ready;
      shown = rw (one_more n) at (shows_both counting g.V.View.saw (runs n) one _ _ _ _ _ _ c.loop-time.invariant.shown
          c.in_ok-show_step.ensures.shown);
    }

pub returns-clause-shown : goal.returns-clause-shown
returns-clause-shown g c =
    let all : c.loop-time._time ≡ c.args.times = omega arith in
    rw all at c.loop-time.invariant.shown

pub returns-in_err-show_step-clause-stopped : goal.returns-in_err-show_step-clause-stopped
returns-in_err-show_step-clause-stopped g c = on_err_always c.from_residual.result (
    let n = c.loop-time._time in
    let all = c.args.times in
    stops_later counting g.V.View.saw g.V.View.failed (runs n) one (runs (all - (n + 1))) (runs all)
    _ _ _ _ _ _ (runs_left n all (omega arith)) c.loop-time.invariant.shown c.in_err-show_step.ensures.stopped)
