use Rattle.std.proofs.Common.{◌≡◌, ◌+◌, ◌∷◌, ◌∙◌, length, arith, subst}
use Rattle.cbsrun_loads.specs.Loads.{with_seed}
use Rattle.cbsrun_runs.specs.Loads.{run_of}
use Rattle.cbsrun_runs.specs.Runs.{IsReportOf}
use Rattle.cbsrun_sweeps.proofs.sweep.swept_in_turn.Goals as goal

pub loop-run-preserved : goal.loop-run-preserved
loop-run-preserved c =
    let f = c.args.load.now in
    let old = c.loop-run.invariant in
    let r = c.in_ok-report.report in
    let seed = c.args.first + c.loop-run.run in
    let now : seed ≡ c.args.first + length old.reports = omega (arith, old.counted) in
    let told : IsReportOf c.args.name.now (run_of (with_seed seed f)) r = c.in_ok-report.ensures.report in
    record {
      reports = r ∷ old.reports;
      counted = omega (arith, old.counted);
      are = (subst (λ n. IsReportOf c.args.name.now (run_of (with_seed n f)) r) now told, old.are);
      count = c.add.ensures.count ∙ old.count;
      each = λ s lt. let e = c.add.ensures.each s (omega (arith, lt, old.count)) in rw (c.deref.ensures.value, old.each s lt, now) at e;
    }
