use Rattle.std.proofs.Common.{◌≡◌, ◌∙◌, map, sym, ap, arith}
use Rattle.std.proofs.lemmas.Grind.{common_steps}
use Rattle.std.specs.List.{list_any}
use Rattle.std.proofs.lemmas.List.{take_all}
use Rattle.std.proofs.lemmas.List.Sorted.{list_any-IsPermutation}
use Rattle.std.proofs.lemmas.Result.{IfOk-weaker}
use Rattle.cbsrun_chart.specs.Jobs.{late_stretch}
use Rattle.cbsrun_chart.specs.Charts.{LateCovered}
use Rattle.cbsrun_window.specs.Stretches.{all_of, shows}
use Rattle.cbsrun_window.specs.declared.stretch.Kind.TheVariants as kind
use Rattle.cbsrun_chart.proofs.Covers.{cover_more, late_of_jobs}
use Rattle.cbsrun_chart.proofs.chart.late_of.Goals as goal

pub loop-stretch-preserved : goal.loop-stretch-preserved
loop-stretch-preserved c = λ t a b.
    rw c.in_ok-add.ensures
    (cover_more c.args.window kind.Late t c.deref-stretch-items.result.now c.loop-stretch.stretch-index _ c.loop-stretch.late a b c.loop-stretch-test.true
    (c.loop-stretch.invariant t a b))

pub returns : goal.returns
returns c =
    let jobs = c.args.jobs.now in
    let items = c.deref-stretch-items.result.now in
    let whole : c.loop-job.stretches.items ≡ map (late_stretch c.args.end) jobs =
    c.loop-job.invariant ∙ ap (map (late_stretch c.args.end)) (take_all c.loop-job.job-index jobs c.loop-job-test.false) in
    IfOk-weaker c.into_all.result (λ all. all.items ≡ all_of c.loop-stretch.late) (λ late. LateCovered c.args.window c.args.end jobs late.items)
    (λ late e t a b.
    rw e (c.loop-stretch.invariant t a b
    ∙ (ap (list_any (shows kind.Late t)) (take_all c.loop-stretch.stretch-index items c.loop-stretch-test.false ∙ c.deref-stretch-items.ensures.value)
    ∙ (sym (list_any-IsPermutation (shows kind.Late t) _ _ c.in_ok-sort_by_key.ensures.permutation)
    ∙ (ap (list_any (shows kind.Late t)) whole ∙ late_of_jobs c.args.end t jobs)))))
    c.into_all.ensures

pub loop-job-preserved : goal.loop-job-preserved
loop-job-preserved c = grind (arith, common_steps)
