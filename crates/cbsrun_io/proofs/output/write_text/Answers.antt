use Rattle.std.proofs.lemmas.Result.{err_from_is_err_and}
use Rattle.std.proofs.Common.{take, drop, arith, length-drop, ◌∙◌, ◌+◌, ap, sym}
use Rattle.std.proofs.lemmas.Grind.{common_steps}
use Rattle.std.proofs.lemmas.List.{take_rest, take-append-drop}
use Rattle.std.proofs.Math.Seq.{take-add}
use Rattle.cbsrun_io.proofs.WrittenText.{Appends-then, Appends-kept}
use Rattle.cbsrun_io.proofs.output.write_text.Goals as goal

pub loop-done-preserved : goal.loop-done-preserved
loop-done-preserved g c =
    let took = c.in_ok-done.ensures.took in
    let wrote = rw take_rest at c.in_ok-done.ensures.ok in
    record {
      within = omega (arith, took.0, length-drop c.loop-done.done c.args.text.now, c.loop-done.invariant.within);
      so_far = rw (take-add c.loop-done.done c.in_ok-done.field-0 c.args.text.now) (Appends-then _ _ _ _ _ c.loop-done.invariant.so_far wrote.0);
      none_failed = wrote.1 ∙ c.loop-done.invariant.none_failed;
    }

pub returns-in_err-done-clause-err : goal.returns-in_err-done-clause-err
returns-in_err-done-clause-err g c =
    let p = err_from_is_err_and c.from_residual.result c.from_residual.ensures.1 in
    let kept = c.in_err-done.ensures.err in
    rw p.1 (
      kept.1 ∙ ap (λ n. n + 1) c.loop-done.invariant.none_failed,
      (
        take c.loop-done.done c.args.text.now,
        drop c.loop-done.done c.args.text.now,
        Appends-kept _ _ _ _ c.loop-done.invariant.so_far kept.0,
        sym (take-append-drop c.loop-done.done c.args.text.now),
      ),
    )

pub loop-done-init : goal.loop-done-init
loop-done-init g c = grind (arith, common_steps)

pub returns-clause-ok : goal.returns-clause-ok
returns-clause-ok g c = grind (arith, common_steps)
