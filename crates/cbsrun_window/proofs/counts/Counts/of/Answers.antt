use Rattle.std.proofs.Common.{◌≡◌, ◌∙◌, sym, ap, arith}
use Rattle.std.specs.Prelude.{get_or}
use Rattle.cbsrun_window.specs.Counts.{counts_with, overlap}
use Rattle.cbsrun_window.specs.declared.counts.Counts.{Counts}
use Rattle.cbsrun_window.specs.declared.stretch.Kind.TheVariants.{Runs}
use Rattle.cbsrun_window.specs.declared.stretch.Stretch.{Stretch}
use Rattle.cbsrun_window.proofs.Counting.{counts_next, counts_skipped}
use Rattle.cbsrun_window.proofs.counts.Counts.of.Goals as goal
use Rattle.cbsrun_window.proofs.counts.Counts.of.Goals.{then-ticks-gt0, else-ticks-gt0}

pub loop-stretch-preserved : goal.loop-stretch-preserved
loop-stretch-preserved c =
    let l = c.loop-stretch in
    let ps = c.args.stretches.now in
    let d : Stretch = record { kind = Runs 0; from = 0; to = 0 } in
    let p : Stretch = get_or ps l.stretch-index d in
    elim c.if-ticks-gt0.branch [
      | then-ticks-gt0 w ↦
          w.counts-is ∙ (w.with-counts.ensures ∙ (ap (λ n. counts_with p.kind n l.counts) c.overlap-ticks.ensures
          ∙ (ap (λ (x : Counts). counts_with p.kind (overlap c.args.from c.args.to p) x) l.invariant
          ∙ sym (counts_next c.args.from c.args.to ps l.stretch-index d c.loop-stretch-test.true))))
      | else-ticks-gt0 w ↦
          let none : c.overlap-ticks.result ≡ 0 = let h = w.if-ticks-gt0.false in omega arith in
          w.counts-is
          ∙ (l.invariant ∙ sym (counts_skipped c.args.from c.args.to ps l.stretch-index d c.loop-stretch-test.true (sym c.overlap-ticks.ensures ∙ none)))
    ]
