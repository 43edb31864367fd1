use Rattle.std.proofs.Common.{◌≡◌, ◌∙◌, ◌++◌, ◌∷◌, [], append_assoc, ap, sym, length, arith}
use Rattle.std.proofs.lemmas.List.{append-nil, nil_from_length}
use Rattle.std.specs.Vec.Iter.{into_iter_items}
use Rattle.cbsrun_figures.proofs.Telling.{tell_more, all_figures}
use Rattle.cbsrun_figures.proofs.report.Report.figures.Goals as goal

pub loop-tally-preserved : goal.loop-tally-preserved
loop-tally-preserved g c =
    let told = tell_more c.args.now c.loop-tally.yielded c.loop-tally.figures.items c.in-Some.tally c.in_ok-own.own c.loop-tally.invariant.told
    c.in_ok-own.ensures in
    record {
      count = omega (arith, ap length c.in-Some.ensures.steps.0, c.in-Some.ensures.steps.1, c.loop-tally.invariant.count);
      all = c.loop-tally.invariant.all ∙ ap (λ xs. c.loop-tally.yielded ++ xs) c.in-Some.ensures.steps.0
          ∙ sym (append_assoc c.loop-tally.yielded (c.in-Some.tally ∷ []) (into_iter_items c.next.new.self));
      told = rw c.in_ok-push.ensures.items told;
    }

pub returns : goal.returns
returns g c = λ first seen was.
    let none : into_iter_items c.loop-tally.tally-iterator ≡ [] =
    nil_from_length _ (sym c.loop-tally.invariant.count ∙ c.in-None.ensures.steps.0) in
    let whole : c.args.self.kept ≡ c.loop-tally.yielded =
    c.loop-tally.invariant.all ∙ (ap (λ xs. c.loop-tally.yielded ++ xs) none ∙ append-nil c.loop-tally.yielded) in
    all_figures first c.args.self seen c.args.now c.loop-tally.figures.items (rw whole c.loop-tally.invariant.told) was
