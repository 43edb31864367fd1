use Rattle.std.proofs.Common.{ap, arith}
use Rattle.cbsrun_simulate.specs.Bounds.{Bounds}
use Rattle.cbsrun_simulate.proofs.Sources.{next_early, source_passed}
use Rattle.cbsrun_simulate.proofs.source.SourceReleases.pass.Goals as goal

pub next_nominal-self-inside-requires-clause-early : goal.next_nominal-self-inside-requires-clause-early
next_nominal-self-inside-requires-clause-early c =
    let early = next_early _ c.args.self.now c.self.view_is c.requires in
    omega arith

pub overflow_add-self-inside : goal.overflow_add-self-inside
overflow_add-self-inside c =
    let most = ap (λ (r : Bounds). r.greatest) c.up_to.ensures in
    let lawful = c.self.invariant.0 in
    omega (arith, lawful.few_ticks, lawful.little_jitter, c.next_nominal-self-inside.ensures.small)

pub returns : goal.returns
returns c = rw c.max-self-inside.ensures
    (source_passed _ c.args.self.now c.after_first-self-inside.result.now c.next_nominal-self-inside.result c.draw.result c.draw-self-inside.result c.draw-jitter.result
    c.next_nominal-self-inside.new.draws c.draw.new.draws
    c.draw-self-inside.new.draws c.draw-jitter.new.draws
    c.self.view_is c.requires c.next_nominal-self-inside.ensures.value c.after_first-self-inside.ensures c.draw.ensures.value c.draw-self-inside.ensures.value (rw c.up_to.ensures at c.draw-jitter.ensures.value))
