use Rattle.std.proofs.Common.{◌≡◌, ◌+◌, min, refl, ◌∙◌, arith}
use Rattle.rand_pcg.specs.Lcg.{started, increment_of}
use Rattle.rand_pcg.specs.Pcg.{multiplier_128}
use Rattle.cbsrun_simulate.specs.Drawing.{drawn, up_to}
use Rattle.cbsrun_simulate.proofs.Sources.{begun, endless}
use Rattle.cbsrun_simulate.proofs.source.Source.new.Goals as goal

-- the generator starts with the seed as its state and the place as its stream
starts : (c : goal.After-saturating_add) → c.new-draws.result ≡ started 128 multiplier_128 c.args.seed (increment_of 128 c.args.place)
starts c = rw (← c.from.ensures, ← c.from-2.ensures) c.new-draws.ensures

-- the jitter is drawn last
late : (c : goal.After-saturating_add)
    → (c.draw-jitter.result, c.draw-jitter.new.draws) ≡ drawn (up_to c.args.terms.now.jitter) c.draw-overrun.new.draws
late c = rw c.up_to.ensures at c.draw-jitter.ensures.value

-- up to the end, the first job comes by so many ticks later than its nominal tick
comes : (c : goal.After-saturating_add)
    → min c.args.until c.saturating_add.result ≡ min c.args.until (c.args.terms.now.first + c.draw-jitter.result)
comes c = let is = c.saturating_add.ensures in omega arith

pub returns-clause-releases : goal.returns-clause-releases
returns-clause-releases c =
    rw (← starts c, ← c.unwrap_or.ensures, ← c.after_first.ensures)
    (begun _ c.draw-jitter.result c.new-draws.result c.draw-units.new.draws c.draw-overrun.new.draws
    c.draw-units.ensures.value c.draw-overrun.ensures.value (late c) (comes c))

pub returns-clause-endless : goal.returns-clause-endless
returns-clause-endless c = λ none k more.
    rw (← starts c, ← c.after_first.ensures)
    (endless _ c.draw-jitter.result c.new-draws.result c.draw-units.new.draws c.draw-overrun.new.draws k
    c.draw-units.ensures.value c.draw-overrun.ensures.value (late c) (comes c)
    (c.unwrap_or.ensures ∙ rw none refl) c.requires.lawful.some_ticks (rw c.after_first.ensures c.requires.listed) more)
