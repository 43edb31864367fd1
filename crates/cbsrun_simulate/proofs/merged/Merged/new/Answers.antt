use Rattle.std.proofs.Common.{◌≡◌, ◌<◌, length, get_or, arith}
use Rattle.std.proofs.lemmas.Grind.{common_steps}
use Rattle.cbsrun_simulate.proofs.MergedTurns.{turn_more}
use Rattle.cbsrun_simulate.proofs.merged.Merged.new.Goals as goal

pub loop-place-preserved : goal.loop-place-preserved
loop-place-preserved g c =
    let same = c.deref-source-items.ensures.value in
    let xs = c.args.sources.items in
    let within : c.loop-place.place < length xs = let lt = c.loop-place-test.true in rw same at lt in
    let is : c.source-item.result ≡ get_or xs c.loop-place.place c.source-item.result = rw same at c.source-item.is in
    turn_more g.S.Releases.coming g.S.Releases.ordered xs c.loop-place.place c.loop-place.turns c.set.new.self c.source-item.result c.first.result
    within is c.first.ensures.next c.first.ensures.early c.loop-place.invariant c.set.ensures

pub loop-place-init : goal.loop-place-init
loop-place-init g c = grind (arith, common_steps)

pub set-requires : goal.set-requires
set-requires g c = grind (arith, common_steps)

pub invariant_of-result : goal.invariant_of-result
invariant_of-result g c =
    let same = c.deref-source-items.ensures.value in
    let over = c.loop-place-test.false in
    let all : c.loop-place.place ≡ length c.args.sources.items = grind (arith, common_steps) in
    rw all at c.loop-place.invariant

pub returns : goal.returns
returns g c = grind (arith, common_steps)
