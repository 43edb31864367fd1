use Rattle.std.proofs.Common.{◌≡◌, suc, ◌+◌, ◌-◌, arith}
use Rattle.cbs_sums.proofs.sum.share_of.Goals as goal

pub loop-preserved : goal.loop-preserved
loop-preserved c =
    let k : 8 - c.loop.counter ≡ suc (8 - (c.loop.counter + 1)) = omega (arith, c.loop-test.true) in
    rw c.shifted-register.ensures (rw k at c.loop.invariant)
