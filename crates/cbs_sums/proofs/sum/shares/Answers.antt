use Rattle.std.proofs.Common.{◌≡◌, ◌<◌, ◌≢◌, ◌∙◌, length, length-set, arith, get_or-set_other, get_or-set_same, below_more}
use Rattle.cbs_sums.proofs.sum.shares.Goals as goal

pub loop-byte-preserved : goal.loop-byte-preserved
loop-byte-preserved c =
    let within : c.loop-byte.byte < length c.loop-byte.shares = omega (arith, c.loop-byte.invariant.0, c.loop-byte-test.true) in (
      length-set c.loop-byte.shares c.loop-byte.byte c.share_of.result ∙ c.loop-byte.invariant.0,
      below_more _ _
          (λ b h. let other : b ≢ c.loop-byte.byte = omega arith in rw get_or-set_other (c.loop-byte.invariant.1 b h))
          (rw get_or-set_same c.share_of.ensures),
    )
