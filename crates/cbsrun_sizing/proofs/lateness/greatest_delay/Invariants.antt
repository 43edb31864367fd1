use Rattle.std.proofs.Common.{◌≡◌}
use Rattle.std.specs.Prelude.{max}
use Rattle.std.specs.List.{fold, range_with_len}
use Rattle.cbsrun_sizing.specs.ServerLoads.{delay_of}
use Rattle.cbsrun_sizing.proofs.lateness.greatest_delay.Given as goal

abbrev pub invariant-loop-server : goal.invariant-loop-server
invariant-loop-server l = l.greatest ≡ fold (λ most s. max most (delay_of l.load s)) 0 (range_with_len 0 l.server)
