use Rattle.std.proofs.Common.{◌≡◌, ◌-◌, ◌++◌, length}
use Rattle.cbs_sums.specs.Blocks.{tape_in}
use Rattle.cbs_sums.proofs.reading.tape_in.Given as goal

-- the bytes that were read, and those of the other blocks
abbrev pub invariant-loop : goal.invariant-loop
invariant-loop l = l.tape.items ++ tape_in (length l.blocks - l.counter) l.sum l.rest ≡ tape_in (length l.blocks) l.initial.sum l.blocks
