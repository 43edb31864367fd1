use Rattle.std.proofs.Common.{map}
use Rattle.cbsrun_simulate.specs.Turns.{HasTurns}
use Rattle.cbsrun_simulate.proofs.merged.Merged.new.Given as goal

-- the tree has the turns of the sources so far
abbrev pub invariant-loop-place : goal.invariant-loop-place
invariant-loop-place g l = HasTurns l.place (map g.S.Releases.coming l.fn.sources.items) l.turns
