use Rattle.std.proofs.Common.{◌/◌, ◌<◌, length}
use Rattle.cbsrun_simulate.specs.Turns.{turn_of, SetsLeaf}
use Rattle.cbsrun_simulate.proofs.Trees.{IsTreeBut}
use Rattle.cbsrun_simulate.proofs.turns.Turns.set.Given as goal

-- the leaf is set, and the tree is one but for the current node
abbrev pub invariant-loop-node : goal.invariant-loop-node
invariant-loop-node g l = record {
  above : l.node < length l.nodes / 2;
  sets : SetsLeaf l.fn.place (turn_of l.fn.place l.fn.next) l.fn.self l.nodes;
  tree : IsTreeBut l.node l.nodes;
}

abbrev pub decreases-loop-node : goal.decreases-loop-node
decreases-loop-node g l = l.node
