use Rattle.std.proofs.Common.{◌≡◌, ◌++◌, map, take}
use Rattle.cbsrun_text.proofs.row.add_cells.Given as goal

abbrev pub invariant-loop-one : goal.invariant-loop-one
invariant-loop-one g l = l.row.items ≡ l.fn.row.items ++ map g.S.ToCell.shown (take l.one-index l.shown)
