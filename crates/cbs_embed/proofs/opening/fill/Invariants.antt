use Rattle.std.proofs.Common.{◌≡◌, ◌+◌, ◌++◌, length, map, take, Some}
use Rattle.cbs_embed.specs.Handles.{held_by}
use Rattle.cbs_embed.proofs.opening.fill.Given as goal

abbrev pub invariant-loop-handle : goal.invariant-loop-handle
invariant-loop-handle l = record {
  filled : map held_by (take l.handle-index l.handles) ++ map (λ b. Some b.value) l.boxes.items ≡ map (λ b. Some b.value) l.fn.boxes.items;
  left : l.handle-index + length l.boxes.items ≡ length l.handles;
}
