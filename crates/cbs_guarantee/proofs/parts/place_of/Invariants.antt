use Rattle.std.proofs.Common.{◌≡◌, ◌++◌, take, drop}
use Rattle.cbs_guarantee.specs.Parts.{ordered_with}
use Rattle.cbs_guarantee.proofs.parts.place_of.Given as goal

-- the server stands after those so far
abbrev pub invariant-loop-index : goal.invariant-loop-index
invariant-loop-index l =
    ordered_with l.reservations l.server l.order ≡ take l.index l.order ++ ordered_with l.reservations l.server (drop l.index l.order)
