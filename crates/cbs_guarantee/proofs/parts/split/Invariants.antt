use Rattle.std.proofs.Common.{◌≡◌, [], drop}
use Rattle.std.specs.List.{AllByRecursion}
use Rattle.cbs_guarantee.specs.Parts.{IsPart, first_fit, servers_of}
use Rattle.cbs_guarantee.proofs.parts.split.Given as goal

-- the parts so far, and the servers that are left, come to all by first fit
abbrev pub invariant-loop-server : goal.invariant-loop-server
invariant-loop-server l = record {
  each : AllByRecursion (IsPart l.bound l.reservations) l.parts.items;
  servers : first_fit l.bound l.reservations (drop l.server-index l.server-items) (servers_of l.parts.items)
      ≡ first_fit l.bound l.reservations l.server-items [];
}
