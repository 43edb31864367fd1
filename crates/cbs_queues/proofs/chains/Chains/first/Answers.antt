use Rattle.std.proofs.Common.{◌<◌, length, refl, arith}
use Rattle.cbs_queues.specs.Queues.{list_at}
use Rattle.cbs_queues.proofs.ChainKeys.{within_lists, ends_read, length-list}
use Rattle.cbs_queues.proofs.ChainPops.{head_held, first_value}
use Rattle.cbs_queues.proofs.chains.Chains.first.Goals as goal

pub index-requires : goal.index-requires
index-requires g c =
    let within = within_lists c.self.inside.nodes.slots c.self.inside.ends.items _ (rw (← c.self.view_is) at c.requires) in
    let read = ends_read c.self.inside.ends.items _ _ c.index-ends.result.now c.from.ensures within c.index-ends.ensures in
    let len = rw read at c.if-ends-eq0.false in
    rw read (head_held _ _ _ c.self.invariant (omega (
      arith,
      length-list c.self.inside.nodes.slots c.self.inside.ends.items c.self.invariant c.args.server within,
    )))

pub returns : goal.returns
returns g c =
    let within = within_lists c.self.inside.nodes.slots c.self.inside.ends.items _ (rw (← c.self.view_is) at c.requires) in
    let read = ends_read c.self.inside.ends.items _ _ c.index-ends.result.now c.from.ensures within c.index-ends.ensures in
    let len = rw read at c.if-ends-eq0.false in
    let some : 0 < length (list_at c.args.self.now.lists c.args.server) =
    rw (← c.self.view_is) (omega (arith, length-list c.self.inside.nodes.slots c.self.inside.ends.items c.self.invariant c.args.server within)) in
    rw (
      ← c.self.view_is,
      first_value c.self.inside.nodes.slots c.self.inside.ends.items c.args.server c.self.invariant
          (rw (← c.self.view_is) at some) c.index.result.now (rw read at c.index.ensures),
    ) refl
