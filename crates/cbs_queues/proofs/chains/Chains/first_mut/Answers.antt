use Rattle.std.proofs.Common.{refl}
use Rattle.cbs_queues.proofs.ChainKeys.{within_list, ends_read}
use Rattle.cbs_queues.proofs.ChainPops.{head_held, first_value, lists_written, count_written, sound_written}
use Rattle.cbs_queues.proofs.chains.Chains.first_mut.Goals as goal

pub index_mut-requires : goal.index_mut-requires
index_mut-requires g c =
    let some = rw (← c.self.view_is) at c.requires.some in
    let within = within_list _ _ _ some in
    let read = ends_read c.self.inside.ends.items _ _ c.index.result.now c.from.ensures within c.index.ensures in
    rw read (head_held c.self.inside.nodes.slots c.self.inside.ends.items _ c.self.invariant some)

pub invariant_of-self-lent : goal.invariant_of-self-lent
invariant_of-self-lent g c w = sound_written _ _ _ w c.index_mut.ensures.value _ c.self.invariant

pub returns : goal.returns
returns g c =
    let some = rw (← c.self.view_is) at c.requires.some in
    let within = within_list _ _ _ some in
    let read = ends_read c.self.inside.ends.items _ _ c.index.result.now c.from.ensures within c.index.ensures in
    let found = rw read at c.index_mut.ensures.value in (
      (
        refl {a = c.value_mut.result.ghost_name},
        λ w.
            let lists = lists_written _ _ _ c.self.invariant some _ w found in
            rw (← c.self.view_is, read, lists, count_written c.self.inside.nodes.slots _ _ w found),
      ),
      record {
        writes_back = tt;
        value = rw (← c.self.view_is, c.value_mut.ensures.value) (first_value _ _ _ c.self.invariant some _ found);
      },
    )
