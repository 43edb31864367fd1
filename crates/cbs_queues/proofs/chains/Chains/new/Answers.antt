use Rattle.std.proofs.Common.{◌≡◌, replicate}
use Rattle.cbs_queues.specs.Chains.{no_ends}
use Rattle.cbs_queues.proofs.ChainKeys.{lists_opened, sound_opened}
use Rattle.cbs_queues.proofs.chains.Chains.new.Goals as goal

pub invariant_of-result : goal.invariant_of-result
invariant_of-result g c =
    let empty : c.in_ok-ends.ends.items ≡ replicate c.args.servers no_ends = rw c.from.ensures at c.in_ok-ends.ensures.items_if_clones_equal (λ y same. same) in
    rw (c.new.ensures.empty, empty) (sound_opened c.args.servers)

pub returns : goal.returns
returns g c =
    let empty : c.in_ok-ends.ends.items ≡ replicate c.args.servers no_ends = rw c.from.ensures at c.in_ok-ends.ensures.items_if_clones_equal (λ y same. same) in
    record { empty = rw empty (lists_opened c.new.result.slots c.args.servers) }
