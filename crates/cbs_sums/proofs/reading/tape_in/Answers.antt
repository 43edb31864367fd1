use Rattle.std.proofs.Common.{◌≡◌, suc, ◌+◌, ◌-◌, arith, length, sym, ◌∙◌}
use Rattle.std.proofs.lemmas.List.{append-nil}
use Rattle.cbs_sums.specs.declared.reading.Stop.TheVariants.{Cut, Wrong}
use Rattle.cbs_sums.proofs.Read.{one_more, no_more, at_last}
use Rattle.cbs_sums.proofs.reading.tape_in.Goals as goal

pub loop-preserved : goal.loop-preserved
loop-preserved c =
    let k : length c.args.blocks.now - c.loop.counter ≡ suc (length c.args.blocks.now - (c.loop.counter + 1)) = omega (arith, c.loop-test.true) in
    rw c.in_ok-extend_from_slice-in-Ok.ensures.items
    (one_more c.loop.tape.items (length c.args.blocks.now - (c.loop.counter + 1)) c.loop.sum c.loop.rest.now
    (record { content = c.in-Ok.block.content.now; register = c.block_at.new.sum; rest = c.in-Ok.block.rest.now }) _
    (sym c.in-Ok.ensures) (rw k at c.loop.invariant))

pub returns-in-Err-Cut : goal.returns-in-Err-Cut
returns-in-Err-Cut c =
    let k : length c.args.blocks.now - c.loop.counter ≡ suc (length c.args.blocks.now - (c.loop.counter + 1)) = omega (arith, c.loop-test.true) in
    sym (append-nil c.loop.tape.items)
    ∙ no_more c.loop.tape.items (length c.args.blocks.now - (c.loop.counter + 1)) c.loop.sum c.loop.rest.now Cut _
    (rw c.in-Err-Cut.field-0-is at (sym c.in-Err-Cut.ensures)) (rw k at c.loop.invariant)

pub returns-in-Err-Wrong : goal.returns-in-Err-Wrong
returns-in-Err-Wrong c =
    let k : length c.args.blocks.now - c.loop.counter ≡ suc (length c.args.blocks.now - (c.loop.counter + 1)) = omega (arith, c.loop-test.true) in
    c.in_ok-push-in-Err-Wrong.ensures.items
    ∙ no_more c.loop.tape.items (length c.args.blocks.now - (c.loop.counter + 1)) c.loop.sum c.loop.rest.now Wrong _
    (rw c.in-Err-Wrong.field-0-is at (sym c.in-Err-Wrong.ensures)) (rw k at c.loop.invariant)

pub returns : goal.returns
returns c = at_last c.loop.tape.items _ c.loop.sum c.loop.rest.now _ (omega (arith, c.loop-test.false)) c.loop.invariant
