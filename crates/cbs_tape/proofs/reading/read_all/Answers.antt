use Rattle.std.proofs.Common.{◌≡◌, suc, ◌+◌, ◌-◌, arith, length, sym}
use Rattle.cbs_tape.specs.Reading.{told}
use Rattle.cbs_tape.proofs.Cuts.{after_one, after_all, after_last}
use Rattle.cbs_tape.proofs.reading.read_all.Goals as goal

pub returns-in-Err : goal.returns-in-Err
returns-in-Err g c =
    let k : length c.args.bytes.now - c.loop.counter ≡ suc (length c.args.bytes.now - (c.loop.counter + 1)) = omega (arith, c.loop-test.true) in
    after_all c.loop.entries.items _ c.loop.rest.now c.in-Err.ending (told c.args.bytes.now) (sym c.in-Err.ensures) (rw k at c.loop.invariant)

pub loop-preserved : goal.loop-preserved
loop-preserved g c =
    let k : length c.args.bytes.now - c.loop.counter ≡ suc (length c.args.bytes.now - (c.loop.counter + 1)) = omega (arith, c.loop-test.true) in
    rw c.in_ok-push-in-Ok.ensures.items
    (after_one c.loop.entries.items (length c.args.bytes.now - (c.loop.counter + 1)) c.loop.rest.now c.in-Ok.entry c.in-Ok.after.now (told c.args.bytes.now) (sym c.in-Ok.ensures) (rw k at c.loop.invariant))

pub returns : goal.returns
returns g c = after_last c.loop.entries.items _ c.loop.rest.now (told c.args.bytes.now) (omega (arith, c.loop-test.false)) c.loop.invariant
