use Rattle.std.proofs.Common.{arith, ◌≤◌, ◌+◌, vec_len, vec_capacity}
use Rattle.cbs_tape.proofs.Written.{none_are}
use Rattle.cbs_tape.proofs.tape.Tape.new.Goals as goal

pub invariant_of-result : goal.invariant_of-result
invariant_of-result g c =
    let room : vec_len c.in_ok-with_capacity.field-0 + 11 ≤ vec_capacity c.in_ok-with_capacity.field-0 = omega (arith, c.in_ok-with_capacity.ensures.len, c.in_ok-with_capacity.ensures.exact) in
    (none_are c.in_ok-with_capacity.field-0.items c.in_ok-with_capacity.ensures.items, λ whole. room)
