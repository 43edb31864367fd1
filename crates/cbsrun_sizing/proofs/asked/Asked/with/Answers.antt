use Rattle.std.proofs.Common.{◌+◌, ◌*◌, ◌/◌, ◌≤◌, arith}
use Rattle.std.proofs.lemmas.Nat.Gcd.{le_of_dvd}
use Rattle.cbs_rate.proofs.Multiples.{some_from_dvd}
use Rattle.cbsrun_sizing.specs.Asked.{most_ticks}
use Rattle.cbsrun_sizing.proofs.Joins.{divisor_some, first_dvd, second_dvd, multiple_dvd, joined_self, before_small, more_small}
use Rattle.cbsrun_sizing.proofs.asked.Asked.with.Goals as goal

pub returns-then-every-eq0-clause-joined : goal.returns-then-every-eq0-clause-joined
returns-then-every-eq0-clause-joined c = λ m some of_m every_m. let s = some_from_dvd c.args.source.now.every m every_m some in absurd (omega arith)

pub nonzero_div-common : goal.nonzero_div-common
nonzero_div-common c =
    divisor_some c.from-of.result c.from-every.result c.greatest_common_divisor.result (omega arith) (omega arith) c.greatest_common_divisor.ensures.greatest

pub returns-then-common-from-clause-joined : goal.returns-then-common-from-clause-joined
returns-then-common-from-clause-joined c = λ m some of_m every_m.
    let d = multiple_dvd c.from-of.result c.from-every.result c.greatest_common_divisor.result (omega arith) (omega arith)
    c.greatest_common_divisor.ensures.greatest
    c.greatest_common_divisor.ensures.scaled m (rw c.from-of.ensures of_m) (rw c.from-every.ensures every_m) in
    let le = le_of_dvd some d in
    omega arith

pub overflow_mul-ticks : goal.overflow_mul-ticks
overflow_mul-ticks c =
    let g = c.greatest_common_divisor.result in
    let d = first_dvd c.from-of.result c.from-every.result g (omega arith) (omega arith) c.greatest_common_divisor.ensures.greatest in
    let small = before_small c.args.self.ticks c.from-of.result (c.from-of.result / g * c.from-every.result) d (rw c.from-of.ensures c.requires.small) in
    omega arith

pub overflow_add-ticks : goal.overflow_add-ticks
overflow_add-ticks c =
    let g = c.greatest_common_divisor.result in
    let d = first_dvd c.from-of.result c.from-every.result g (omega arith) (omega arith) c.greatest_common_divisor.ensures.greatest in
    let e = second_dvd c.from-of.result c.from-every.result g (omega arith) (omega arith) c.greatest_common_divisor.ensures.greatest in
    let small = before_small c.args.self.ticks c.from-of.result (c.from-of.result / g * c.from-every.result) d (rw c.from-of.ensures c.requires.small) in
    let few : c.from-2.result * (1 + c.from-3.result) ≤ most_ticks = rw (c.from-2.ensures, c.from-3.ensures) c.requires.ticks in
    let more = more_small (c.from-2.result * (1 + c.from-3.result)) c.from-every.result (c.from-of.result / g * c.from-every.result) e (omega arith) few in
    omega arith

pub returns-clause-joined : goal.returns-clause-joined
returns-clause-joined c =
    let g = c.greatest_common_divisor.result in
    let coarse : c.from-of.result / g * c.from-every.result ≤ 1_000_000_000_000_000_000 = omega arith in
    let gcd = rw (c.from-of.ensures, c.from-every.ensures) at c.greatest_common_divisor.ensures.greatest in
    let scaled = rw (c.from-of.ensures, c.from-every.ensures) at c.greatest_common_divisor.ensures.scaled in
    rw (c.from-of.ensures, c.from-every.ensures, c.from-2.ensures, c.from-3.ensures) (joined_self c.args.self c.args.source.now g c.requires.some (omega arith)
    gcd scaled (rw (c.from-of.ensures, c.from-every.ensures) at coarse))

pub returns-clause-small : goal.returns-clause-small
returns-clause-small c =
    let g = c.greatest_common_divisor.result in
    let e = second_dvd c.from-of.result c.from-every.result g (omega arith) (omega arith) c.greatest_common_divisor.ensures.greatest in
    let few : c.from-2.result * (1 + c.from-3.result) ≤ most_ticks = rw (c.from-2.ensures, c.from-3.ensures) c.requires.ticks in
    let more = more_small (c.from-2.result * (1 + c.from-3.result)) c.from-every.result (c.from-of.result / g * c.from-every.result) e (omega arith) few in
    rw c.from-of.ensures (let m = rw c.from-of.ensures at more in omega arith)
