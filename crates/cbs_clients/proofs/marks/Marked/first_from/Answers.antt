use Rattle.std.proofs.Common.{◌≡◌, ◌<◌, ◌+◌, ◌-◌, ◌/◌, ◌^◌, ◌∙◌, inl, inr, arith, rules}
use Rattle.std.proofs.lemmas.Nat.Bits.{bit_at-zero, bit_at-trailing_zeros, bit_at_above}
use Rattle.std.proofs.lemmas.Bool.{cases_lt}
use Rattle.std.specs.Int.{w64, trailing_zeros}
use Rattle.cbs_clients.proofs.Shifted.{bit_at_from, bit_at-shr, shifted_less}
use Rattle.cbs_clients.proofs.marks.Marked.first_from.Goals as goal

pub returns-then-rest-eq0-clause-none : goal.returns-then-rest-eq0-clause-none
returns-then-rest-eq0-clause-none c = λ s from below.
    let bits = c.args.self.bits in
    let zero : bits / 2 ^ c.args.first ≡ 0 = c.if-rest-eq0.true in
    bit_at_from bits c.args.first s from ∙ rw zero (bit_at-zero (s - c.args.first))

pub returns-clause-some : goal.returns-clause-some
returns-clause-some c =
    let bits = c.args.self.bits in
    let first = c.args.first in
    let fits : bits < 2 ^ 64 = search rules in
    let rest = bits / 2 ^ first in
    let lowest = bit_at-trailing_zeros w64 rest (let n = c.if-rest-eq0.false in omega (arith, n)) (shifted_less bits first 64 fits) in
    let place = trailing_zeros w64 rest in
    let within : first + place < 64 = elim (cases_lt (first + place) 64) [
      | inl l ↦ l
      | inr l ↦ absurd (let e = bit_at-shr bits first place in let z = bit_at_above bits 64 (first + place) fits l in let o = lowest.1 in omega (arith, e, z, o))
    ] in (
      omega arith,
      within,
      λ s from below. bit_at_from bits first s from ∙ lowest.2 (s - first) (omega (arith, from, below)),
    )
