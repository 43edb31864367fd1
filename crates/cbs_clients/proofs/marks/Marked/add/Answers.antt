use Rattle.std.proofs.Common.{◌≡◌, ◌∙◌, sym, arith}
use Rattle.std.proofs.lemmas.Nat.Bits.{bit_at_set_same, bit_at_set_other}
use Rattle.std.specs.Int.{w64}
use Rattle.cbs_clients.proofs.marks.Marked.add.Goals as goal

pub returns : goal.returns
returns c = λ s none.
    let k = c.args.server in
    let bits = c.args.self.bits in
    let same = bit_at_set_same w64 bits k c.requires in
    let ne = λ (e : s ≡ k). absurd (let h = rw e at none in omega (arith, same, h)) in
    (ne, sym (bit_at_set_other w64 bits k c.requires s ne) ∙ none)
