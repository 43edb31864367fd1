use Rattle.std.proofs.Common.{◌∙◌, sym}
use Rattle.std.proofs.lemmas.Nat.Bits.{bit_at_clear_other}
use Rattle.std.specs.Int.{w64}
use Rattle.cbs_clients.proofs.marks.Marked.remove.Goals as goal

pub returns : goal.returns
returns c = λ s below ne none. sym (bit_at_clear_other w64 c.args.self.bits c.args.server c.requires s below ne) ∙ none
