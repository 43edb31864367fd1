use Rattle.std.proofs.Common.{arith}
use Rattle.std.proofs.lemmas.Nat.Bits.{bit_at_or}
use Rattle.cbs_clients.proofs.marks.Marked.with.Goals as goal

pub returns : goal.returns
returns c = λ s none. let e = bit_at_or c.args.self.bits c.args.others s in omega (arith, e, none)
