use Rattle.std.proofs.Common.{arith}
use Rattle.cbsrun_refusal_texts.proofs.over.append_own.Goals as goal

pub append_row-requires : goal.append_row-requires
append_row-requires c =
    let part = c.requires.budget in
    let whole = c.requires.period in
    record { some = c.requires.some; small = omega arith }
