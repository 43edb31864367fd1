use Rattle.std.proofs.Common.{◌≡◌, false, eqb, ltb, arith}
use Rattle.std.proofs.lemmas.Bool.Decides.{nat_tests}
use Rattle.cbs_rate.specs.Limits.{longest_period}
use Rattle.cbsrun_proposals.proofs.proposal.suffices.Goals as goal

pub returns-in-Ok-clause-no : goal.returns-in-Ok-clause-no
returns-in-Ok-clause-no c = λ fails is. rw c.in-Ok.ensures.1 at (c.is_enough.ensures.no fails)

-- the budget and the period are those of a reservation, so the test of these cannot fail
pub returns-in-Err-clause-no : goal.returns-in-Err-clause-no
returns-in-Err-clause-no c = λ fails is.
    let some = is.some in
    let within = is.within in
    let short = is.short in
    let one : eqb c.args.budget 0 ≡ false = grind (arith, nat_tests) in
    let two : ltb longest_period c.args.period ≡ false = grind (arith, nat_tests) in
    let three : ltb c.args.period c.args.budget ≡ false = grind (arith, nat_tests) in
    let none = rw (one, two, three) at c.in-Err.ensures in
    absurd (cc)
