use Rattle.std.proofs.Common.{arith}
use Rattle.std.proofs.lemmas.Bool.Decides.{nat_tests}
use Rattle.cbsrun_proposals.proofs.Best.{best_never, best_first, best_taken, best_kept}
use Rattle.cbsrun_proposals.proofs.proposal.with_budget.Goals as goal

pub returns-in_default : goal.returns-in_default
returns-in_default c = λ looked h. best_never c.args.sources.now c.args.wanted looked c.args.best c.args.budget c.in_default.ensures h

pub returns-in_default-best : goal.returns-in_default-best
returns-in_default-best c = λ looked h.
    best_first c.args.sources.now c.args.wanted looked c.args.budget c.in-Some.found c.in-Some.ensures (rw c.in_default-best.is at h)

pub returns-then-is_less : goal.returns-then-is_less
returns-then-is_less c = λ looked h.
    let e = c.is_less.ensures in
    let t = c.if-is_less.true in
    best_taken c.args.sources.now c.args.wanted looked c.in-Some-best.so_far c.args.budget c.in-Some.found c.in-Some.ensures
    (grind (arith, nat_tests)) (rw c.in-Some-best.is at h)

pub returns-else-is_less : goal.returns-else-is_less
returns-else-is_less c = λ looked h.
    let e = c.is_less.ensures in
    let f = c.if-is_less.false in
    best_kept c.args.sources.now c.args.wanted looked c.in-Some-best.so_far c.args.budget c.in-Some.found c.in-Some.ensures
    (grind (arith, nat_tests)) (rw c.in-Some-best.is at h)
