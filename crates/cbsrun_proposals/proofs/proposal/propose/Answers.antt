use Rattle.std.proofs.Common.{take, arith}
use Rattle.std.proofs.lemmas.List.{take_all}
use Rattle.cbsrun_proposals.specs.Proposals.{budgets_of}
use Rattle.cbsrun_proposals.proofs.Best.{best_next, never_of_many}
use Rattle.cbsrun_proposals.proofs.proposal.propose.Goals as goal

pub loop-source-preserved : goal.loop-source-preserved
loop-source-preserved c =
    let xs = c.args.sources.now in
    let i = c.loop-source.source-index in
    best_next xs c.args.wanted xs i _ c.with_source-best.result (omega arith) (c.with_source-best.ensures (budgets_of (take i xs)) c.loop-source.invariant)

pub returns-then-sources-gt-MAX_SERVERS : goal.returns-then-sources-gt-MAX_SERVERS
returns-then-sources-gt-MAX_SERVERS c = never_of_many c.args.sources.now c.args.wanted (omega arith)

pub returns : goal.returns
returns c =
    let all = take_all c.loop-source.source-index c.args.sources.now c.loop-source-test.false in
    rw all at c.loop-source.invariant
