use Rattle.std.proofs.lemmas.Result.{err_from_is_err_and}
use Rattle.cbsrun_lines.proofs.LineSteps.{fault_ends, flush_ends, flushed, some_flushed}
use Rattle.cbsrun_lines.proofs.lines.Lines.end.Goals as goal

pub returns-then-self-clause-written : goal.returns-then-self-clause-written
returns-then-self-clause-written g c = λ first steps wrote. fault_ends c.args.self.now first _ steps c.args.shown wrote c.if-self.true

pub returns-in_err-flush-clause-written : goal.returns-in_err-flush-clause-written
returns-in_err-flush-clause-written g c = λ first steps wrote.
    let p = err_from_is_err_and c.from_residual.result c.from_residual.ensures.1 in
    rw (p.1, p.2) (flush_ends c.args.self.now first _ steps c.args.shown wrote c.if-self.false _ c.in_err-flush.ensures.err)

pub returns-in-Ok-clause-written : goal.returns-in-Ok-clause-written
returns-in-Ok-clause-written g c = λ first steps wrote. flushed first _ _ c.args.self.now steps (rw c.in-Ok.is at wrote) c.in_ok-flush.ensures.ok.0

pub returns-in-Err-clause-written : goal.returns-in-Err-clause-written
returns-in-Err-clause-written g c = λ first steps wrote.
    some_flushed c.args.self.now first _ steps (rw c.in-Err.is at wrote) _ c.if-self.false c.in_ok-flush.ensures.ok.0
