use Rattle.std.proofs.Common.{◌∙◌, ◌++◌, codes, decimal, ap₂, arith, rules}
use Rattle.std.proofs.Output.{has_written_of_eq}
use Rattle.cbsrun_report_text.specs.Numbers.{mean_text}
use Rattle.cbsrun_report_text.proofs.Means.{mean_is}
use Rattle.cbsrun_report_text.proofs.numbers.MeanDisplay.fmt.Goals as goal

pub returns-then-self-eq0-clause-writes : goal.returns-then-self-eq0-clause-writes
unfolding mean_text
returns-then-self-eq0-clause-writes g c = rw c.if-self-eq0.true (search rules)

pub returns-clause-writes : goal.returns-clause-writes
returns-clause-writes g c = λ plain ok.
    let mean = c.args.self.now in
    has_written_of_eq _ _ _ _ _ (ap₂ (λ a b. decimal a ++ (codes "." ++ decimal b)) c.parts-whole.ensures.whole c.parts-whole.ensures.tenths
    ∙ mean_is mean.total mean.count (omega arith)) (c.write-2.ensures.writes plain ok)
