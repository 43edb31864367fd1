use Rattle.std.proofs.Common.{◌∙◌, ◌/◌, ◌%◌, ◌++◌, codes, decimal, ap, arith, rules}
use Rattle.std.proofs.Output.{has_written_of_eq}
use Rattle.cbsrun_report_text.specs.Numbers.{percent_text}
use Rattle.cbsrun_report_text.proofs.Means.{percent_is}
use Rattle.cbsrun_report_text.proofs.numbers.PercentDisplay.fmt.Goals as goal

pub returns-then-self-eq0-clause-writes : goal.returns-then-self-eq0-clause-writes
unfolding percent_text
returns-then-self-eq0-clause-writes g c = rw c.if-self-eq0.true (search rules)

pub returns-clause-writes : goal.returns-clause-writes
returns-clause-writes g c = λ plain ok.
    let share = c.args.self.now in
    has_written_of_eq _ _ _ _ _ (ap (λ t. decimal (t / 10) ++ (codes "." ++ (decimal (t % 10) ++ codes " %"))) c.tenths-tenths.ensures
    ∙ percent_is share.part share.whole (omega arith)) (c.write-2.ensures.writes plain ok)
