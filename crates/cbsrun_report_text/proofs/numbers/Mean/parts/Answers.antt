use Rattle.cbsrun_report_text.proofs.Means.{whole_is, tenth_is}
use Rattle.cbsrun_report_text.proofs.numbers.Mean.parts.Goals as goal

pub returns-clause-whole : goal.returns-clause-whole
returns-clause-whole c = rw c.from-count.ensures (whole_is c.args.self.now.total c.args.self.now.count c.requires)

pub returns-clause-tenths : goal.returns-clause-tenths
returns-clause-tenths c = rw c.from-count.ensures (tenth_is c.args.self.now.total c.args.self.now.count c.requires)
