use Rattle.cbs_job.proofs.Numbers.{whole-summing, output_after-summing}
use Rattle.cbs_job.proofs.sum.SumJob.new.Goals as goal

pub returns-clause-so_far : goal.returns-clause-so_far
returns-clause-so_far c = λ k. output_after-summing k c.args.numbers.items

pub returns-clause-whole : goal.returns-clause-whole
returns-clause-whole c = whole-summing c.args.numbers.items
