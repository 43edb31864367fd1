use Rattle.cbs_job.proofs.Numbers.{IsPeak-whole-peaking, IsPeak-output_after-peaking}
use Rattle.cbs_job.proofs.peak.PeakJob.new.Goals as goal

pub returns-clause-so_far : goal.returns-clause-so_far
returns-clause-so_far c = λ k. IsPeak-output_after-peaking k c.args.numbers.items

pub returns-clause-whole : goal.returns-clause-whole
returns-clause-whole c = IsPeak-whole-peaking c.args.numbers.items
