use Rattle.std.proofs.Common.{refl}
use Rattle.cbs_job.proofs.FileJobs.{whole-Sum}
use Rattle.cbs_job.proofs.file.FileJobFromSumJob.from.Goals as goal

pub returns : goal.returns
returns c = (refl, refl, whole-Sum c.args.job)
