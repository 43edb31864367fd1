use Rattle.std.proofs.Common.{refl}
use Rattle.cbs_job.proofs.FileJobs.{whole-Peak}
use Rattle.cbs_job.proofs.file.FileJobFromPeakJob.from.Goals as goal

pub returns : goal.returns
returns c = (refl, refl, whole-Peak c.args.job)
