-- What a job of a load means.
use Rattle.std.specs.Prelude.{◌-◌}
use Rattle.std.proofs.Common.{refl}
use Rattle.cbs_job.specs.Work.{Meaning, Lowers}
use Rattle.cbsrun_simulate.specs.declared.load_job.LoadJob.{LoadJob}
use Rattle.cbsrun_simulate.specs.declared.release.Release.{Release}

-- a unit lowers the count of units left, and the output is the overrun at all times
abbrev pub loading : Meaning LoadJob
loading = record { left = λ j. j.left; output = λ j. j.overrun; after = λ j. record j { left = j.left - 1 } }

-- jobs of a load keep the law of work
pub loading_lowers : Lowers loading
loading_lowers j some = refl

-- the job of a release
abbrev pub job_of : Release → LoadJob
job_of r = record { left = r.units; overrun = r.overrun }
