-- The jobs that a task file may ask for: each has the meaning of the job inside.
use Rattle.std.specs.Prelude.{ℕ}
use Rattle.cbs_job.specs.Work.{Meaning, Lowers}
use Rattle.cbs_job.specs.Numbers.{summing, peaking, taking_in_lowers}
use Rattle.cbs_job.specs.declared.file.FileJob.{FileJob}
use Rattle.cbs_job.specs.declared.file.FileJob.TheVariants.{Sum, Peak}

-- the units left of the job inside
abbrev pub left_inside : FileJob → ℕ
left_inside (Sum p) = summing.left p
left_inside (Peak p) = peaking.left p

-- the output so far of the job inside
abbrev pub output_inside : FileJob → ℕ
output_inside (Sum p) = summing.output p
output_inside (Peak p) = peaking.output p

-- the same kind of job after one more unit of the job inside
abbrev pub after_inside : FileJob → FileJob
after_inside (Sum p) = Sum (summing.after p)
after_inside (Peak p) = Peak (peaking.after p)

-- the meaning of the calls of such a job
abbrev pub of_files : Meaning FileJob
of_files = record { left = left_inside; output = output_inside; after = after_inside }

-- the jobs of task files keep the law of work
pub of_files_lowers : Lowers of_files
of_files_lowers (Sum p) some = taking_in_lowers _ p some
of_files_lowers (Peak p) some = taking_in_lowers _ p some
