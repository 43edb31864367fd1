-- Which work makes a task.
use Rattle.std.specs.Prelude.{ℕ, eqb, ltb, if◌then◌else◌, Option, Some, None, List, codes}
use Rattle.cbs_rate.specs.Limits.{most_units}
use Rattle.cbs_job.specs.declared.task.TaskError.{TaskError}
use Rattle.cbs_job.specs.declared.task.TaskError.TheVariants.{EmptyJob, TooLong}

-- why work with so many units left makes no task, if it makes none: a job has 1 to 1000000 units
abbrev pub task_refusal : ℕ → Option TaskError
task_refusal left = if eqb left 0 then Some EmptyJob else if ltb most_units left then Some TooLong else None

-- the error's number, from 1
abbrev pub task_error_number : TaskError → ℕ
task_error_number EmptyJob = 1
task_error_number TooLong = 2

-- the error's name, in bytes
abbrev pub task_error_name : TaskError → List ℕ
task_error_name EmptyJob = codes "EmptyJob"
task_error_name TooLong = codes "TooLong"
