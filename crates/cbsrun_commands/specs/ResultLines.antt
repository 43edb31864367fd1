-- What serving a task file writes: a line for each server, with the results of its jobs.
use Rattle.std.specs.Prelude.{ℕ, List, [], map, slice_index_or, Vec, ◌++◌, codes, decimal, flat_map, filter_map, length, Option, Some, None, if◌then◌else◌}
use Rattle.std.specs.Prelude.{◌==◌}
use Rattle.cbs_job.specs.declared.file.FileJob.{FileJob}
use Rattle.std.specs.List.{range_with_len}
use Rattle.cbs_job.specs.FileJobs.{of_files}
use Rattle.cbs_job.specs.Work.{whole}
use Rattle.cbs_steps.specs.declared.step.Step.{Step}
use Rattle.cbs_steps.specs.declared.step.Step.TheVariants.{Submit}
use Rattle.cbsrun_tasks.specs.TaskFiles.{File}

-- the jobs on the list of server s
abbrev pub listed : {A : Type 0} → List (Vec FileJob A) → ℕ → List FileJob
listed lists s = slice_index_or (map (λ jobs. jobs.items) lists) s []

-- the job of a step that submits one to server s
abbrev pub job_for : ℕ → Step FileJob → Option FileJob
job_for s (Submit server job) = if server == s then Some job else None
job_for s _ = None

-- the jobs that the steps submit to server s, in order
abbrev pub jobs_for : ℕ → List (Step FileJob) → List FileJob
jobs_for s steps = filter_map (job_for s) steps

-- the line of server s with these results: a blank before each result, and a line feed at the end
unfoldable pub server_line : ℕ → List ℕ → List ℕ
server_line s results = codes "server " ++ decimal s ++ codes ":" ++ flat_map (λ r. codes " " ++ decimal r) results ++ codes "\n"

-- the lines of n servers, if f gives the results of each
abbrev pub kept_lines : (ℕ → List ℕ) → ℕ → List ℕ
kept_lines f n = flat_map (λ s. server_line s (f s)) (range_with_len 0 n)

-- the results of the jobs that a file submits to each server, whole and in order
abbrev pub results_by_server : File → List (List ℕ)
results_by_server f = map (λ s. map (whole of_files) (jobs_for s f.steps)) (range_with_len 0 (length f.plan.rates))

-- the lines of all servers, in order of their numbers, each with the whole results of the server's jobs
abbrev pub result_lines : File → List ℕ
result_lines f = kept_lines (λ s. map (whole of_files) (jobs_for s f.steps)) (length f.plan.rates)
