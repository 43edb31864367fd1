-- A task file as a run: its steps, as a view sees them.
use Rattle.std.specs.Prelude.{ℕ, List, [], ◌++◌, codes, decimal, length, map, None}
use Rattle.std.specs.List.{range_with_len}
use Rattle.cbsrun_tasks.specs.TaskFiles.{File}
use Rattle.cbs_job.specs.FileJobs.{of_files}
use Rattle.cbs_job.specs.declared.file.FileJob.{FileJob}
use Rattle.cbs_rules.specs.Setups.{ModedPlan}
use Rattle.cbs_steps.specs.History.{History}
use Rattle.cbsrun_events.specs.declared.seen.Seen.{Seen}
use Rattle.cbsrun_runs.specs.Runs.{Shown}
use Rattle.cbsrun_runs.specs.Steps.{clock_after, seen_from, start_with, KeepsLawsFrom}

-- the plan and the modes of a task file
abbrev pub setup_of : File → ModedPlan
setup_of f = record { plan = f.plan; modes = f.modes }

-- the history of an executor with a task file's servers, modes and backlog, before its first step
abbrev pub start_of_tasks : File → History FileJob
start_of_tasks f = start_with (setup_of f) f.backlog

-- all steps of a task file, as a view sees them, the newest first
abbrev pub seen_in_tasks : File → List Seen
seen_in_tasks f = seen_from of_files (start_of_tasks f) f.steps []

-- the clock after all steps
abbrev pub clock_of_tasks : File → ℕ
clock_of_tasks f = clock_after of_files (start_of_tasks f) f.steps

-- the name of server s
abbrev pub name_of : ℕ → List ℕ
name_of s = codes "server " ++ decimal s

-- a task file as a run: its steps are made again
abbrev pub run_of_tasks : File → Shown
run_of_tasks f = record {
  names = map name_of (range_with_len 0 (length f.plan.rates));
  modes = f.modes;
  plan = f.plan;
  backlog = f.backlog;
  tick = None;
  seed = None;
  within = λ s. None;
  seen = seen_in_tasks f;
  end = clock_of_tasks f;
}

-- what the replies to the steps of a task file mean
abbrev pub KeepsLaws : File → Type 0
KeepsLaws f = KeepsLawsFrom of_files (start_of_tasks f) f.steps
