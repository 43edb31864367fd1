use Rattle.std.proofs.Common.{◌≡◌, ◌++◌, take, string_bytes}
use Rattle.std.specs.Prelude.{flat_map}
use Rattle.cbsrun_csv.specs.Jobs.{unfinished_jobs}
use Rattle.cbsrun_csv.specs.Lines.{job_line}
use Rattle.cbsrun_csv.proofs.jobs.Jobs.append_unfinished.Given as goal

-- the lines of the first jobs
abbrev pub invariant-loop-place : goal.invariant-loop-place
invariant-loop-place l = string_bytes l.text ≡ string_bytes l.fn.text ++ flat_map (job_line l.name l.end) (take l.place (unfinished_jobs l.self))
