-- The CSV of a run, as a function of its steps. The steps stand with the newest first.
use Rattle.std.specs.Prelude.{◌≡◌, ℕ, List, [], ◌++◌, flat_map, get_or, length, map, Option, Some, None}
use Rattle.std.specs.List.{range_with_len}
use Rattle.cbsrun_events.specs.declared.seen.Seen.{Seen}
use Rattle.cbsrun_figures.specs.Figures.{finished, refusals, steps_of, total, waiting}
use Rattle.cbsrun_figures.specs.declared.job.AcceptedJob.{AcceptedJob}
use Rattle.cbsrun_figures.specs.declared.job.Finish.{Finish}
use Rattle.cbsrun_csv.specs.Jobs.{finished_jobs, jobs_seen, unfinished_jobs}
use Rattle.cbsrun_csv.specs.Lines.{header, server_lines}
use Rattle.cbsrun_csv.specs.declared.job.CsvJob.{CsvJob}

-- the lines of server s, of what was seen
abbrev pub lines_of : List (List ℕ) → ℕ → List Seen → ℕ → List ℕ
lines_of names end seen s = server_lines (get_or names s []) end (jobs_seen (steps_of s seen))

-- the CSV of a run that ends at a tick, whose servers have these names: the header line, and the lines of each server
abbrev pub csv_text : List (List ℕ) → ℕ → List Seen → List ℕ
csv_text names end seen = header ++ flat_map (lines_of names end seen) (range_with_len 0 (length names))

-- when a job came, within how many ticks it is to be finished, and when it ended
pub record Course : Type 0 where
  pub came : ℕ
  pub within : Option ℕ
  pub finish : Option ℕ

-- the same of a job of the CSV, of a finished job of a report, and of one that waits
abbrev pub course_of : CsvJob → Course
course_of job = record { came = job.came; within = job.within; finish = job.finish }

abbrev pub finished_course : Finish → Course
finished_course f = record { came = f.job.came; within = f.job.within; finish = Some f.at }

abbrev pub waiting_course : AcceptedJob → Course
waiting_course job = record { came = job.came; within = job.within; finish = None }

-- the finished and the unfinished jobs of a server are those that a report counts, in order, and the refused ones are as
-- many
pub record AreAsReported (own : List Seen) : Type 0 where
  pub finished : map course_of (finished_jobs (jobs_seen own)) ≡ map finished_course (finished own)
  pub unfinished : map course_of (unfinished_jobs (jobs_seen own)) ≡ map waiting_course (waiting own)
  pub refused : length (jobs_seen own).refused ≡ total (λ o. refusals o.event) own

-- the text is the CSV of what was seen of a run that ends at a tick, whose servers have these names
pub record IsCsv (names : List (List ℕ)) (end : ℕ) (seen : List Seen) (text : List ℕ) : Type 0 where
  pub exact : text ≡ csv_text names end seen
  pub as_reported : (s : ℕ) → AreAsReported (steps_of s seen)
