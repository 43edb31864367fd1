-- The lines of jobs.
use Rattle.std.specs.Prelude.{ℕ, Bool, List, ◌++◌, codes, decimal, flat_map, if◌then◌else◌, Option, Some, None}
use Rattle.cbsrun_csv.specs.Jobs.{JobsSeen, finished_jobs, is_late, response_of, unfinished_jobs}
use Rattle.cbsrun_csv.specs.declared.job.CsvJob.{CsvJob}

-- the header line: the names of the columns
abbrev pub header : List ℕ
header = codes "server,job,came,finished,response,late,charged,state\n"

-- a cell after another one: a number, or nothing
abbrev pub cell : Option ℕ → List ℕ
cell None = codes ","
cell (Some n) = codes "," ++ decimal n

-- whether a job is late
abbrev pub late_cell : Bool → List ℕ
late_cell late = if late then codes ",1" else codes ",0"

-- the state of a job that ended at this tick or is unfinished, with the line's end
abbrev pub state_cell : Option ℕ → List ℕ
state_cell None = codes ",unfinished\n"
state_cell (Some finish) = codes ",finished\n"

-- when a job came, when it ended and how long that took
unfoldable pub time_cells : CsvJob → List ℕ
time_cells job = cell (Some job.came) ++ cell job.finish ++ cell (response_of job)

-- the line of an accepted job of the server of this name, in a run that ends at a tick
unfoldable pub job_line : List ℕ → ℕ → CsvJob → List ℕ
job_line name end job =
    name ++ cell (Some job.number) ++ time_cells job ++ late_cell (is_late end job) ++ cell (Some job.charged) ++ state_cell job.finish

-- the line of a refused job of the server of this name, which came at a tick
unfoldable pub refused_line : List ℕ → ℕ → List ℕ
refused_line name came = name ++ codes ",," ++ decimal came ++ codes ",,,,,refused\n"

-- the lines of the jobs of a server: of the finished ones, then of the unfinished, then of the refused
abbrev pub server_lines : List ℕ → ℕ → JobsSeen → List ℕ
server_lines name end js =
    flat_map (job_line name end) (finished_jobs js) ++ flat_map (job_line name end) (unfinished_jobs js) ++ flat_map (refused_line name) js.refused
