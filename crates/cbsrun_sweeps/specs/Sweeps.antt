-- Many runs of a load, with one seed after another. Their reports stand with the newest first.
use Rattle.std.specs.Prelude.{◌≡◌, ℕ, Bool, ◌+◌, ◌<◌, List, [], ◌∷◌, get_or, length, slice_get, Option, Some, None}
use Rattle.std.specs.List.{list_all}
use Rattle.cbsrun_loads.specs.Loads.{LoadFile, with_seed}
use Rattle.cbsrun_report_text.specs.declared.report.RunReport.{RunReport}
use Rattle.cbsrun_report_text.specs.declared.report.ServerReport.{ServerReport}
use Rattle.cbsrun_runs.specs.Loads.{run_of}
use Rattle.cbsrun_runs.specs.Runs.{IsReportOf}
use Rattle.cbsrun_sweeps.specs.Servers.{is_in_time, joined, no_sweep, run_sweep}
use Rattle.cbsrun_sweeps.specs.declared.server.ServerSweep.{ServerSweep}
use Rattle.cbsrun_sweeps.specs.declared.sweep.Sweep.{Sweep}

-- each is a report of the load with its seed: the oldest with the first one, and each other one with the next
abbrev pub AreRuns : List ℕ → LoadFile → ℕ → List RunReport → Type 0
AreRuns name f first [] = Unit {0}
AreRuns name f first (r ∷ rs) = IsReportOf name (run_of (with_seed (first + length rs) f)) r × AreRuns name f first rs

-- what a run with this seed tells of a server, from the server's report
abbrev pub told_by : ℕ → Option ServerReport → ServerSweep
told_by seed None = no_sweep
told_by seed (Some r) = run_sweep seed r.figures

-- what all runs tell of server s: that of one run after another, together
abbrev pub swept : ℕ → ℕ → List RunReport → ServerSweep
swept first s [] = no_sweep
swept first s (r ∷ rs) = joined (swept first s rs) (told_by (first + length rs) (slice_get r.servers.items s))

-- nothing is told of so many servers
pub record AreNone (n : ℕ) (sweeps : List ServerSweep) : Type 0 where
  pub count : length sweeps ≡ n
  pub each : (s : ℕ) → s < n → get_or sweeps s no_sweep ≡ no_sweep

-- each is what is told together with one run more
pub record AreAfter (seed : ℕ) (reports : List ServerReport) (old new : List ServerSweep) : Type 0 where
  pub count : length new ≡ length old
  pub each : (s : ℕ) → s < length old → get_or new s no_sweep ≡ joined (get_or old s no_sweep) (told_by seed (slice_get reports s))

-- each is what earlier and later runs tell together
pub record AreJoined (earlier later together : List ServerSweep) : Type 0 where
  pub count : length together ≡ length earlier
  pub each : (s : ℕ) → s < length earlier → get_or together s no_sweep ≡ joined (get_or earlier s no_sweep) (get_or later s no_sweep)

-- this is told of the servers by some runs, of which there are so many
pub record AreSwept (name : List ℕ) (f : LoadFile) (first runs : ℕ) (sweeps : List ServerSweep) : Type 0 where
  pub reports : List RunReport
  pub counted : length reports ≡ runs
  pub are : AreRuns name f first reports
  pub count : length sweeps ≡ length f.plan.rates
  pub each : (s : ℕ) → s < length f.plan.rates → get_or sweeps s no_sweep ≡ swept first s reports

-- this is told by so many runs of the load, with the seeds from the first one on
pub record IsSweep (name : List ℕ) (f : LoadFile) (first runs : ℕ) (sweep : Sweep) : Type 0 where
  pub begins : sweep.first ≡ first
  pub counts : sweep.runs ≡ runs
  pub servers : AreSwept name f first runs sweep.servers.items

-- no job of any run was late or refused
abbrev pub are_in_time : Sweep → Bool
are_in_time sweep = list_all is_in_time sweep.servers.items
