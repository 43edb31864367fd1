-- The content of a report, and the sums over its servers.
use Rattle.std.specs.Prelude.{ℕ, ◌+◌, Bool, ◌&&◌, eqb, List, sum_by}
use Rattle.cbsrun_figures.specs.declared.figures.Figures.{Figures}
use Rattle.cbsrun_report_text.specs.declared.report.ServerReport.{ServerReport}
use Rattle.cbsrun_report_text.specs.declared.totals.Total.{Total}
use Rattle.cbsrun_report_text.specs.declared.totals.Total.TheVariants as total

-- the jobs that were accepted
abbrev pub accepted : Figures → ℕ
accepted f = f.finished + f.unfinished

-- the jobs that came
abbrev pub released : Figures → ℕ
released f = f.refused + accepted f

-- the jobs that are late
abbrev pub late : Figures → ℕ
late f = f.late_finished + f.late_unfinished

-- no job is late, and none was refused
abbrev pub is_in_time : Figures → Bool
is_in_time f = eqb (late f) 0 && eqb f.refused 0

-- a figure, added up over the servers
abbrev pub sum_of : (Figures → ℕ) → List ServerReport → ℕ
sum_of figure servers = sum_by (λ s. figure s.figures) servers

-- the figure that a total adds up
abbrev pub figure_of : Total → Figures → ℕ
figure_of total.Released f = released f
figure_of total.Refused f = f.refused
figure_of total.Finished f = f.finished
figure_of total.Unfinished f = f.unfinished
figure_of total.Late f = late f
figure_of total.Asked f = f.asked
figure_of total.Run f = f.run
figure_of total.UsedUp f = f.used_up
figure_of total.Throttled f = f.throttled
figure_of total.Charged f = f.charged
