-- A run that can be shown, and the report and the picture of it.
use Rattle.std.specs.Prelude.{◌≡◌, ◌⊎◌, List, ◌++◌, ℕ, ◌<◌, length, map, sum_by, slice_get, string_bytes, Option, Some}
use Rattle.cbsrun_events.specs.declared.seen.Seen.{Seen}
use Rattle.cbsrun_chart.specs.Charts.{IsChart}
use Rattle.cbsrun_chart.specs.Ticks.{AreInTurn}
use Rattle.cbsrun_chart.specs.declared.chart.Chart.{Chart}
use Rattle.cbsrun_chart.specs.declared.picture.Picture.{Picture}
use Rattle.cbsrun_window.specs.declared.window.Window.{Window}
use Rattle.cbsrun_report_text.specs.declared.report.RunReport.{RunReport}
use Rattle.cbsrun_report_text.specs.declared.report.ServerReport.{ServerReport}
use Rattle.cbs_rate.specs.Plan.{Planned, common_multiple, share}
use Rattle.cbsrun_figures.specs.Figures.{AreFigures, steps_of, told, total}
use Rattle.cbsrun_figures.specs.Tallies.{ticks_idle}
use Rattle.cbs_rules.specs.declared.mode.Mode.{Mode}
use Rattle.cbsrun_simulate.specs.Bounds.{Bounds}

-- the steps stand with the newest first. The view saw the first of them, up to some step, or it failed to see the last
-- of these
pub record SawSome {S : Type 0} (saw failed : S → S → List Seen → Type 0) (first now : S) (steps : List Seen) : Type 0 where
  pub later : List Seen
  pub done : List Seen
  pub all : later ++ done ≡ steps
  pub seen : saw first now done ⊎ failed first now done

-- a run: the names, the modes and the plan of its servers, their backlog, the nanoseconds of a tick, if they are said,
-- and the seed of its numbers, if some are drawn; within how many ticks the jobs of each server are to be finished; the
-- steps as a view sees them, the newest first, and the tick at which they end
pub record Shown : Type 0 where
  pub names : List (List ℕ)
  pub modes : List Mode
  pub plan : Planned
  pub backlog : ℕ
  pub tick : Option ℕ
  pub seed : Option ℕ
  pub within : ℕ → Option Bounds
  pub seen : List Seen
  pub end : ℕ

-- each server has a name and a mode
pub record HasServers (r : Shown) : Type 0 where
  pub named : length r.names ≡ length r.plan.rates
  pub moded : length r.modes ≡ length r.plan.rates

-- the servers are the same, though the steps may differ
abbrev pub SameServers : Shown → Shown → Type 0
SameServers a b = b ≡ record a { seen = b.seen; end = b.end }

-- the steps of each server took their ticks one after another
abbrev pub AreInOrder : Shown → Type 0
AreInOrder r = (s : ℕ) → s < length r.plan.rates → AreInTurn r.end (steps_of s r.seen)

-- the report of server s of a run
pub record IsServerReport (r : Shown) (s : ℕ) (told : ServerReport) : Type 0 where
  pub name : Some (string_bytes told.name) ≡ slice_get r.names s
  pub mode : Some told.mode ≡ slice_get r.modes s
  pub reservation : Some told.reservation ≡ slice_get r.plan.rates s
  pub within : told.within ≡ r.within s
  pub figures : AreFigures told.reservation.budget r.end (steps_of s r.seen) told.figures

-- the report of a run, which names the file so
pub record IsReportOf (name : List ℕ) (r : Shown) (report : RunReport) : Type 0 where
  pub file : string_bytes report.file ≡ name
  pub tick : report.tick ≡ r.tick
  pub seed : report.seed ≡ r.seed
  pub clock : report.clock ≡ r.end
  pub idle : report.idle ≡ told (total (λ o. ticks_idle o.event) r.seen)
  pub backlog : report.backlog ≡ r.backlog
  pub bound : report.bound ≡ r.plan.bound
  pub reserved : report.reserved
      ≡ record { ticks = sum_by (share (common_multiple r.plan.rates)) r.plan.rates; of = common_multiple r.plan.rates }
  pub count : length report.servers.items ≡ length r.plan.rates
  pub each : (s : ℕ) (server : ServerReport) → slice_get report.servers.items s ≡ Some server → IsServerReport r s server

-- a picture of a chart of a run, which names the file so. It has the chart's window, end and idle ticks, and draws each
-- server of the run: it has its name, its mode and its reservation, and the picture shows of it what the chart shows
pub record IsChartPicture (name : List ℕ) (r : Shown) (c : Chart) (p : Picture) : Type 0 where
  pub file : string_bytes p.file ≡ name
  pub reserved : p.reserved
      ≡ record { ticks = sum_by (share (common_multiple r.plan.rates)) r.plan.rates; of = common_multiple r.plan.rates }
  pub window : p.window ≡ c.window
  pub end : p.end ≡ c.end
  pub tick : p.tick ≡ r.tick
  pub idle : p.idle ≡ c.idle
  pub others : p.others ≡ 0
  pub names : map (λ d. string_bytes d.name) p.servers.items ≡ r.names
  pub modes : map (λ d. d.mode) p.servers.items ≡ r.modes
  pub reservations : map (λ d. d.reservation) p.servers.items ≡ r.plan.rates
  pub charts : map (λ d. d.chart) p.servers.items ≡ c.servers.items

-- a picture of a window of a run, which names the file so. The steps of each server took their ticks one after another,
-- so that each tick of the chart shows what the server does in it
pub record IsPictureOf (name : List ℕ) (r : Shown) (w : Window) (p : Picture) : Type 0 where
  pub chart : Chart
  pub window : chart.window ≡ w
  pub end : chart.end ≡ r.end
  pub shows : IsChart r.plan.rates r.end r.seen chart
  pub in_turn : AreInOrder r
  pub picture : IsChartPicture name r chart p
