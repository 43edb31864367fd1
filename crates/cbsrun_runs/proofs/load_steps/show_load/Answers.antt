use Rattle.std.proofs.Common.{◌≡◌, [], ap, map, ℕ}
use Rattle.cbsrun_loads.specs.Loads.{IsLoad, LoadFile, with_seed}
use Rattle.cbsrun_simulate.specs.Drawing.{pending, released_by_all}
use Rattle.cbsrun_simulate.specs.Merging.{merged}
use Rattle.cbsrun_sizing.proofs.LateMoves.{lateness_kept}
use Rattle.cbsrun_runs.specs.Loads.{start_of}
use Rattle.cbsrun_runs.proofs.KeptMoves.{promises_kept}
use Rattle.cbsrun_runs.proofs.Runs.{simulation, same_seen, saw_none, saw_some}
use Rattle.cbsrun_runs.proofs.SeenSteps.{on_err_always}
use Rattle.cbsrun_runs.proofs.ThrottledTicks.{IsWhole, in_order, whole_if_made, whole_of, throttled_is}
use Rattle.cbsrun_runs.proofs.load_steps.show_load.Given as given
use Rattle.cbsrun_runs.proofs.load_steps.show_load.Goals.{After-drop-releases}
use Rattle.cbsrun_runs.proofs.load_steps.show_load.Goals as goal

pub returns-in-Ok-clause-seen : goal.returns-in-Ok-clause-seen
returns-in-Ok-clause-seen g c = λ first was.
    let f = with_seed c.args.seed c.args.load.now in
    let releases : map pending c.in_ok-releases.releases ≡ released_by_all 0 f.sources f.listed f.until f.seed =
    rw (← c.sources.ensures.value, ← c.listed.ensures.value, ← c.until.ensures.value) c.in_ok-releases.ensures in
    let same = same_seen f c.modes.result.now c.plan.result.now c.backlog.result c.until-2.result (merged (map pending c.in_ok-releases.releases))
    c.modes.ensures c.plan.ensures c.backlog.ensures.value c.until-2.ensures.value (ap merged releases) in
    rw (← same) (c.in-Ok.ensures.simulates.simulates.seen first [] was)

-- the simulation is that of the load, to its end
abbrev whole : (g : given.Over) (c : After-drop-releases g) → IsWhole c.args.load.now.until (start_of (with_seed c.args.seed c.args.load.now))
whole g c =
    let f = with_seed c.args.seed c.args.load.now in
    let releases : map pending c.in_ok-releases.releases ≡ released_by_all 0 f.sources f.listed f.until f.seed =
    rw (← c.sources.ensures.value, ← c.listed.ensures.value, ← c.until.ensures.value) c.in_ok-releases.ensures in
    let coming = merged (map pending c.in_ok-releases.releases) in
    whole_of f c.modes.result.now c.plan.result.now c.backlog.result c.until-2.result coming c.modes.ensures c.plan.ensures c.backlog.ensures.value
    c.until-2.ensures.value (ap merged releases)
    (whole_if_made _ c.until-2.result (simulation c.modes.result.now c.plan.result.now c.backlog.result coming)
    _ _ _ c.in-Ok.ensures.simulates.simulates)

-- the load is lawful with each seed
seeded : (seed : ℕ) (f : LoadFile) → IsLoad f → IsLoad (with_seed seed f)
seeded seed f is = record {
  named = is.named;
  moded = is.moded;
  some_backlog = is.some_backlog;
  small_backlog = is.small_backlog;
  some_ticks = is.some_ticks;
  few_ticks = is.few_ticks;
  few_sources = is.few_sources;
  lawful = is.lawful;
  listed = is.listed;
}

pub returns-in-Ok-clause-lawful : goal.returns-in-Ok-clause-lawful
returns-in-Ok-clause-lawful g c =
    let f = with_seed c.args.seed c.args.load.now in
    let is = seeded c.args.seed c.args.load.now c.until.ensures.lawful in
    let plan = rw c.plan-in-Ok.ensures at c.len-servers.ensures.lawful in
    record {
      throttled = throttled_is f c.sources.ensures.lawful.moded (whole g c);
      promises = promises_kept f is plan;
      late = lateness_kept f is plan;
    }

pub returns-in-Ok-clause-in_order : goal.returns-in-Ok-clause-in_order
returns-in-Ok-clause-in_order g c = in_order (with_seed c.args.seed c.args.load.now) c.sources.ensures.lawful.moded (whole g c)

pub returns-clause-stopped : goal.returns-clause-stopped
returns-clause-stopped g c = λ first was.
    let f = with_seed c.args.seed c.args.load.now in
    let releases : map pending c.in_ok-releases.releases ≡ released_by_all 0 f.sources f.listed f.until f.seed =
    rw (← c.sources.ensures.value, ← c.listed.ensures.value, ← c.until.ensures.value) c.in_ok-releases.ensures in
    let coming = merged (map pending c.in_ok-releases.releases) in
    let sim = simulation c.modes.result.now c.plan.result.now c.backlog.result coming in
    let h = c.in-Err.ensures.stopped in
    let same = same_seen f c.modes.result.now c.plan.result.now c.backlog.result c.until-2.result coming
    c.modes.ensures c.plan.ensures c.backlog.ensures.value c.until-2.ensures.value (ap merged releases) in
    saw_some g.V.View.saw g.V.View.failed first _ c.until-2.result sim h.done h.left _ h.all same (h.seen first [] was)

pub returns-in_err-releases-clause-stopped : goal.returns-in_err-releases-clause-stopped
returns-in_err-releases-clause-stopped g c =
    on_err_always c.from_residual.result (λ first was. saw_none g.V.View.saw g.V.View.failed first _ _ was)
