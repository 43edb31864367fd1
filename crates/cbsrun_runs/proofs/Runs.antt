-- The steps of a load, as a view sees them.
use Rattle.std.proofs.Common.{◌≡◌, ◌⊎◌, ◌∙◌, ℕ, List, [], ◌++◌, ap, inl, sym, None, refl}
use Rattle.std.proofs.lemmas.List.{append-nil}
use Rattle.cbsrun_loads.specs.Loads.{LoadFile, releases_of}
use Rattle.cbs_rate.specs.Plan.{Planned}
use Rattle.cbs_rules.specs.declared.mode.Mode.{Mode}
use Rattle.cbsrun_simulate.specs.Loading.{loading, job_of}
use Rattle.cbsrun_simulate.specs.Moves.{Move, Simulation, after_moves, moves_of}
use Rattle.cbsrun_simulate.proofs.Loop.{shown_before, shown_on}
use Rattle.cbsrun_simulate.specs.Shown.{shown}
use Rattle.cbsrun_simulate.specs.declared.load_job.LoadJob.{LoadJob}
use Rattle.cbsrun_simulate.specs.declared.release.Release.{Release}
use Rattle.cbs_steps.specs.Setups.{history_of}
use Rattle.cbsrun_figures.specs.Figures.{AreAllFigures}
use Rattle.cbsrun_figures.specs.declared.figures.Figures.{Figures}
use Rattle.cbsrun_events.specs.declared.seen.Seen.{Seen}
use Rattle.cbsrun_runs.specs.Loads.{seen_in}
use Rattle.cbsrun_runs.specs.Runs.{SawSome}

-- a simulation of these servers and releases
abbrev pub simulation : List Mode → Planned → ℕ → List Release → Simulation LoadJob
simulation modes plan backlog coming = record {
  history = history_of modes plan.rates backlog [];
  coming = coming;
  owing = None;
}

-- a view sees it as it sees the load with these servers and releases
pub same_seen : (f : LoadFile) (modes : List Mode) (plan : Planned) (backlog until : ℕ) (coming : List Release)
    → modes ≡ f.modes → plan ≡ f.plan → backlog ≡ f.backlog → until ≡ f.until
    → coming ≡ releases_of f
    → (let sim = simulation modes plan backlog coming in shown loading job_of sim (moves_of loading job_of until sim) [] ≡ seen_in f)
same_seen f modes plan backlog until coming b c d e g = rw (b, c, d, e, g) refl

-- figures with the same budgets up to the same tick
pub same_figures : (bs cs : List ℕ) (m n : ℕ) (seen : List Seen) (fs : List Figures) → bs ≡ cs → m ≡ n → AreAllFigures bs m seen fs → AreAllFigures cs n seen fs
same_figures bs cs m n seen fs b e h = rw (← b, ← e) h

-- a view that saw no step
pub saw_none : {S : Type 0} (saw failed : S → S → List Seen → Type 0) (first now : S) (steps : List Seen) → saw first now []
    → SawSome saw failed first now steps
saw_none saw failed first now steps was = record { later = steps; done = []; all = append-nil steps; seen = inl was }

-- a view of the first moves of a simulation, up to some move, saw the first steps, up to some step
pub saw_some : {S : Type 0} (saw failed : S → S → List Seen → Type 0) (first now : S) (until : ℕ) (sim : Simulation LoadJob)
    (done left : List Move) (steps : List Seen) → done ++ left ≡ moves_of loading job_of until sim
    → shown loading job_of sim (moves_of loading job_of until sim) [] ≡ steps
    → saw first now (shown loading job_of sim done []) ⊎ failed first now (shown loading job_of sim done [])
    → SawSome saw failed first now steps
saw_some saw failed first now until sim done left steps all same seen =
    let rest = after_moves loading job_of sim done in
    let before = shown loading job_of sim done [] in
    record {
      later = shown loading job_of rest left [];
      done = before;
      all = sym (shown_before loading job_of rest left before) ∙ sym (shown_on loading job_of sim done left [])
          ∙ ap (λ ms. shown loading job_of sim ms []) all ∙ same;
      seen = seen;
    }
