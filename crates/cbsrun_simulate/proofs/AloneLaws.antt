-- The laws of a simulation from the start.
use Rattle.std.proofs.Common.{◌≡◌, ℕ, ◌≤◌, List, [], ◌∷◌, arith, refl, ap, inl, None}
use Rattle.std.specs.List.{AllByRecursion}
use Rattle.cbs_job.specs.Work.{Meaning}
use Rattle.cbs_core.specs.Held.{CoreHeld}
use Rattle.cbs_rules.specs.Rules.{Terms, clock_end}
use Rattle.cbs_steps.specs.History.{Setup}
use Rattle.cbs_steps.specs.Punctual.{IsPunctual}
use Rattle.cbs_steps.specs.declared.step.Step.{Step}
use Rattle.cbsrun_simulate.specs.Moves.{Move, charged_by, Simulation, after_move, after_moves, moves_of}
use Rattle.cbsrun_simulate.specs.MoveLaws.{AllMoves}
use Rattle.cbsrun_simulate.specs.Releases.{IsInOrder}
use Rattle.cbsrun_events.specs.declared.seen.Seen.{Seen}
use Rattle.cbsrun_simulate.specs.Simulating.{Simulates, SimulatesAlone, Stops, SeesSome}
use Rattle.cbsrun_simulate.specs.declared.release.Release.{Release}
use Rattle.cbsrun_simulate.proofs.Loop.{first_moves}
use Rattle.cbsrun_simulate.proofs.MoveSteps.{IsGoing}
use Rattle.cbsrun_simulate.proofs.Simulations.{moves_are, quiet_steps}
use Rattle.cbsrun_simulate.proofs.Uncharged.{uncharged, free_steps, at_ticks, plain_new}

module _ {W : Type 0} (work : Meaning W) (job : Release → W) where
  -- moves do not change the setup
  same_setup : (sim : Simulation W) (ms : List Move) → sim.history.setup ≡ (after_moves work job sim ms).history.setup
  same_setup sim [] = refl
  same_setup sim (m ∷ ms) = same_setup (after_move work job sim m) ms

  -- from a new core on
  pub alone : (output : (r : Release) → work.output (job r) ≡ r.overrun) (until : ℕ) → until ≤ clock_end
      → {S : Type 0} (saw : S → S → List Seen → Type 0) (ts : List Terms) (backlog : ℕ) (coming : List Release)
      (new : CoreHeld W) (w v : S) → IsInOrder 0 coming
      → (let setup : Setup = record { servers = ts; backlog = backlog } in
      let sim : Simulation W = record { history = record { setup = setup; steps = [] }; coming = coming; owing = None } in
      ((steps : List (Step W)) → IsPunctual work (record { setup = setup; steps = steps })) → Simulates work job until saw sim new w v
      → SimulatesAlone work job until saw sim new w v)
  alone output until ends saw ts backlog coming new w v order punctual h =
      let setup : Setup = record { servers = ts; backlog = backlog } in
      let sim : Simulation W = record { history = record { setup = setup; steps = [] }; coming = coming; owing = None } in
      let ms = moves_of work job until sim in
      let N = (after_moves work job sim ms).history in
      let e : setup ≡ N.setup = same_setup sim ms in
      let is : record { setup = setup; steps = N.steps } ≡ N = ap (λ (g : Setup). record { setup = g; steps = N.steps }) e in
      let going : IsGoing work job until ends 0 sim = record { early = omega arith; waited = omega arith; order = order; owed = λ lt c e. cc } in
      let none : AllByRecursion (λ r. r.overrun ≡ 0) coming → AllMoves work job (λ sim m. charged_by m ≡ None) sim ms =
      λ plain. uncharged work job output until ends 0 sim ms going (plain_new work job ts backlog coming plain)
      (moves_are work job until ends 0 sim going).each in
      record {
        simulates = h;
        punctual = rw is at (punctual N.steps);
        advances = quiet_steps work job sim ms tt h.quiet;
        at_tick = λ plain. at_ticks work job sim ms (none plain) h.on_tick;
        uncharged = λ plain. free_steps work job sim ms (none plain) h.quiet tt;
      }

  -- a view saw no move
  pub sees_none : (until : ℕ) {S : Type 0} (saw failed : S → S → List Seen → Type 0) (sim : Simulation W) (w : S)
      → SeesSome work job until saw failed sim w w
  sees_none until saw failed sim w = record { done = []; left = moves_of work job until sim; all = refl; seen = λ first seen was. inl was }

  -- a new core that stopped stopped after the first moves, up to some move
  pub sees_some : (until : ℕ) → until ≤ clock_end → {S : Type 0} (saw failed : S → S → List Seen → Type 0) (ts : List Terms) (backlog : ℕ)
      (coming : List Release) (new : CoreHeld W) (w v : S) → IsInOrder 0 coming
      → (let sim : Simulation W = record {
        history = record { setup = record { servers = ts; backlog = backlog }; steps = [] };
        coming =
            coming;
        owing = None;
      } in
      Stops work job until saw failed sim new w v → SeesSome work job until saw failed sim w v)
  sees_some until ends saw failed ts backlog coming new w v order h =
      let sim : Simulation W = record { history = record { setup = record { servers = ts; backlog = backlog }; steps = [] }; coming = coming; owing = None } in
      let going : IsGoing work job until ends 0 sim = record { early = omega arith; waited = omega arith; order = order; owed = λ lt c e. cc } in
      record {
        done = h.moves;
        left = moves_of work job until (after_moves work job sim h.moves);
        all =
            first_moves work job until ends 0 sim h.moves going h.each;
        seen = h.seen;
      }
