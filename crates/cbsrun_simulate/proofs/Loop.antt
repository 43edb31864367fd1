-- A simulation under way: the moves made so far, and one more.
use Rattle.std.proofs.Common.{append_assoc, ◌≡◌, ℕ, ◌+◌, ◌-◌, ◌≤◌, ◌<◌, List, [], ◌∷◌, ◌++◌, length, arith}
use Rattle.std.proofs.Common.{refl, sym, subst, ◌∙◌, ap, inl, inr, Option, Some, None}
use Rattle.std.proofs.lemmas.Bool.{cases_lt}
use Rattle.cbs_job.specs.Work.{Meaning}
use Rattle.cbs_rules.specs.Rules.{clock_end}
use Rattle.cbs_core.specs.Agreement.{Agrees, HasHistory}
use Rattle.cbs_core.specs.Held.{CoreHeld}
use Rattle.cbs_steps.specs.History.{History}
use Rattle.cbsrun_simulate.specs.Moves.{Move, Simulation, next_of, after_move, after_moves, AreNext, AreMoves, moves_of}
use Rattle.cbsrun_simulate.specs.Releases.{IsInOrder}
use Rattle.cbsrun_simulate.specs.Shown.{seen_of, shown}
use Rattle.cbsrun_events.specs.declared.seen.Seen.{Seen}
use Rattle.cbsrun_simulate.specs.Simulating.{Stops, Simulates}
use Rattle.cbsrun_simulate.proofs.Goes.{MakesNext}
use Rattle.cbsrun_simulate.specs.declared.charge.Charge.{Charge}
use Rattle.cbsrun_simulate.specs.declared.release.Release.{Release}
use Rattle.cbsrun_simulate.proofs.MoveSteps.{IsGoing}
use Rattle.cbsrun_simulate.proofs.Simulations.{goes, well_next, all_submits, all_end, moves_are, are_moves}

module _ {W : Type 0} (work : Meaning W) (job : Release → W) where
  -- a core made some moves of the simulation, each the next one where it stands
  pub record MakesSome {S : Type 0} (until : ℕ) (saw : S → S → List Seen → Type 0) (sim : Simulation W) (new : CoreHeld W) (coming : List Release)
      (owing : Option Charge) (w v : S) : Type 0 where
    pub moves : List Move
    pub each : AreNext work job until sim moves
    pub state : Agrees work new (after_moves work job sim moves).history
    pub seen : (first : S) (seen : List Seen) → saw first w seen → saw first v (shown work job sim moves seen)
    pub rest : coming ≡ (after_moves work job sim moves).coming
    pub owed : owing ≡ (after_moves work job sim moves).owing

  -- some moves after others
  after_more : (sim : Simulation W) (ms ns : List Move) → after_moves work job sim (ms ++ ns) ≡ after_moves work job (after_moves work job sim ms) ns
  after_more sim [] ns = refl
  after_more sim (m ∷ ms) ns = after_more (after_move work job sim m) ms ns

  -- they are also the next ones
  next_more : (until : ℕ) (sim : Simulation W) (ms ns : List Move) → AreNext work job until sim ms → AreNext work job until (after_moves work job sim ms) ns
      → AreNext work job until sim (ms ++ ns)
  next_more until sim [] ns each more = more
  next_more until sim (m ∷ ms) ns each more = (each.0, next_more until (after_move work job sim m) ms ns each.1 more)

  -- one more move is shown before those that were made earlier
  shown_more : (sim : Simulation W) (ms : List Move) (m : Move) (seen : List Seen)
      → shown work job sim (ms ++ m ∷ []) seen ≡ seen_of work job (after_moves work job sim ms) m ∷ shown work job sim ms seen
  shown_more sim [] m seen = refl
  shown_more sim (n ∷ ms) m seen = shown_more (after_move work job sim n) ms m (seen_of work job sim n ∷ seen)

  -- what is shown of some moves, and then of others
  pub shown_on : (sim : Simulation W) (ms ns : List Move) (seen : List Seen)
      → shown work job sim (ms ++ ns) seen ≡ shown work job (after_moves work job sim ms) ns (shown work job sim ms seen)
  shown_on sim [] ns seen = refl
  shown_on sim (m ∷ ms) ns seen = shown_on (after_move work job sim m) ms ns (seen_of work job sim m ∷ seen)

  -- what is shown stands before what was seen
  pub shown_before : (sim : Simulation W) (ms : List Move) (seen : List Seen) → shown work job sim ms seen ≡ shown work job sim ms [] ++ seen
  shown_before sim [] seen = refl
  shown_before sim (m ∷ ms) seen =
      let next = after_move work job sim m in
      let s = seen_of work job sim m in
      shown_before next ms (s ∷ seen) ∙ sym (append_assoc (shown work job next ms []) (s ∷ []) seen)
      ∙ ap (λ x. x ++ seen) (sym (shown_before next ms (s ∷ [])))

  -- some next moves are a prefix of all moves
  pub first_moves : (until : ℕ) (ends : until ≤ clock_end) (since : ℕ) (sim : Simulation W) (ms : List Move) → IsGoing work job until ends since sim
      → AreNext work job until sim ms → ms ++ moves_of work job until (after_moves work job sim ms) ≡ moves_of work job until sim
  first_moves until ends since sim ms going each =
      let laws = goes work job until ends since sim ms going each in
      let left = moves_of work job until (after_moves work job sim ms) in
      let rest = moves_are work job until ends laws.last (after_moves work job sim ms) laws.going in
      are_moves work job until ends since sim (ms ++ left) going
      (record { each = next_more until sim ms left each rest.each; ended = rw (after_more sim ms left) rest.ended })

  module _ (until : ℕ) {S : Type 0} (saw : S → S → List Seen → Type 0) where
    -- no move yet
    pub none_made : (sim : Simulation W) (core : CoreHeld W) (w : S) → Agrees work core sim.history
        → MakesSome until saw sim core sim.coming sim.owing w w
    none_made sim core w agrees = record { moves = []; each = tt; state = agrees; seen = λ first seen h. h; rest = refl; owed = refl }

    -- one move more
    more_made : (sim last : Simulation W) (mid new : CoreHeld W) (now then : List Release) (o p : Option Charge) (w u v : S)
        (h : MakesSome until saw sim mid now o w u) → last ≡ after_moves work job sim h.moves
        → MakesNext work job until saw last new then p u v → MakesSome until saw sim new then p w v
    more_made sim last mid new now then o p w u v h is k =
        let m = k.move in
        let e = after_more sim h.moves (m ∷ []) in
        let at : next_of work job until (after_moves work job sim h.moves) ≡ Some m = rw is at k.next in
        record {
          moves = h.moves ++ m ∷ [];
          each = next_more until sim h.moves (m ∷ []) h.each (at, tt);
          state = rw e (rw is at k.makes.state);
          seen = λ first seen was. rw (shown_more sim h.moves m seen)
              (subst (λ (x : Simulation W). saw first v (seen_of work job x m ∷ shown work job sim h.moves seen)) is
              (k.makes.seen first (shown work job sim h.moves seen) (h.seen first seen was)));
          rest = rw e (rw is at k.rest);
          owed = rw e (rw is at k.owed);
        }

    module _ (ends : until ≤ clock_end) (first mid new : CoreHeld W) (coming now : List Release) (o : Option Charge) (w u : S)
        (early : first.clock ≤ until) (order : IsInOrder first.clock coming)
        (made : (M : History W) → Agrees work first M
        → MakesSome until saw (record { history = M; coming = coming; owing = None }) mid now o w u) where
      -- the simulation of a history, and what is left of it
      abbrev sim_from : History W → Simulation W
      sim_from M = record { history = M; coming = coming; owing = None }

      abbrev last_of : (M : History W) → Agrees work first M → Simulation W
      last_of M agrees = after_moves work job (sim_from M) (made M agrees).moves

      -- it is what the driver holds
      at_last : (M : History W) (agrees : Agrees work first M) → record { history = (last_of M agrees).history; coming = now; owing = o } ≡ last_of M agrees
      at_last M agrees = rw ((made M agrees).rest, (made M agrees).owed) refl

      going_first : (M : History W) → Agrees work first M → IsGoing work job until ends first.clock (sim_from M)
      going_first M agrees = let e = agrees.world.clock in record { early = rw (← e) early; waited = omega arith; order = order; owed = λ lt c e. cc }

      -- if the core stopped, it stopped after these moves and some more
      pub stopped : (failed : S → S → List Seen → Type 0) (v : S)
          → ((M : History W) → Agrees work mid M → Stops work job until saw failed (record { history = M; coming = now; owing = o }) new u v)
          → (M : History W) → Agrees work first M → Stops work job until saw failed (record { history = M; coming = coming; owing = None }) new w v
      stopped failed v stops M agrees =
          let h = made M agrees in
          let k : Stops work job until saw failed (last_of M agrees) new u v = rw (at_last M agrees) at (stops (last_of M agrees).history h.state) in
          record {
            moves = h.moves ++ k.moves;
            each = next_more until (sim_from M) h.moves k.moves h.each k.each;
            state = rw (after_more (sim_from M) h.moves k.moves) k.state;
            seen = λ first seen was. rw (shown_on (sim_from M) h.moves k.moves seen) (k.seen first _ (h.seen first seen was));
          }

      module _ (then : List Release) (p : Option Charge) (v : S)
          (next : (M : History W) → Agrees work mid M
          → MakesNext work job until saw (record { history = M; coming = now; owing = o }) new then p u v) where
        -- one move makes less what is left
        less : (M : History W) → Agrees work first M → (until - new.clock) + length then < (until - mid.clock) + length now
        less M agrees =
            let h = made M agrees in
            let k = next (last_of M agrees).history h.state in
            let laws = goes work job until ends first.clock (sim_from M) h.moves (going_first M agrees) h.each in
            let going : IsGoing work job until ends laws.last (record { history = (last_of M agrees).history; coming = now; owing = o }) =
            rw (at_last M agrees) laws.going in
            let well = well_next work job until ends laws.last (record { history = (last_of M agrees).history; coming = now; owing = o })
            k.move going k.next in
            let fewer = well.fewer in
            let a = h.state.world.clock in
            let b = k.makes.state.world.clock in
            let c = k.rest in
            rw (a, b, c) fewer

        -- the same, whatever the history is
        pub smaller : HasHistory work first → (until - new.clock) + length then < (until - mid.clock) + length now
        smaller has = elim (cases_lt ((until - new.clock) + length then) ((until - mid.clock) + length now)) [
          | inl lt ↦ lt
          | inr ge ↦ absurd (has (λ M agrees. let lt = less M agrees in absurd (omega arith)))
        ]

        -- the moves are made, with the next one
        pub preserved : (M : History W) → Agrees work first M
            → MakesSome until saw (record { history = M; coming = coming; owing = None }) new then p w v
        preserved M agrees =
            let h = made M agrees in
            more_made (sim_from M) (record { history = (last_of M agrees).history; coming = now; owing = o }) mid new now then o p w u v h (at_last M agrees)
            (next (last_of M agrees).history h.state)

      -- if there is no next move, all moves are made
      pub all_made : ((M : History W) → Agrees work mid M → next_of work job until (record { history = M; coming = now; owing = o }) ≡ None)
          → (M : History W) → Agrees work first M → Simulates work job until saw (record { history = M; coming = coming; owing = None }) mid w u
      all_made ended M agrees =
          let h = made M agrees in
          let none : next_of work job until (last_of M agrees) ≡ None = rw (sym (at_last M agrees)) (ended (last_of M agrees).history h.state) in
          let all : AreMoves work job until (sim_from M) h.moves = record { each = h.each; ended = none } in
          let going = going_first M agrees in
          let same = are_moves work job until ends first.clock (sim_from M) h.moves going all in
          let laws = goes work job until ends first.clock (sim_from M) h.moves going h.each in
          record {
            state = rw (sym same) h.state;
            all = moves_are work job until ends first.clock (sim_from M) going;
            only = λ ns every. are_moves work job until ends first.clock (sim_from M) ns going every;
            seen = λ first seen was. rw (sym same) (h.seen first seen was);
            submits = rw (sym same) (all_submits work job until ends first.clock (sim_from M) h.moves going all);
            on_tick = rw (sym same, sym agrees.world.clock) laws.on_tick;
            charges = rw (sym same) laws.charges;
            quiet = rw (sym same) laws.quiet;
            clock = h.state.world.clock ∙ all_end work job until ends first.clock (sim_from M) h.moves going all;
          }
