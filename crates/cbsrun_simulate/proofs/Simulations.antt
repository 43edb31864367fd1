-- The laws of a whole simulation.
use Rattle.std.proofs.Common.{◌≡◌, ℕ, zero, suc, ◌+◌, ◌-◌, ◌≤◌, ◌<◌, leb, ltb, List, [], ◌∷◌, ◌++◌, length, arith, refl, sym, ◌∙◌, ap, inl}
use Rattle.std.proofs.Common.{inr, append_assoc, append-nil, Option, Some, None}
use Rattle.std.proofs.lemmas.Bool.{cases_Bool, ltb-true, leb-true, leb-false, le-leb}
use Rattle.std.specs.Option.{option_map_or}
use Rattle.cbs_job.specs.Work.{Meaning}
use Rattle.cbs_rules.specs.Rules.{clock_end}
use Rattle.cbs_steps.specs.History.{History, faces, world_after}
use Rattle.cbs_steps.specs.Quiet.{AdvanceQuietly}
use Rattle.cbsrun_simulate.specs.Moves.{Move, submit, next_before, last_move, Simulation, clock_of, next_of, after_move, after_moves, AreNext, AreMoves}
use Rattle.cbsrun_simulate.specs.Moves.{submitted_by, submitted, moves_within, moves_of}
use Rattle.cbsrun_simulate.specs.MoveLaws.{AllMoves, MovesQuietly, ChargesOwed, EachOnTick, since_after}
use Rattle.cbsrun_simulate.specs.Releases.{before}
use Rattle.cbsrun_simulate.specs.declared.charge.Charge.{Charge}
use Rattle.cbsrun_simulate.specs.declared.release.Release.{Release}
use Rattle.cbsrun_simulate.proofs.MoveSteps.{IsGoing, MovesWell, none_owed, sim_of, well_submit, well_charge, well_free}

-- if nothing is submitted at the end, no release is left before `until`
none_before : (until : ℕ) (rs : List Release) → last_move until rs ≡ None → before until rs ≡ []
none_before until [] e = refl
none_before until (r ∷ rs) e = elim (cases_Bool (ltb r.tick until)) [
  | inl t ↦ let g : Some (submit r) ≡ None = rw t at e in cc
  | inr f ↦ rw f refl
]

-- if none is left, nothing is submitted at the end
none_last : (until : ℕ) (rs : List Release) → length rs ≡ 0 → last_move until rs ≡ None
none_last until [] e = refl
none_last until (r ∷ rs) e = absurd (omega arith)

module _ {W : Type 0} (work : Meaning W) (job : Release → W) (until : ℕ) (ends : until ≤ clock_end) where
  module _ (M : History W) (since : ℕ) (m : Move) where
    -- what the next move does, before `until`
    well_before : (rs : List Release) (o : Option Charge) → IsGoing work job until ends since (sim_of work job until ends M rs o)
        → (world_after work M).now < until
        → next_before until (world_after work M).now (faces work (world_after work M)) o rs ≡ m
        → MovesWell work job until ends since (sim_of work job until ends M rs o) m
    well_before rs None going early is = rw is at (well_free work job until ends M since rs going early)
    well_before rs (Some c) going early is = rw is at (well_charge work job until ends M since rs c going early)

    -- what the next move does, at `until`
    well_last : (rs : List Release) (o : Option Charge) → IsGoing work job until ends since (sim_of work job until ends M rs o)
        → until ≤ (world_after work M).now
        → last_move until rs ≡ Some m → MovesWell work job until ends since (sim_of work job until ends M rs o) m
    well_last [] o going late is = cc
    well_last (r ∷ rs) o going late is = elim (cases_Bool (ltb r.tick until)) [
      | inl t ↦
          let sooner = ltb-true r.tick until t in
          let e : Some (submit r) ≡ Some m = rw t at is in
          let same : submit r ≡ m = cc in
          rw same at (well_submit work job until ends M since r rs o going (omega arith) sooner (none_owed until (world_after work M).now o late)
          (λ lt. absurd (omega arith)))
      | inr f ↦ let g : None ≡ Some m = rw f at is in cc
    ]

  -- the same for any next move
  pub well_next : (since : ℕ) (sim : Simulation W) (m : Move) → IsGoing work job until ends since sim → next_of work job until sim ≡ Some m
      → MovesWell work job until ends since sim m
  well_next since sim m going e = elim (cases_Bool (leb until (clock_of work job sim))) [
    | inl t ↦ well_last sim.history since m sim.coming sim.owing going (leb-true _ _ t) (rw t at e)
    | inr f ↦
        let w = world_after work sim.history in
        let is : Some (next_before until w.now (faces work w) sim.owing sim.coming) ≡ Some m = rw f at e in
        well_before sim.history since m sim.coming sim.owing going (leb-false _ _ f) cc
  ]

  -- if there is no next move, the clock is at `until`, and no release before `until` is left
  pub ended_at : (since : ℕ) (sim : Simulation W) → IsGoing work job until ends since sim → next_of work job until sim ≡ None
      → (clock_of work job sim ≡ until) × (before until sim.coming ≡ [])
  ended_at since sim going e = elim (cases_Bool (leb until (clock_of work job sim))) [
    | inl t ↦ (let early = going.early in let late = leb-true _ _ t in omega arith, none_before until sim.coming (rw t at e))
    | inr f ↦ let w = world_after work sim.history in let g : Some (next_before until w.now (faces work w) sim.owing sim.coming) ≡ None = rw f at e in cc
  ]

  -- what some moves do, each the next one where it stands
  pub record Goes (since : ℕ) (sim : Simulation W) (ms : List Move) : Type 0 where
    pub quiet : AllMoves work job (MovesQuietly work job) sim ms
    pub on_tick : EachOnTick work job since sim ms
    pub charges : AllMoves work job (ChargesOwed work job until) sim ms
    pub last : ℕ
    pub going : IsGoing work job until ends last (after_moves work job sim ms)
    pub submits : before until sim.coming ≡ submitted ms ++ before until (after_moves work job sim ms).coming

  -- such moves keep all of that
  pub goes : (since : ℕ) (sim : Simulation W) (ms : List Move) → IsGoing work job until ends since sim → AreNext work job until sim ms → Goes since sim ms
  goes since sim [] going each = record { quiet = tt; on_tick = tt; charges = tt; last = since; going = going; submits = refl }
  goes since sim (m ∷ ms) going each =
      let well = well_next since sim m going each.0 in
      let h = goes (since_after work job since sim m) (after_move work job sim m) ms well.going each.1 in
      record {
        quiet = (well.quiet, h.quiet);
        on_tick = (well.on_tick, h.on_tick);
        charges = (well.charges, h.charges);
        last = h.last;
        going = h.going;
        submits = well.submits ∙ ap (λ rs. submitted_by m ++ rs) h.submits ∙ sym (append_assoc (submitted_by m) (submitted ms) _);
      }

  module _ (since : ℕ) where
    -- all moves: they submit the releases before `until`, each once and in order, and end at `until`
    pub all_submits : (sim : Simulation W) (ms : List Move) → IsGoing work job until ends since sim → AreMoves work job until sim ms
        → submitted ms ≡ before until sim.coming
    all_submits sim ms going all =
        let h = goes since sim ms going all.each in
        let none = (ended_at h.last (after_moves work job sim ms) h.going all.ended).1 in
        sym (h.submits ∙ rw none (append-nil (submitted ms)))

    pub all_end : (sim : Simulation W) (ms : List Move) → IsGoing work job until ends since sim → AreMoves work job until sim ms
        → clock_of work job (after_moves work job sim ms) ≡ until
    all_end sim ms going all = let h = goes since sim ms going all.each in (ended_at h.last (after_moves work job sim ms) h.going all.ended).0

  -- there is no other list of moves
  only_moves : (sim : Simulation W) (ms ns : List Move) → AreMoves work job until sim ms → AreMoves work job until sim ns → ms ≡ ns
  only_moves sim [] [] h k = refl
  only_moves sim [] (n ∷ ns) h k = let g : None ≡ Some n = sym h.ended ∙ k.each.0 in cc
  only_moves sim (m ∷ ms) [] h k = let g : None ≡ Some m = sym k.ended ∙ h.each.0 in cc
  only_moves sim (m ∷ ms) (n ∷ ns) h k =
      let e : Some m ≡ Some n = sym h.each.0 ∙ k.each.0 in
      let same : m ≡ n = cc in
      let rest : AreMoves work job until (after_move work job sim m) ns = rw same (record { each = k.each.1; ended = k.ended }) in
      rw (sym same) (ap (λ xs. m ∷ xs) (only_moves (after_move work job sim m) ms ns (record { each = h.each.1; ended = h.ended }) rest))

  -- as many moves as there are ticks and releases left are all
  enough : (k since : ℕ) (sim : Simulation W) → IsGoing work job until ends since sim → (until - clock_of work job sim) + length sim.coming ≤ k
      → AreMoves work job until sim (moves_within work job k until sim)
  unfolding moves_within
  enough zero since sim going le =
      let t = le-leb until (clock_of work job sim) (omega arith) in
      record { each = tt; ended = rw t (none_last until sim.coming (omega arith)) }
  enough (suc k) since sim going le =
      let with : (o : Option Move) → next_of work job until sim ≡ o
      → AreMoves work job until sim (option_map_or (λ m. m ∷ moves_within work job k until (after_move work job sim m)) o []) =
      λ o. elim o as (λ o. next_of work job until sim ≡ o
      → AreMoves work job until sim (option_map_or (λ m. m ∷ moves_within work job k until (after_move work job sim m)) o [])) [
        | None ↦ λ e. record { each = tt; ended = e }
        | Some m ↦ λ e.
            let well = well_next since sim m going e in
            let fewer = well.fewer in
            let h = enough k (since_after work job since sim m) (after_move work job sim m) well.going (omega arith) in
            record { each = (e, h.each); ended = h.ended }
      ] in
      with (next_of work job until sim) refl

  -- the moves of the definition are all moves
  pub moves_are : (since : ℕ) (sim : Simulation W) → IsGoing work job until ends since sim → AreMoves work job until sim (moves_of work job until sim)
  moves_are since sim going = enough ((until - clock_of work job sim) + length sim.coming) since sim going (omega arith)

  -- all moves are the moves of the definition
  pub are_moves : (since : ℕ) (sim : Simulation W) (ms : List Move) → IsGoing work job until ends since sim → AreMoves work job until sim ms
      → ms ≡ moves_of work job until sim
  are_moves since sim ms going all = only_moves sim ms (moves_of work job until sim) all (moves_are since sim going)

module _ {W : Type 0} (work : Meaning W) (job : Release → W) where
  -- after steps that advance quietly, moves that do make such steps
  pub quiet_steps : (sim : Simulation W) (ms : List Move) → AdvanceQuietly work sim.history.setup sim.history.steps
      → AllMoves work job (MovesQuietly work job) sim ms
      → AdvanceQuietly work (after_moves work job sim ms).history.setup (after_moves work job sim ms).history.steps
  quiet_steps sim [] before quiet = before
  quiet_steps sim (m ∷ ms) before quiet = quiet_steps (after_move work job sim m) ms (before, quiet.0) quiet.1
