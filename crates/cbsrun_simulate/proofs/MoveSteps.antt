-- What the moves of a simulation do.
use Rattle.std.proofs.Common.{◌≡◌, ℕ, ◌+◌, ◌-◌, ◌≤◌, ◌<◌, true, false, leb, ltb, List, [], ◌∷◌, ◌++◌, length, arith, refl, sym, inl, inr, Option, Some, None}
use Rattle.std.specs.Prelude.{min, MatchOption}
use Rattle.std.proofs.lemmas.Bool.{cases_Bool}
use Rattle.std.proofs.lemmas.Bool.Decides.{nat_tests}
use Rattle.cbs_job.specs.Work.{Meaning}
use Rattle.cbs_rules.specs.Rules.{clock_end}
use Rattle.cbs_steps.specs.History.{World, History, faces, charge_refusal, world_after}
use Rattle.cbs_steps.specs.Quiet.{IsAtRest, IsIdleSpan}
use Rattle.cbs_steps.proofs.Running.{not_refused}
use Rattle.cbsrun_simulate.specs.Moves.{Move, submit, charge, move_on, idle_span, next_free, coming_after, submitted_by, charged_by, Simulation, clock_of}
use Rattle.cbsrun_simulate.specs.Moves.{after_move, owing_after}
use Rattle.cbsrun_simulate.specs.MoveLaws.{IsOnTick, owed_before, MovesQuietly, ChargesOwed, IsGranted, since_after}
use Rattle.cbsrun_simulate.specs.Merging.{order_from}
use Rattle.cbsrun_simulate.specs.Releases.{IsInOrder, before}
use Rattle.cbsrun_simulate.specs.declared.charge.Charge.{Charge}
use Rattle.cbsrun_simulate.specs.declared.release.Release.{Release}
use Rattle.cbsrun_simulate.proofs.Clocks.{advance-now, charge-now, submit-now, run-now, span_some}
use Rattle.cbsrun_simulate.proofs.Owing.{MayBeCharged, owed_runs}
use Rattle.cbsrun_simulate.proofs.Spans.{span_idle}

-- when the clock is at `until`, nothing is charged
pub none_owed : (until now : ℕ) (o : Option Charge) → until ≤ now → owed_before until now o ≡ None
none_owed until now None le = refl
none_owed until now (Some c) le = let t : leb until now ≡ true = grind (arith, nat_tests) in rw t refl

module _ {W : Type 0} (work : Meaning W) (job : Release → W) (until : ℕ) (ends : until ≤ clock_end) where
  -- the state of a simulation. The clock has not passed `until`, nor the first release to come, except for releases
  -- that have waited since the last charge began. A charge that is owed may be made
  pub record IsGoing (since : ℕ) (sim : Simulation W) : Type 0 where
    pub early : clock_of work job sim ≤ until
    pub waited : since ≤ clock_of work job sim
    pub order : IsInOrder since sim.coming
    pub owed : clock_of work job sim < until → (c : Charge) → sim.owing ≡ Some c
        → (since ≡ clock_of work job sim) × MayBeCharged (world_after work sim.history) c

  -- what a move of a simulation does
  pub record MovesWell (since : ℕ) (sim : Simulation W) (m : Move) : Type 0 where
    pub quiet : MovesQuietly work job sim m
    pub on_tick : IsOnTick since (clock_of work job sim) m
    pub charges : ChargesOwed work job until sim m
    pub going : IsGoing (since_after work job since sim m) (after_move work job sim m)
    pub fewer : (until - clock_of work job (after_move work job sim m)) + length (after_move work job sim m).coming
        < (until - clock_of work job sim) + length sim.coming
    pub submits : before until sim.coming ≡ submitted_by m ++ before until (after_move work job sim m).coming

  module _ (M : History W) where
    abbrev pub w : World W
    w = world_after work M

    -- a simulation after M
    abbrev pub sim_of : List Release → Option Charge → Simulation W
    sim_of rs o = record { history = M; coming = rs; owing = o }

    -- a release before `until` that has come is submitted as it should be
    pub well_submit : (since : ℕ) (r : Release) (rs : List Release) (o : Option Charge) → IsGoing since (sim_of (r ∷ rs) o) → r.tick ≤ w.now → r.tick < until
        → owed_before until w.now o ≡ None → (w.now < until → o ≡ None) → MovesWell since (sim_of (r ∷ rs) o) (submit r)
    well_submit since r rs o going come sooner none free =
        let stands = submit-now work M.setup.backlog w r.server (job r) in
        let t : ltb r.tick until ≡ true = grind (arith, nat_tests) in
        let early = going.early in
        let waited = going.waited in
        let from = going.order.0 in
        record {
          quiet = tt;
          on_tick = (from, come);
          charges = record { charge = sym none; granted = tt };
          going = record {
            early = omega arith;
            waited = omega arith;
            order = order_from since r.tick rs from going.order.1;
            owed = λ lt c e. let n : o ≡ None = free (omega arith) in cc;
          };
          fewer = omega arith;
          submits = rw t refl;
        }

    -- a charge that is owed is made as it should be
    pub well_charge : (since : ℕ) (rs : List Release) (c : Charge) → IsGoing since (sim_of rs (Some c)) → w.now < until
        → MovesWell since (sim_of rs (Some c)) (charge c.server (min c.ticks (until - w.now)))
    well_charge since rs c going early =
        let n = min c.ticks (until - w.now) in
        let may = (going.owed early c refl).1 in
        let from = (going.owed early c refl).0 in
        let some = may.some in
        let granted : charge_refusal w c.server n ≡ None = not_refused w c.server n may.there may.runs (omega arith) in
        let later = charge-now work M.setup.backlog w c.server n (omega arith) granted in
        let f : leb until w.now ≡ false = grind (arith, nat_tests) in
        record {
          quiet = tt;
          on_tick = tt;
          charges = record { charge = rw f refl; granted = rw granted refl };
          going = record { early = omega arith; waited = omega arith; order = rw (← from) going.order; owed = λ lt d e. cc };
          fewer = omega arith;
          submits = refl;
        }

    -- a move that goes on takes no server's time, and moves the clock on, to `stop` at most
    record GoesOn (rs : List Release) (stop : ℕ) (m : Move) : Type 0 where
      quiet : MovesQuietly work job (sim_of rs None) m
      later : w.now < clock_of work job (after_move work job (sim_of rs None) m)
      most : clock_of work job (after_move work job (sim_of rs None) m) ≤ stop
      since : (since : ℕ) → since_after work job since (sim_of rs None) m ≡ clock_of work job (after_move work job (sim_of rs None) m)
      on_tick : (since : ℕ) → IsOnTick since w.now m
      charge : charged_by m ≡ None
      granted : IsGranted work job (sim_of rs None) m
      same : coming_after m rs ≡ rs
      none : submitted_by m ≡ []
      owed : (c : Charge) → owing_after work job (sim_of rs None) m ≡ Some c
          → MayBeCharged (world_after work (after_move work job (sim_of rs None) m).history) c

    -- a run does this if a server is ready, and an advance if none is
    goes_on : (rs : List Release) (stop : ℕ) → w.now < stop → stop ≤ until → (o : Option ℕ) → MatchOption o (¬ IsAtRest work w) (IsIdleSpan work w)
        → GoesOn rs stop (move_on w.now stop o)
    goes_on rs stop early le None busy =
        let e = run-now work M.setup.backlog w busy (omega arith) in
        record {
          quiet = tt;
          later = omega arith;
          most = omega arith;
          since = λ since. refl;
          on_tick = λ since. tt;
          charge = refl;
          granted = tt;
          same = refl;
          none = refl;
          owed = λ c e. owed_runs work w c (omega arith) e;
        }
    goes_on rs stop early le (Some n) span =
        let some = span_some work w n span (omega arith) in
        let e = advance-now work M.setup.backlog w (min n (stop - w.now)) (omega arith) in
        record {
          quiet = λ within m lt. span.quiet m (omega arith);
          later = omega arith;
          most = omega arith;
          since = λ since. refl;
          on_tick = λ since. tt;
          charge = refl;
          granted = tt;
          same = refl;
          none = refl;
          owed = λ c e. cc;
        }

    -- such a move is made as it should be if no release has come by `stop`
    well_on : (since : ℕ) (rs : List Release) (stop : ℕ) (m : Move) → stop ≤ until → ((now : ℕ) → now ≤ stop → IsInOrder now rs) → GoesOn rs stop m
        → MovesWell since (sim_of rs None) m
    well_on since rs stop m le order h =
        let later = h.later in
        let most = h.most in
        let from = h.since since in
        record {
          quiet = h.quiet;
          on_tick = h.on_tick since;
          charges = record { charge = h.charge; granted = h.granted };
          going = record {
            early = omega arith;
            waited = omega arith;
            order = rw (h.same, from) (order _ most);
            owed = λ lt c e. (from, h.owed c e);
          };
          fewer = rw (h.same) (omega arith);
          submits = rw (h.same, h.none) refl;
        }

    -- the next move before `until`, if nothing is owed
    pub well_free : (since : ℕ) (rs : List Release) → IsGoing since (sim_of rs None) → w.now < until
        → MovesWell since (sim_of rs None) (next_free until w.now (faces work w) rs)
    well_free since [] going early = well_on since [] until _ (omega arith) (λ now le. tt)
        (goes_on [] until early (omega arith) (idle_span w.now (faces work w)) (span_idle work w))
    well_free since (r ∷ rs) going early = elim (cases_Bool (leb r.tick w.now)) [
      | inl t ↦ rw t (let come : r.tick ≤ w.now = grind (arith, nat_tests) in well_submit since r rs None going come (omega arith) refl (λ lt. refl))
      | inr f ↦ rw f (
          let later : w.now < r.tick = grind (arith, nat_tests) in
          let stop = min r.tick until in
          well_on since (r ∷ rs) stop _ (omega arith) (λ now le. (omega arith, going.order.1))
          (goes_on (r ∷ rs) stop (omega arith) (omega arith) (idle_span w.now (faces work w)) (span_idle work w)))
    ]
