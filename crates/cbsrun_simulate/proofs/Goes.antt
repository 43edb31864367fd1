-- The next move, as a core makes it.
use Rattle.std.proofs.Common.{◌≡◌, ℕ, ◌-◌, ◌≤◌, ◌<◌, true, false, leb, ltb, List, [], ◌∷◌, arith, refl, ◌∙◌, ap, inl, inr, Option, Some, None}
use Rattle.std.specs.Prelude.{min, slice_get, Result, Ok, Err, OnOk, OnErr}
use Rattle.std.proofs.lemmas.Bool.{cases_lt}
use Rattle.std.proofs.lemmas.Bool.Decides.{nat_tests}
use Rattle.cbs_job.specs.Work.{Meaning, whole}
use Rattle.cbs_core.specs.Agreement.{Agrees, TellsOf}
use Rattle.cbs_core.specs.Calls.{Makes}
use Rattle.cbs_core.specs.Held.{CoreHeld, DoesRun}
use Rattle.cbs_steps.specs.History.{History, ◌⊕◌, account, faces, world_after, reply_in}
use Rattle.cbs_steps.specs.Promises.{promised}
use Rattle.cbs_steps.specs.declared.reply.Ran.{Ran}
use Rattle.cbs_steps.specs.declared.reply.Reply.TheVariants as reply
use Rattle.cbs_steps.specs.declared.step.Step.TheVariants as step
use Rattle.cbsrun_simulate.specs.Moves.{Move, submit, run, charge, idle_span, move_on, ran_in, owing_for, Simulation, next_of, owing_after, after_move}
use Rattle.cbsrun_simulate.specs.Shown.{arrival_of, seen_of}
use Rattle.cbsrun_events.specs.Steps.{seen_at}
use Rattle.cbsrun_events.specs.declared.seen.Seen.{Seen}
use Rattle.cbsrun_simulate.specs.Simulating.{DoesMove, Stops, MakesMove, owing_told, stop_at}
use Rattle.cbsrun_simulate.specs.declared.charge.Charge.{Charge}
use Rattle.cbsrun_events.specs.declared.seen.Event.{Event}
use Rattle.cbsrun_events.specs.declared.seen.Event.TheVariants as event
use Rattle.cbsrun_simulate.specs.declared.release.Release.{Release}
use Rattle.cbsrun_simulate.proofs.Owing.{told_is}

-- what holds in any case also holds at an error
pub on_err : {T E P : Type 0} (r : Result T E) → P → OnErr r P
on_err (Ok x) p = tt
on_err (Err e) p = p

-- what follows at an error from what holds at an error
pub on_err_with : {T E P Q : Type 0} (r : Result T E) → (P → Q) → OnErr r P → OnErr r Q
on_err_with (Ok x) f p = tt
on_err_with (Err e) f p = f p

-- what follows at a success from what holds at a success
pub on_ok_with : {T E P Q : Type 0} (r : Result T E) → (P → Q) → OnOk r P → OnOk r Q
on_ok_with (Ok x) f p = f p
on_ok_with (Err e) f p = tt

module _ {W : Type 0} (work : Meaning W) (job : Release → W) where
  -- the move of a simulation up to the tick `stop`, if no release has come
  abbrev pub move_to : ℕ → Simulation W → Move
  move_to stop sim = let w = world_after work sim.history in move_on w.now stop (idle_span w.now (faces work w))

  -- a core made the next move of the simulation. After it these releases are to come, and this charge is owed
  pub record MakesNext {S : Type 0} (until : ℕ) (saw : S → S → List Seen → Type 0) (sim : Simulation W) (new : CoreHeld W) (coming : List Release)
      (owing : Option Charge) (w v : S) : Type 0 where
    pub move : Move
    pub next : next_of work job until sim ≡ Some move
    pub makes : MakesMove work job saw sim move new w v
    pub rest : coming ≡ (after_move work job sim move).coming
    pub owed : owing ≡ owing_after work job sim move

  -- a run, with its result
  pub runs : (constant : (j : W) → whole work j ≡ work.output j) (sim : Simulation W) (old new : CoreHeld W) (r : Ran) (o : Option Charge)
      → Agrees work old sim.history → reply.Ran r ≡ reply_in work sim.history step.Run → Agrees work new (sim.history ⊕ step.Run) → DoesRun work r old new
      → o ≡ owing_told work new r → DoesMove work job sim run new (event.Ran r) o
  runs constant sim old new r o agrees told state does is =
      let same : r ≡ ran_in (reply_in work sim.history step.Run) = ap ran_in told in
      record {
        event = ap (λ r. event.Ran r) same;
        state = state;
        owed = is ∙ told_is work constant sim.history old new r agrees does ∙ ap (owing_for work (world_after work sim.history)) same;
      }

  -- a submit that was accepted
  pub accepts : (sim : Simulation W) (r : Release) (task : W) (old new : CoreHeld W) (q : ℕ) (p : Option ℕ) → Agrees work old sim.history → task ≡ job r
      → Makes work old new (step.Submit r.server task) (reply.Accepted q) → TellsOf work new (λ w. p ≡ promised work (account w.accounts r.server))
      → DoesMove work job sim (submit r) new (event.Accepted (arrival_of r) q p) sim.owing
  accepts sim r task old new q p agrees is makes told =
      let state : Agrees work new (sim.history ⊕ step.Submit r.server (job r)) = rw is at (makes.state sim.history agrees) in
      let answer : reply.Accepted q ≡ reply_in work sim.history (step.Submit r.server (job r)) = rw is at (makes.reply sim.history agrees) in
      record { event = rw (← answer) (ap (event.Accepted (arrival_of r) q) (told _ state)); state = state; owed = refl }

  -- what a view is shown of a move that it made
  seen_is : (sim : Simulation W) (m : Move) (new : CoreHeld W) (e : Event) (o : Option Charge) (s : Seen) → DoesMove work job sim m new e o
      → s ≡ seen_at new.clock new.faces e → s ≡ seen_of work job sim m
  seen_is sim m new e o s moves is =
      let at = moves.state.world.clock in
      let faces = moves.state.world.shown in
      is ∙ rw (at, faces, moves.event) refl

  -- a move that a core made, and that a view saw
  pub sees : {S : Type 0} (saw : S → S → List Seen → Type 0) (sim : Simulation W) (m : Move) (new : CoreHeld W) (e : Event) (o : Option Charge) (s : Seen)
      (w v : S) → DoesMove work job sim m new e o → s ≡ seen_at new.clock new.faces e
      → ((first : S) (seen : List Seen) → saw first w seen → saw first v (s ∷ seen)) → MakesMove work job saw sim m new w v
  sees saw sim m new e o s w v moves is sight =
      record { state = moves.state; seen = λ first seen was. rw (seen_is sim m new e o s moves is) at (sight first seen was) }

  -- what a core shows tells which move goes on
  pub goes_at : (sim : Simulation W) (core : CoreHeld W) (stop : ℕ) (o : Option ℕ) → Agrees work core sim.history
      → o ≡ idle_span (world_after work sim.history).now (faces work (world_after work sim.history))
      → move_on core.clock stop o ≡ move_on core.clock stop (idle_span core.clock core.faces)
  goes_at sim core stop o agrees is =
      let at = agrees.world.clock in
      let shown = agrees.world.shown in
      ap (move_on core.clock stop) (is ∙ rw (at, shown) refl)

  -- a core that did nothing stopped before any move, and one that made the next move stopped after it
  pub stops_first : {S : Type 0} (saw failed : S → S → List Seen → Type 0) (until : ℕ) (sim : Simulation W) (new : CoreHeld W) (w : S)
      → Agrees work new sim.history → Stops work job until saw failed sim new w w
  stops_first saw failed until sim new w state = record { moves = []; each = tt; state = state; seen = λ first seen was. inl was }

  pub stops_after : {S : Type 0} (saw failed : S → S → List Seen → Type 0) (until : ℕ) (sim : Simulation W) (m : Move) (new : CoreHeld W) (e : Event)
      (o : Option Charge) (s : Seen) (w v : S) → next_of work job until sim ≡ Some m → DoesMove work job sim m new e o → s ≡ seen_at new.clock new.faces e
      → ((first : S) (seen : List Seen) → saw first w seen → failed first v (s ∷ seen)) → Stops work job until saw failed sim new w v
  stops_after saw failed until sim m new e o s w v next moves is fails =
      record {
        moves = m ∷ [];
        each = (next, tt);
        state = moves.state;
        seen = λ first seen was. inr (rw (seen_is sim m new e o s moves is) at (fails first seen was));
      }

  -- a core that agrees differs from this one only in its room for jobs
  pub same_but_room : (M : History W) (old new : CoreHeld W) (rooms : List ℕ) → new ≡ record old { rooms = rooms } → Agrees work old M → Agrees work new M
  same_but_room M old new rooms same agrees = rw same (record {
    world = record {
      same_backlog = agrees.world.same_backlog;
      clock = agrees.world.clock;
      shown = agrees.world.shown;
      jobs = agrees.world.jobs;
      runs = agrees.world.runs;
      latest = agrees.world.latest;
    };
    unit = agrees.unit;
  })

  module _ (until : ℕ) (M : History W) where
    -- if no release is left, the next move is the one up to `until`
    pub none_left : (coming : List Release) → slice_get coming 0 ≡ None → (world_after work M).now < until
        → next_of work job until (record { history = M; coming = coming; owing = None }) ≡ Some
        (move_to until (record { history = M; coming = coming; owing = None }))
    none_left [] e early = let f : leb until (world_after work M).now ≡ false = grind (arith, nat_tests) in rw f refl
    none_left (r ∷ rs) e early = cc

    -- if no release has come, the next move is the one up to the first of them, or to `until`
    pub none_come : (coming : List Release) (r : Release) → slice_get coming 0 ≡ Some r → (world_after work M).now < until → (world_after work M).now < r.tick
        → next_of work job until (record { history = M; coming = coming; owing = None }) ≡ Some
        (move_to (min r.tick until) (record { history = M; coming = coming; owing = None }))
    none_come [] r e early later = cc
    none_come (q ∷ rs) r e early later =
        let f : leb until (world_after work M).now ≡ false = grind (arith, nat_tests) in
        let same : q ≡ r = cc in
        let g : leb r.tick (world_after work M).now ≡ false = grind (arith, nat_tests) in
        rw (f, same, g) refl

    -- if a release has come, it is submitted
    pub one_come : (coming : List Release) (r : Release) → slice_get coming 0 ≡ Some r → (world_after work M).now < until → r.tick ≤ (world_after work M).now
        → next_of work job until (record { history = M; coming = coming; owing = None }) ≡ Some (submit r)
    one_come [] r e early come = cc
    one_come (q ∷ rs) r e early come =
        let f : leb until (world_after work M).now ≡ false = grind (arith, nat_tests) in
        let same : q ≡ r = cc in
        let t : leb r.tick (world_after work M).now ≡ true = grind (arith, nat_tests) in
        rw (f, same, t) refl

    -- when the clock is at `until`, a release before `until` is submitted
    pub one_late : (coming : List Release) (o : Option Charge) (r : Release) → slice_get coming 0 ≡ Some r → until ≤ (world_after work M).now → r.tick < until
        → next_of work job until (record { history = M; coming = coming; owing = o }) ≡ Some (submit r)
    one_late [] o r e late sooner = cc
    one_late (q ∷ rs) o r e late sooner =
        let t : leb until (world_after work M).now ≡ true = grind (arith, nat_tests) in
        let same : q ≡ r = cc in
        let s : ltb r.tick until ≡ true = grind (arith, nat_tests) in
        rw (t, same, s) refl

    -- if there is no such release, there is no next move
    pub none_late : (coming : List Release) (o : Option Charge) → until ≤ (world_after work M).now
        → ((r : Release) → slice_get coming 0 ≡ Some r → until ≤ r.tick)
        → next_of work job until (record { history = M; coming = coming; owing = o }) ≡ None
    none_late [] o late later = let t : leb until (world_after work M).now ≡ true = grind (arith, nat_tests) in rw t refl
    none_late (r ∷ rs) o late later =
        let t : leb until (world_after work M).now ≡ true = grind (arith, nat_tests) in
        let le = later r refl in
        let f : ltb r.tick until ≡ false = grind (arith, nat_tests) in
        rw (t, f) refl

    -- up to the tick of the next release, the next move is the one up to that tick
    pub before_stop : (coming : List Release) → (world_after work M).now < stop_at until coming
        → (let sim : Simulation W = record { history = M; coming = coming; owing = None } in
        next_of work job until sim ≡ Some (move_to (stop_at until coming) sim))
    before_stop [] lt = none_left [] refl lt
    before_stop (r ∷ rs) lt = none_come (r ∷ rs) r refl (omega arith) (omega arith)

    -- from that tick on, the first release is submitted, if it came before `until`
    pub one_due : (coming : List Release) (o : Option Charge) (r : Release) → slice_get coming 0 ≡ Some r → stop_at until coming ≤ (world_after work M).now
        → r.tick < until → ((world_after work M).now < until → o ≡ None)
        → next_of work job until (record { history = M; coming = coming; owing = o }) ≡ Some (submit r)
    one_due [] o r e due sooner free = cc
    one_due (q ∷ rs) o r e due sooner free = elim (cases_lt (world_after work M).now until) [
      | inl lt ↦
          let same : q ≡ r = cc in
          let d : min r.tick until ≤ (world_after work M).now = rw same at due in
          let come : r.tick ≤ (world_after work M).now = omega arith in
          rw (free lt) (one_come (q ∷ rs) r e lt come)
      | inr ge ↦ one_late (q ∷ rs) o r e ge sooner
    ]

    -- if no release has come before `until`, there is no next move
    pub none_due : (coming : List Release) (o : Option Charge) → stop_at until coming ≤ (world_after work M).now
        → ((r : Release) → slice_get coming 0 ≡ Some r → until ≤ r.tick)
        → next_of work job until (record { history = M; coming = coming; owing = o }) ≡ None
    none_due [] o due later = none_late [] o due later
    none_due (r ∷ rs) o due later = let le = later r refl in none_late (r ∷ rs) o (omega arith) later

    -- a charge that is owed is made first
    pub charge_next : (coming : List Release) (c : Charge) → (world_after work M).now < until
        → next_of work job until (record { history = M; coming = coming; owing = Some c })
        ≡ Some (charge c.server (min c.ticks (until - (world_after work M).now)))
    charge_next coming c early = let f : leb until (world_after work M).now ≡ false = grind (arith, nat_tests) in rw f refl
