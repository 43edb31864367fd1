-- The throttled ticks that are computed from a server's own steps are the ticks at which it waits.
use Rattle.std.proofs.Common.{◌≡◌, ℕ, zero, suc, ◌+◌, ◌-◌, ◌≤◌, ◌<◌, Bool, true, false, not, ◌&&◌, leb, ltb, List, [], ◌∷◌, length, map, arith, refl, ap, sym}
use Rattle.std.proofs.Common.{subst, ◌∙◌, inl, inr}
use Rattle.std.proofs.lemmas.Bool.Decides.{nat_tests}
use Rattle.cbs_core.specs.Held.{CoreHeld}
use Rattle.cbsrun_loads.specs.Loads.{LoadFile, releases_of}
use Rattle.cbs_rate.specs.Plan.{Planned}
use Rattle.cbs_rules.specs.Rules.{Terms, clock_end}
use Rattle.cbs_rules.specs.declared.mode.Mode.{Mode}
use Rattle.cbsrun_simulate.specs.Loading.{loading, job_of}
use Rattle.cbsrun_simulate.specs.MoveLaws.{AllMoves, ChargesOwed, IsGranted}
use Rattle.cbsrun_simulate.specs.Moves.{Move, submit, run, pass, charge, step_of, Simulation, clock_of, after_move, after_moves, moves_of}
use Rattle.cbsrun_simulate.specs.Shown.{seen_of, shown}
use Rattle.cbsrun_events.specs.Steps.{answer_in, promised_in}
use Rattle.cbsrun_simulate.specs.Simulating.{Simulates}
use Rattle.cbsrun_simulate.specs.declared.load_job.LoadJob.{LoadJob}
use Rattle.cbsrun_simulate.specs.declared.release.Release.{Release}
use Rattle.cbs_steps.specs.Accounts.{face_of, new_account}
use Rattle.cbs_steps.specs.Faces.{submit_refusal}
use Rattle.cbs_steps.specs.History.{World, History, account, chosen, faces, ticks, after_charging, charge_refusal, world_after, reply_in}
use Rattle.cbs_steps.specs.OnTime.{IsAhead}
use Rattle.cbs_steps.proofs.Ticks.{ticks_none, ticks_some}
use Rattle.cbsrun_figures.specs.Figures.{steps_of, throttled, waited}
use Rattle.cbsrun_simulate.proofs.Bounded.{granted_none}
use Rattle.cbsrun_sizing.proofs.LateServers.{as_many}
use Rattle.cbsrun_sizing.proofs.ServerMoves.{count_of}
use Rattle.cbsrun_events.specs.Events.{begun}
use Rattle.cbsrun_events.specs.declared.seen.Event.TheVariants as event
use Rattle.cbsrun_events.specs.declared.seen.Seen.{Seen}
use Rattle.cbsrun_chart.specs.Ticks.{AreInTurn}
use Rattle.cbsrun_runs.specs.Loads.{start_of, run_of, AreThrottled, is_waiting, shows, is_charge_of, waits_in, waits_at, count_ticks}
use Rattle.cbsrun_runs.specs.Runs.{AreInOrder}
use Rattle.cbsrun_runs.proofs.Runs.{simulation}
use Rattle.cbsrun_runs.proofs.Waits.{passed, wait, waited_is, wait_none, wait_more, wait_counted}
use Rattle.cbsrun_runs.proofs.WaitingMoves.{IsOwn, IsOther, Leaves, seen_as, shown_jump, run_leaves, pass_leaves, charge_leaves, submit_leaves}

-- two tests that agree at all of these ticks count the same
count_same : (p q : ℕ → Bool) (t n : ℕ) → ((i : ℕ) → t ≤ i → i < t + n → p i ≡ q i) → count_ticks p t n ≡ count_ticks q t n
count_same p q t zero same = refl
count_same p q t (suc n) same =
    let here : p t ≡ q t = same t (omega arith) (omega arith) in
    rw (here, count_same p q (t + 1) n (λ i from to. same i (omega arith) (omega arith))) refl

-- a test that holds at no tick counts 0
count_none : (p : ℕ → Bool) (t n : ℕ) → ((i : ℕ) → t ≤ i → i < t + n → p i ≡ false) → count_ticks p t n ≡ 0
count_none p t zero none = refl
count_none p t (suc n) none =
    let here : p t ≡ false = none t (omega arith) (omega arith) in
    rw (here, count_none p (t + 1) n (λ i from to. none i (omega arith) (omega arith))) refl

-- some ticks, and then some more
count_split : (p : ℕ → Bool) (t k n : ℕ) → count_ticks p t (k + n) ≡ count_ticks p t k + count_ticks p (t + k) n
count_split p t zero n = let e : 0 + n ≡ n = omega arith in let f : t + 0 ≡ t = omega arith in rw (e, f) (omega arith)
count_split p t (suc k) n =
    let e : suc k + n ≡ suc (k + n) = omega arith in
    let f : t + suc k ≡ t + 1 + k = omega arith in
    let rest = count_split p (t + 1) k n in
    rw (e, f) (omega arith)

-- there are as many servers as were given
pub counted : (N : History LoadJob) → length (world_after loading N).accounts ≡ length N.setup.servers
counted N = count_of N.setup N.steps

-- steps that end by a tick end by a later one
pub in_turn_later : (a b : ℕ) (own : List Seen) → a ≤ b → AreInTurn a own → AreInTurn b own
in_turn_later a b [] le turn = tt
in_turn_later a b (o ∷ own) le turn = (turn.0, let h = turn.1 in omega arith)

module _ (s : ℕ) where
  -- what a move leaves of server s
  leaves : (sim : Simulation LoadJob) (m : Move) → IsGranted loading job_of sim m → s < length (world_after loading sim.history).accounts
      → IsAhead (clock_of loading job_of sim) (shows (world_after loading sim.history) s)
      → Leaves s (world_after loading sim.history) (world_after loading (after_move loading job_of sim m).history)
      (seen_of loading job_of sim m)
      (is_charge_of s m)
  leaves sim (submit r) granted lt ahead =
      let w = world_after loading sim.history in
      let answer = answer_in (reply_in loading sim.history (step_of loading job_of (submit r))) in
      submit_leaves s w r answer (promised_in loading (world_after loading (after_move loading job_of sim (submit r)).history) r.server answer)
      (submit_refusal sim.history.setup.backlog (faces loading w) r.server) lt ahead
  leaves sim run granted lt ahead = let w = world_after loading sim.history in run_leaves s w (chosen loading w) refl lt ahead
  leaves sim (pass n) granted lt ahead = let w = world_after loading sim.history in pass_leaves s w n (leb (w.now + n) clock_end) ahead
  leaves sim (charge t n) granted lt ahead =
      let w = world_after loading sim.history in
      let none = granted_none (charge_refusal w t n) granted in
      subst (λ o. Leaves s w (after_charging w t n o) (seen_as s (event.Charged t n) (after_charging w t n o)) (is_charge_of s (charge t n))) (sym none)
      (charge_leaves s w t n lt ahead)

  -- The ticks so far are counted, and what is computed from its steps is right, however many ticks pass before its next
  -- step.
  record Reckons (sim : Simulation LoadJob) (seen : List Seen) (count : ℕ) : Type 0 where
    so_far : (n : ℕ) → throttled (clock_of loading job_of sim + n) (steps_of s seen)
        ≡ count + wait (clock_of loading job_of sim) n (shows (world_after loading sim.history) s)
    ahead : IsAhead (clock_of loading job_of sim) (shows (world_after loading sim.history) s)
    turn : AreInTurn (clock_of loading job_of sim) (steps_of s seen)

  -- the view when this many ticks have passed
  shown_ticks : (j : ℕ) (w : World LoadJob) → shows (ticks j w) s ≡ passed w.now j (shows w s)
  shown_ticks zero w = ap (λ v. shows v s) (ticks_none w)
  shown_ticks (suc j) w = ap (λ v. shows v s) (ticks_some (suc j) w (omega arith)) ∙ shown_jump s (suc j) w

  module _ (sim : Simulation LoadJob) (m : Move) (seen : List Seen) (count : ℕ) (old : Reckons sim seen count) where
    abbrev w : World LoadJob
    w = world_after loading sim.history

    abbrev v : World LoadJob
    v = world_after loading (after_move loading job_of sim m).history

    abbrev o : Seen
    o = seen_of loading job_of sim m

    abbrev own : List Seen
    own = steps_of s seen

    -- after a step of its own
    after_own : (k : ℕ) → v.now ≡ w.now + k → IsAhead v.now (shows v s) → IsOwn s w v o (is_charge_of s m)
        → Reckons (after_move loading job_of sim m) (seen_of loading job_of sim m ∷ seen) (count + count_ticks (waits_in sim m s) w.now k)
    after_own k clock ahead h =
        let none : count_ticks (waits_in sim m s) w.now k ≡ 0 = count_none (waits_in sim m s) w.now k (λ i from to. h.none i from (omega arith)) in
        let z : w.now + 0 ≡ w.now = omega arith in
        let e : throttled (w.now + 0) own ≡ count = omega (arith, old.so_far 0, wait_none w.now (shows w s)) in
        let before : throttled w.now own ≡ count = ap (λ c. throttled c own) (sym z) ∙ e in
        record {
          so_far = λ n.
              let view : waited o.view o.clock (v.now + n) ≡ wait v.now n (shows v s) =
              ap (λ x. waited x o.clock (v.now + n)) h.view ∙ waited_is v.now n (shows v s) in
              let from : throttled (begun o) own ≡ count = ap (λ c. throttled c own) h.begun ∙ before in
              let total : waited o.view o.clock (v.now + n) + throttled (begun o) own
              ≡ count + count_ticks (waits_in sim m s) w.now k + wait v.now n (shows v s) =
              omega (arith, view, from, none) in
              rw h.own total;
          ahead = ahead;
          turn = rw h.own (in_turn_later w.now (begun o) own (omega (arith, h.begun)) old.turn, omega arith);
        }

    -- after a step of another server
    after_other : (k : ℕ) → v.now ≡ w.now + k → IsAhead v.now (shows v s) → IsOther s k w v o (is_charge_of s m)
        → Reckons (after_move loading job_of sim m) (seen_of loading job_of sim m ∷ seen) (count + count_ticks (waits_in sim m s) w.now k)
    after_other k clock ahead h =
        let f = shows w s in
        let each : (j : ℕ) → 0 ≤ j → j < 0 + k → waits_in sim m s (w.now + j) ≡ is_waiting (passed w.now j f) =
        λ j from to. let e : w.now + j - w.now ≡ j = omega arith in
        ap (λ b. not b && is_waiting (shows (ticks (w.now + j - w.now) w) s)) h.charge
        ∙ (ap (λ i. is_waiting (shows (ticks i w) s)) e ∙ ap is_waiting (shown_ticks j w)) in
        let all = wait_counted w.now f old.ahead (waits_in sim m s) k 0 each in
        let z : w.now + 0 ≡ w.now = omega arith in
        let y : 0 + k ≡ k = omega arith in
        let a : count_ticks (waits_in sim m s) (w.now + 0) k ≡ wait w.now (0 + k) f = omega (arith, all, wait_none w.now f) in
        let counted : count_ticks (waits_in sim m s) w.now k ≡ wait w.now k f =
        ap (λ t. count_ticks (waits_in sim m s) t k) (sym z) ∙ (a ∙ ap (λ n. wait w.now n f) y) in
        record {
          so_far = λ n.
              let e : v.now + n ≡ w.now + (k + n) = omega arith in
              let same = ap (λ c. throttled c own) e in
              let rest : wait v.now n (shows v s) ≡ wait (w.now + k) n (passed w.now k f) =
              ap (λ c. wait c n (shows v s)) clock ∙ ap (wait (w.now + k) n) h.shown in
              let total : throttled (v.now + n) own ≡ count + count_ticks (waits_in sim m s) w.now k + wait v.now n (shows v s) =
              omega (arith, same, old.so_far (k + n), wait_more w.now k n f old.ahead, counted, rest) in
              rw h.other total;
          ahead = ahead;
          turn = rw h.other (in_turn_later w.now v.now own (omega arith) old.turn);
        }

    -- after a step of any server
    after_it : (l : Leaves s w v o (is_charge_of s m))
        → Reckons (after_move loading job_of sim m) (seen_of loading job_of sim m ∷ seen) (count + count_ticks (waits_in sim m s) w.now l.ticks)
    after_it l = elim l.sort [
      | inl h ↦ after_own l.ticks l.clock l.ahead h
      | inr h ↦ after_other l.ticks l.clock l.ahead h
    ]

  -- the same up to the end, after these moves more
  record Reckoned (until : ℕ) (sim : Simulation LoadJob) (ms : List Move) (seen : List Seen) (count : ℕ) : Type 0 where
    soon : clock_of loading job_of sim ≤ until
    ticks : throttled until (steps_of s (shown loading job_of sim ms seen))
        ≡ count + count_ticks (waits_at sim ms s) (clock_of loading job_of sim) (until - clock_of loading job_of sim)
    turn : AreInTurn until (steps_of s (shown loading job_of sim ms seen))

  reckoned : (until : ℕ) (sim : Simulation LoadJob) (ms : List Move) (seen : List Seen) (count : ℕ) → s < length sim.history.setup.servers
      → Reckons sim seen count → AllMoves loading job_of (IsGranted loading job_of) sim ms → clock_of loading job_of (after_moves loading job_of sim ms) ≡ until
      → Reckoned until sim ms seen count
  reckoned until sim [] seen count lt old granted end =
      let c = clock_of loading job_of sim in
      let own = steps_of s seen in
      let z : until - c ≡ 0 = omega arith in
      let e : until ≡ c + 0 = omega arith in
      let same = ap (λ t. throttled t own) e in
      let none : count_ticks (waits_at sim [] s) c (until - c) ≡ 0 = rw z refl in
      record {
        soon = omega arith;
        ticks = omega (arith, same, old.so_far 0, wait_none c (shows (world_after loading sim.history) s), none);
        turn = in_turn_later c until own (omega arith) old.turn;
      }
  reckoned until sim (m ∷ ms) seen count lt old granted end =
      let c = clock_of loading job_of sim in
      let next = after_move loading job_of sim m in
      let d = clock_of loading job_of next in
      let there : s < length (world_after loading sim.history).accounts = omega (arith, counted sim.history) in
      let l = leaves sim m granted.0 there old.ahead in
      let k = l.ticks in
      let clock : d ≡ c + k = l.clock in
      let rest = reckoned until next ms (seen_of loading job_of sim m ∷ seen) (count + count_ticks (waits_in sim m s) c k) lt
      (after_it sim m seen count old l) granted.1 end in
      let le = rest.soon in
      let split : until - c ≡ k + (until - d) = omega arith in
      let all = ap (count_ticks (waits_at sim (m ∷ ms) s) c) split ∙ count_split (waits_at sim (m ∷ ms) s) c k (until - d) in
      let first : count_ticks (waits_at sim (m ∷ ms) s) c k ≡ count_ticks (waits_in sim m s) c k =
      count_same (waits_at sim (m ∷ ms) s) (waits_in sim m s) c k (λ i from to. let t : ltb i d ≡ true = grind (arith, nat_tests) in rw t refl) in
      let then_ : count_ticks (waits_at sim (m ∷ ms) s) d (until - d) ≡ count_ticks (waits_at next ms s) d (until - d) =
      count_same (waits_at sim (m ∷ ms) s) (waits_at next ms s) d (until - d) (λ i from to. let f : ltb i d ≡ false = grind (arith, nat_tests) in rw f refl) in
      let from = ap (λ t. count_ticks (waits_at sim (m ∷ ms) s) t (until - d)) clock in
      record { soon = omega arith; ticks = omega (arith, rest.ticks, all, first, then_, from); turn = rest.turn }

-- no server waits at the start
at_start : (ts : List Terms) (s : ℕ)
    → (let f = face_of loading (account (map new_account ts) s) in (is_waiting f ≡ false) × IsAhead 0 f)
at_start [] s = (refl, λ e. cc)
at_start (t ∷ ts) zero = (refl, λ e. cc)
at_start (t ∷ ts) (suc s) = at_start ts s

-- a simulation whose charges are granted, and which ends at a tick
pub record IsWhole (until : ℕ) (sim : Simulation LoadJob) : Type 0 where
  pub granted : AllMoves loading job_of (IsGranted loading job_of) sim (moves_of loading job_of until sim)
  pub ends : clock_of loading job_of (after_moves loading job_of sim (moves_of loading job_of until sim)) ≡ until

all_granted : (until : ℕ) (sim : Simulation LoadJob) (ms : List Move) → AllMoves loading job_of (ChargesOwed loading job_of until) sim ms
    → AllMoves loading job_of (IsGranted loading job_of) sim ms
all_granted until sim [] charges = tt
all_granted until sim (m ∷ ms) charges = (charges.0.granted, all_granted until (after_move loading job_of sim m) ms charges.1)

-- each simulation that a core made is such a one
pub whole_if_made : {S : Type 0} (saw : S → S → List Seen → Type 0) (until : ℕ) (sim : Simulation LoadJob) (new : CoreHeld LoadJob) (w v : S)
    → Simulates loading job_of until saw sim new w v → IsWhole until sim
whole_if_made saw until sim new w v made = record {
  granted = all_granted until sim (moves_of loading job_of until sim) made.charges;
  ends = sym made.state.world.clock ∙ made.clock;
}

-- a simulation is that of the load with its servers and releases
pub whole_of : (f : LoadFile) (modes : List Mode) (plan : Planned) (backlog until : ℕ) (coming : List Release)
    → modes ≡ f.modes → plan ≡ f.plan → backlog ≡ f.backlog → until ≡ f.until → coming ≡ releases_of f
    → IsWhole until (simulation modes plan backlog coming) → IsWhole f.until (start_of f)
whole_of f modes plan backlog until coming a b c d e whole = rw (a, b, c, d, e) at whole

-- all is reckoned up to the end of a load
reckoned_of : (f : LoadFile) → length f.modes ≡ length f.plan.rates → IsWhole f.until (start_of f) → (s : ℕ) → s < length f.plan.rates
    → Reckoned s f.until (start_of f) (moves_of loading job_of f.until (start_of f)) [] 0
reckoned_of f moded whole s lt =
    let sim = start_of f in
    let w = world_after loading sim.history in
    let start = at_start sim.history.setup.servers s in
    let there : s < length sim.history.setup.servers = omega (arith, as_many f.modes f.plan.rates moded) in
    let old : Reckons s sim [] 0 = record {
      so_far = λ n. let none : wait 0 n (shows w s) ≡ 0 = rw (start.0) refl in omega (arith, none);
      ahead = start.1;
      turn = tt;
    } in
    reckoned s f.until sim (moves_of loading job_of f.until sim) [] 0 there old whole.granted whole.ends

-- the throttled ticks that are computed from a server's own steps are those in which it is throttled and has a job
pub throttled_is : (f : LoadFile) → length f.modes ≡ length f.plan.rates → IsWhole f.until (start_of f) → AreThrottled f
throttled_is f moded whole s lt =
    let sim = start_of f in
    let all = reckoned_of f moded whole s lt in
    let z : f.until - 0 ≡ f.until = omega arith in
    let same = ap (count_ticks (waits_at sim (moves_of loading job_of f.until sim) s) 0) z in
    omega (arith, all.ticks, same)

-- the steps of each server took their ticks one after another
pub in_order : (f : LoadFile) → length f.modes ≡ length f.plan.rates → IsWhole f.until (start_of f) → AreInOrder (run_of f)
in_order f moded whole s lt = (reckoned_of f moded whole s lt).turn
