-- Calls of a pacer, one after another, make moves of which some are measured units.
use Rattle.std.proofs.Common.{◌≡◌, ◌≢◌, ◌≤◌, ◌<◌, ◌+◌, ◌-◌, ℕ, zero, suc, Bool, true, false, eqb, leb, ltb, List, [], ◌∷◌, ◌++◌, length, get_or, Option, Some, None, refl, ap, sym, ◌∙◌, arith, inl, inr, subst}
use Rattle.std.specs.Prelude.{if◌then◌else◌, slice_set, slice_index, replicate}
use Rattle.std.proofs.lemmas.Bool.{cases_lt, cases_eq, false≢true}
use Rattle.std.proofs.lemmas.Bool.Decides.{nat_tests}
use Rattle.std.proofs.lemmas.List.{append_assoc, get_or_past, get_or-set_same, get_or-set_other}
use Rattle.cbs_job.specs.Work.{Meaning}
use Rattle.cbs_job.specs.declared.work.Work.{Ghosts}
use Rattle.cbs_rules.specs.Rules.{clock_end}
use Rattle.cbs_steps.specs.Accounts.{Account, no_account}
use Rattle.cbs_steps.specs.Continuations.{◌⊕⊕◌}
use Rattle.cbs_steps.specs.History.{World, Setup, History, ◌⊕◌, account, after, chosen, runner, after_run, run_reply}
use Rattle.cbs_steps.specs.Quiet.{IsQuietAdvance, AdvanceQuietly}
use Rattle.cbs_steps.specs.declared.reply.Ran.{Ran}
use Rattle.cbs_steps.specs.declared.reply.Ran.TheVariants as ran
use Rattle.cbs_steps.specs.declared.reply.Reply.TheVariants as reply
use Rattle.cbs_steps.specs.declared.step.Step.{Step}
use Rattle.cbs_steps.specs.declared.step.Step.TheVariants as step
use Rattle.cbs_steps.proofs.Histories.{runner_ready}
use Rattle.cbs_steps.proofs.Running.{runs_run, not_refused}
use Rattle.cbs_core.specs.Agreement.{Agrees}
use Rattle.cbs_core.specs.Held.{CoreHeld, is_running}
use Rattle.cbs_clients.specs.declared.house.House.{House}
use Rattle.cbs_clients.specs.Houses.{core_of, Made}
use Rattle.cbs_clients.specs.Meters.{charge_steps}
use Rattle.cbs_clients.specs.Turns.{ArePolls}
use Rattle.cbs_pace.specs.declared.rounding.Rounding.{Rounding}
use Rattle.cbs_pace.specs.Units.{charge_of, carried_of, rounding_of}
use Rattle.cbs_pace.specs.Ledgers.{Ledger, new_ledger}
use Rattle.cbs_pace.specs.Paces.{Pacing, IsPacing, carried_at, unit_charge, behind_of, pacing_begun, pacing_with_behind, pacing_with_charge, pacing_with_unit}
use Rattle.cbs_pace.specs.declared.counts.Counts.{Counts}
use Rattle.cbs_pacer.specs.declared.pacer.Pacer.{Pacer}
use Rattle.cbs_pacer.specs.declared.next.Next.{Next}
use Rattle.cbs_pacer.specs.declared.next.Next.TheVariants as next
use Rattle.cbs_pacer.specs.Paced.{Paced, doing_of, pace_paid, PaysUnit, Answers, Does, Prepares, Paces, server_ran}
use Rattle.cbs_pacer.specs.Timed.{Timed, Makes, Works, ledger_of, next_charge, steps_of, AreTimed, IsTimed, ClockHolds, GoesOnInTime, ledger_after}
use Rattle.cbs_pacer.proofs.Ahead.{paid_tick}
use Rattle.cbs_pacer.proofs.Units.{ready_there, ran_of_chosen}

module _ {W : Type 0} (work : Meaning W) (setup : Setup) where
  history : List (Step W) → History W
  history xs = record { setup = setup; steps = xs }

  -- each of the steps, made after ys, advances quietly
  abbrev AreQuietSteps : List (Step W) → List (Step W) → Type 0
  AreQuietSteps ys [] = Unit {0}
  AreQuietSteps ys (x ∷ xs) = IsQuietAdvance work (after work setup ys) x × AreQuietSteps (x ∷ ys) xs

  polls_quiet : (first n : ℕ) (ys xs : List (Step W)) → ArePolls first n xs → AreQuietSteps ys xs
  polls_quiet first n ys [] p = tt
  polls_quiet first n ys (step.Submit s job ∷ xs) p = (tt, polls_quiet (s + 1) n (step.Submit s job ∷ ys) xs p.2)
  polls_quiet first n ys (step.Close s ∷ xs) p = (tt, polls_quiet (s + 1) n (step.Close s ∷ ys) xs p.2)
  polls_quiet first n ys (step.Run ∷ xs) p = absurd p
  polls_quiet first n ys (step.Advance m ∷ xs) p = absurd p
  polls_quiet first n ys (step.Charge t m ∷ xs) p = absurd p

  charge_quiet : (ys : List (Step W)) (s n : ℕ) → AdvanceQuietly work setup ys → AdvanceQuietly work setup (charge_steps s n ++ ys)
  charge_quiet ys s zero h = h
  charge_quiet ys s (suc n) h = (h, tt)

  -- steps that are made, one after another, are moves
  pushed : (r : Rounding) (tick : ℕ) (N : List (Timed W)) (xs : List (Step W))
      → (K : List (Timed W)) × ((record { setup = setup; steps = steps_of r tick N }) ⊕⊕ xs ≡ record { setup = setup; steps = steps_of r tick (K ++ N) })
      × (AreTimed work setup r tick N → AreTimed work setup r tick (K ++ N))
      × ((s : ℕ) → ledger_of r tick s (K ++ N) ≡ ledger_of r tick s N)
      × (AdvanceQuietly work setup (steps_of r tick N) → AreQuietSteps (steps_of r tick N) xs → AdvanceQuietly work setup (steps_of r tick (K ++ N)))
  pushed r tick N [] = ([], refl, (λ h. h), (λ s. refl), (λ h k. h))
  pushed r tick N (x ∷ xs) =
      let h = pushed r tick (Makes x ∷ N) xs in
      let e : h.0 ++ Makes x ∷ N ≡ (h.0 ++ Makes x ∷ []) ++ N = sym (append_assoc h.0 (Makes x ∷ []) N) in (
        h.0 ++ Makes x ∷ [],
        rw (← e) h.1,
        (λ t. rw (← e) (h.2 t)),
        (λ s. rw (← e) (h.3 s)),
        (λ q k. rw (← e) (h.4 (q, k.0) k.1)),
      )

  -- a server that runs is there
  running_there : (w : World W) (s : ℕ) → (account w.accounts s).runs ≡ true → s < length w.accounts
  running_there w s runs = elim (cases_lt s (length w.accounts)) [
    | inl lt ↦ lt
    | inr ge ↦
        let none : account w.accounts s ≡ no_account = get_or_past w.accounts s no_account ge in
        absurd (false≢true (sym (ap (λ (a : Account W). a.runs) none) ∙ runs))
  ]

  -- charges, pushed one by one
  pushed_charge : (ys : List (Step W)) (s n : ℕ) → (record { setup = setup; steps = ys }) ⊕⊕ charge_steps s n ≡ record { setup = setup; steps = charge_steps s n ++ ys }
  pushed_charge ys s zero = refl
  pushed_charge ys s (suc n) = refl

  -- the server that got a unit was the runner
  ran_runner : (w : World W) (o : Option ℕ) (told : Ran) (s : ℕ) → chosen work w ≡ o → told ≡ run_reply work w o → server_ran told ≡ Some s → runner work w ≡ Some s
  ran_runner w None told s e is whose = let k : None ≡ Some s = sym (ap server_ran is) ∙ whose in absurd (cc)
  ran_runner w (Some t) told s e is whose = elim (cases_lt w.now clock_end) [
    | inl lt ↦
        let k : t ≡ s = ran_of_chosen (leb clock_end w.now) _ _ t _ s refl (sym (ap server_ran is) ∙ whose) in
        let y : ltb w.now clock_end ≡ true = grind (arith, nat_tests) in rw (y, e) (ap Some k)
    | inr ge ↦
        let y : leb clock_end w.now ≡ true = grind (arith, nat_tests) in
        let r : run_reply work w (Some t) ≡ ran.ClockEnd = rw y refl in
        let k : None ≡ Some s = sym (ap server_ran (is ∙ r)) ∙ whose in absurd (cc)
  ]

module _ {W : Type 0} (work : Meaning W) (setup : Setup) where
  -- two paces that differ at most in what was counted
  abbrev IsSamePace : Pacing → Pacing → Type 0
  IsSamePace p q = q ≡ record p { counts = q.counts }

  counted_else : (p q : Pacing) (c : Counts) → q ≡ record p { counts = c } → IsSamePace p q
  counted_else p q c e = rw e refl

  -- what was counted is nothing to it
  same_timed : (p q : Pacing) (doing : Option ℕ) (core : CoreHeld W) (N : List (Timed W)) → IsSamePace p q → IsTimed work setup p doing core N
      → IsTimed work setup q doing core N
  same_timed p q doing core N same t = rw same (record { agrees = t.agrees; quiet = t.quiet; timed = t.timed; begun = t.begun; carried = t.carried })

  -- a unit begins before the clock's end
  runner_early : (w : World W) (s : ℕ) → runner work w ≡ Some s → w.now < clock_end
  runner_early w s e = elim (cases_lt w.now clock_end) [
    | inl lt ↦ lt
    | inr ge ↦ let f : ltb w.now clock_end ≡ false = grind (arith, nat_tests) in let k : None ≡ Some s = rw f at e in absurd (cc)
  ]

-- what is paid leaves how overruns are charged
paid_carries : (doing : Option ℕ) (p : Pacing) (took ticks : ℕ) → (pace_paid doing p took ticks).carries ≡ p.carries
paid_carries None p took ticks = refl
paid_carries (Some s) p took ticks = refl

-- what a server carries, after one of these was changed
carried_same : (xs : List ℕ) (s v : ℕ) → s < length xs → slice_index (slice_set xs s v) s ≡ v
carried_same xs s v lt = get_or-set_same xs s v 0 lt

carried_other : (xs : List ℕ) (s t v : ℕ) → t ≢ s → slice_index (slice_set xs s v) t ≡ slice_index xs t
carried_other xs s t v ne = get_or-set_other xs s t v 0 ne

module _ {W A : Type 0} {g : Ghosts W} (setup : Setup) where
  -- steps that are made while no unit is being done
  made_timed : (p : Pacing) (old new : House W A g) (xs : List (Step W)) (N : List (Timed W)) → Made g.meaning old new xs
      → AreQuietSteps g.meaning setup (steps_of (rounding_of p.carries) p.tick N) xs → IsTimed g.meaning setup p None (core_of old) N → (K : List (Timed W)) × IsTimed g.meaning setup p None (core_of new) (K ++ N)
      × ((s : ℕ) → ledger_of (rounding_of p.carries) p.tick s (K ++ N) ≡ ledger_of (rounding_of p.carries) p.tick s N)
  made_timed p old new xs N made quiet t =
      let r = rounding_of p.carries in
      let h = pushed g.meaning setup r p.tick N xs in (
        h.0,
        record {
          agrees = subst (λ (M : History W). Agrees g.meaning (core_of new) M) h.1 (made.steps (record { setup = setup; steps = steps_of r p.tick N }) t.agrees);
          quiet = h.4 t.quiet quiet;
          timed = h.2 t.timed;
          begun = tt;
          carried = λ s lt. t.carried s lt ∙ sym (ap (λ (l : Ledger). l.carried) (h.3 s));
        },
        h.3,
      )

  -- the unit that was being done is a measured unit, once it is paid for
  unit_timed : (p : Pacing) (s took : ℕ) (old new : House W A g) (q : Pacing) (N : List (Timed W)) → IsPacing p → s < 64
      → PaysUnit g.meaning took (Some s) p old new q → ClockHolds (Some s) p took (core_of old).clock → IsTimed g.meaning setup p (Some s) (core_of old) N
      → IsTimed g.meaning setup (pacing_with_unit p s took) None (core_of new) (Works s took ∷ N)
  unit_timed p s took old new q N lawful few pays holds t =
      let work = g.meaning in
      let r = rounding_of p.carries in
      let ys = steps_of r p.tick N in
      let w = after work setup ys in
      let v = after work setup (step.Run ∷ ys) in
      let lt = ready_there work w s (runner_ready work w s t.begun) in
      let is : v ≡ after_run w (Some s) = ap (after_run w) t.begun in
      let own : eqb s s ≡ true = grind (arith, nat_tests) in
      let runs : (account v.accounts s).runs ≡ true = ap (λ (x : World W). (account x.accounts s).runs) is ∙ (runs_run w s s lt ∙ own) in
      let still : is_running (core_of old) s ≡ true = sym (t.agrees.world.runs s) ∙ runs in
      let full = pays.in_full still in
      let same : unit_charge p s took ≡ next_charge r p.tick N s took = ap (λ (x : ℕ). charge_of r p.tick x took) (t.carried s few) in
      let n : pays.ticks ≡ next_charge r p.tick N s took = omega (arith, full, same, holds) in
      let clock = t.agrees.world.clock in
      let early = runner_early work setup w s t.begun in
      let later : v.now ≡ w.now + 1 = ap (λ (x : World W). x.now) is in
      let within : v.now + next_charge r p.tick N s took ≤ clock_end = omega (arith, clock, same, holds, early, later) in
      record {
        agrees = subst (λ (M : History W). Agrees work (core_of new) M) (pushed_charge work setup (step.Run ∷ ys) s (next_charge r p.tick N s took))
            (subst (λ (m : ℕ). Agrees work (core_of new) ((record { setup = setup; steps = step.Run ∷ ys }) ⊕⊕ charge_steps s m)) n
            (pays.made.steps (record { setup = setup; steps = step.Run ∷ ys }) t.agrees));
        quiet = charge_quiet work setup (step.Run ∷ ys) s (next_charge r p.tick N s took) t.quiet;
        timed = (t.timed, t.begun, not_refused v s (next_charge r p.tick N s took) (running_there work setup v s runs) runs within);
        begun = tt;
        carried = λ x less. elim (cases_eq x s) [
          | inl e ↦
              let y : eqb s x ≡ true = grind (arith, nat_tests) in
              let there : s < length p.carried = omega (arith, few, lawful.servers) in
              let c = carried_same p.carried s (carried_of r p.tick (carried_at p s) took) there in
              let k : carried_of r p.tick (carried_at p s) took ≡ carried_of r p.tick (ledger_of r p.tick x N).carried took =
              ap (λ (z : ℕ). carried_of r p.tick z took) (t.carried s few ∙ ap (λ (z : ℕ). (ledger_of r p.tick z N).carried) (sym e)) in
              rw y (ap (λ (z : ℕ). slice_index (pacing_with_unit p s took).carried z) e ∙ (c ∙ k))
          | inr ne ↦
              let y : eqb s x ≡ false = grind (arith, nat_tests) in
              rw y (carried_other p.carried s x (carried_of r p.tick (carried_at p s) took) ne ∙ t.carried x less)
        ];
      }

  -- so a payment makes moves
  pays_timed : (p : Pacing) (doing : Option ℕ) (took : ℕ) (old new : House W A g) (q : Pacing) (N : List (Timed W)) → IsPacing p
      → ((s : ℕ) → doing ≡ Some s → s < 64)
      → PaysUnit g.meaning took doing p old new q → ClockHolds doing p took (core_of old).clock → IsTimed g.meaning setup p doing (core_of old) N
      → (K : List (Timed W)) × IsTimed g.meaning setup q None (core_of new) (K ++ N) × ((s : ℕ) → ledger_of (rounding_of p.carries) p.tick s (K ++ N) ≡ ledger_after doing (rounding_of p.carries) p.tick took s (ledger_of (rounding_of p.carries) p.tick s N))
  pays_timed p None took old new q N lawful few pays holds t =
      let h = made_timed p old new [] N pays.made tt t in (h.0, rw pays.pace h.1, h.2)
  pays_timed p (Some s) took old new q N lawful few pays holds t =
      let u = pacing_with_unit p s took in
      let same = counted_else g.meaning setup u q (pacing_with_charge pays.ticks u).counts pays.pace in (
        Works s took ∷ [],
        same_timed g.meaning setup u q None (core_of new) (Works s took ∷ N) same (unit_timed p s took old new q N lawful (few s refl) pays holds t),
        (λ x. refl),
      )

  -- and so does what the host is told
  does_timed : (q : Pacing) (heard hears : Bool) (count : ℕ) (old new : House W A g) (answer : Next) (later : Option ℕ) (N : List (Timed W))
      → Does g.meaning q heard count old answer new later hears → IsTimed g.meaning setup q None (core_of old) N → IsTimed g.meaning setup q later (core_of new) N
  does_timed q heard hears count old new (next.Do told) later N d t =
      let work = g.meaning in
      let r = rounding_of q.carries in
      let ys = steps_of r q.tick N in
      let w = after work setup ys in
      let b = d.0 in
      let s = b.some.0 in
      let answer = b.run.reply (record { setup = setup; steps = ys }) t.agrees in
      let is : told ≡ run_reply work w (chosen work w) = cc in
      let runs = ran_runner work setup w (chosen work w) told s refl is b.some.1 in
      let whose : later ≡ Some s = b.server ∙ b.some.1 in
      rw whose (record {
        agrees = b.run.made.steps (record { setup = setup; steps = ys }) t.agrees;
        quiet = (t.quiet, tt);
        timed = t.timed;
        begun = runs;
        carried = t.carried;
      })
  does_timed q heard hears count old new (next.SleepUntil until) later N d t = rw (d.1, d.2) t
  does_timed q heard hears count old new next.Listen later N d t = rw (d.1, d.2) t
  does_timed q heard hears count old new (next.WaitUntil until) later N d t = rw (d.1, d.2) t
  does_timed q heard hears count old new next.Over later N d t = rw (d.1, d.2) t
  does_timed q heard hears count old new next.ClockEnd later N d t = rw (d.1, d.2) t
  does_timed q heard hears count old new next.OutOfMemory later N d t = absurd d

  answers_timed : (lacks : Bool) (q : Pacing) (heard hears : Bool) (count : ℕ) (old new : House W A g) (answer : Next) (later : Option ℕ) (N : List (Timed W))
      → Answers lacks g.meaning q heard count old answer new later hears → IsTimed g.meaning setup q None (core_of old) N
      → IsTimed g.meaning setup q later (core_of new) N
  answers_timed true q heard hears count old new answer later N d t = rw (d.1, d.2) t
  answers_timed false q heard hears count old new answer later N d t = does_timed q heard hears count old new answer later N d t

  -- a call makes moves
  prepares_timed : (took : ℕ) (doing : Option ℕ) (p q : Pacing) (old new : House W A g) (count : ℕ) (lacks : Bool) (N : List (Timed W)) → IsPacing p
      → ((s : ℕ) → doing ≡ Some s → s < 64) → Prepares g.meaning took doing p old new q count lacks
      → ClockHolds doing p took (core_of old).clock → IsTimed g.meaning setup p doing (core_of old) N
      → (K : List (Timed W)) × IsTimed g.meaning setup q None (core_of new) (K ++ N)
      × ((s : ℕ) → ledger_of (rounding_of p.carries) p.tick s (K ++ N) ≡ ledger_after doing (rounding_of p.carries) p.tick took s (ledger_of (rounding_of p.carries) p.tick s N))
  prepares_timed took doing p q old new count lacks N lawful few h holds t =
      let a = pays_timed p doing took old h.paid h.after N lawful few h.pays holds t in
      let b = made_timed h.after h.paid h.caught_up (step.Advance h.passes.ticks ∷ []) (a.0 ++ N) h.passes.made
      ((λ within. h.passes.quiet (record { setup = setup; steps = steps_of (rounding_of h.after.carries) h.after.tick (a.0 ++ N) }) a.1.agrees), tt) a.1 in
      let c = made_timed h.after h.caught_up new h.polls.polls (b.0 ++ (a.0 ++ N)) h.polls.made
      (polls_quiet g.meaning setup 0 (length (core_of h.caught_up).faces) (steps_of (rounding_of h.after.carries) h.after.tick (b.0 ++ (a.0 ++ N))) h.polls.polls h.polls.each) b.1 in
      let tick : h.after.tick ≡ p.tick = ap (λ (x : Pacing). x.tick) h.pays.pace ∙ paid_tick doing p took h.pays.ticks in
      let carries : h.after.carries ≡ p.carries = ap (λ (x : Pacing). x.carries) h.pays.pace ∙ paid_carries doing p took h.pays.ticks in
      let moved : (x : ℕ) (xs ys : List (Timed W)) → ledger_of (rounding_of h.after.carries) h.after.tick x (xs ++ ys) ≡ ledger_of (rounding_of h.after.carries) h.after.tick x ys
      → ledger_of (rounding_of p.carries) p.tick x (xs ++ ys) ≡ ledger_of (rounding_of p.carries) p.tick x ys =
      λ x xs ys k. rw (carries, tick) at k in
      let late = behind_of h.after (core_of h.paid).clock - h.passes.ticks in
      let same = counted_else g.meaning setup h.after q (pacing_with_behind late h.after).counts h.passes.pace in
      let e : c.0 ++ (b.0 ++ (a.0 ++ N)) ≡ (c.0 ++ (b.0 ++ a.0)) ++ N =
      ap (λ (xs : List (Timed W)). c.0 ++ xs) (sym (append_assoc b.0 a.0 N)) ∙ sym (append_assoc c.0 (b.0 ++ a.0) N) in (
        c.0 ++ (b.0 ++ a.0),
        subst (λ (xs : List (Timed W)). IsTimed g.meaning setup q None (core_of new) xs) e (same_timed g.meaning setup h.after q None (core_of new) (c.0 ++ (b.0 ++ (a.0 ++ N))) same c.1),
        (λ x. ap (λ (xs : List (Timed W)). ledger_of (rounding_of p.carries) p.tick x xs) (sym e) ∙ (moved x c.0 (b.0 ++ (a.0 ++ N)) (c.2 x) ∙ (moved x b.0 (a.0 ++ N) (b.2 x) ∙ a.2 x))),
      )

-- so the end of a unit goes on in time, and so does each question
pub ends_timed : {W A : Type 0} {g : Ghosts W} (took : ℕ) (p q : Paced) (old new : House W A g) → IsPacing p.pace
    → ((s : ℕ) → p.doing ≡ Some s → s < 64) → PaysUnit g.meaning took p.doing p.pace old new q.pace → q.doing ≡ None
    → GoesOnInTime g.meaning took p (core_of old) (core_of new) q
ends_timed took p q old new lawful few pays none setup N holds t =
    rw none (pays_timed setup p.pace p.doing took old new q.pace N lawful few pays holds t)

pub paces_timed : {W A : Type 0} {g : Ghosts W} (took : ℕ) (p q : Paced) (old new : House W A g) (answer : Next) → IsPacing p.pace
    → ((s : ℕ) → p.doing ≡ Some s → s < 64) → Paces g.meaning took p old answer new q
    → GoesOnInTime g.meaning took p (core_of old) (core_of new) q
paces_timed took p q old new answer lawful few h setup N holds t =
    let a = prepares_timed setup took p.doing p.pace q.pace old h.between q.taken h.out_of_memory N lawful few h.prepares holds t in
    (a.0, answers_timed setup h.out_of_memory q.pace p.listens q.listens q.taken h.between new answer q.doing (a.0 ++ N) h.answers a.1, a.2)

-- the server whose unit is being done is one of 64
few_doing : (does : Bool) (server s : ℕ) → server < 64 → (if does then Some server else None) ≡ Some s → s < 64
few_doing true server s lt e = let k : server ≡ s = cc in omega arith
few_doing false server s lt e = absurd (cc)

pub doing_few : (p : Pacer) → p.server < 64 → (s : ℕ) → doing_of p ≡ Some s → s < 64
doing_few p lt s e = few_doing p.does p.server s lt e

-- a list of zeros has no other number at any place
zeros : (z n s : ℕ) → get_or (replicate n z) s z ≡ z
zeros z zero s = refl
zeros z (suc n) zero = refl
zeros z (suc n) (suc s) = zeros z n s

-- before the first unit a house has made what it has made, and no unit was measured
module _ {W : Type 0} where
  unmeasured : (r : Rounding) (tick : ℕ) (xs : List (Step W)) → (N : List (Timed W)) × (steps_of r tick N ≡ xs) × ((work : Meaning W) (setup : Setup) → AreTimed work setup r tick N)
      × ((s : ℕ) → ledger_of r tick s N ≡ new_ledger)
  unmeasured r tick [] = ([], refl, (λ work setup. tt), (λ s. refl))
  unmeasured r tick (x ∷ xs) =
      let h = unmeasured r tick xs in (Makes x ∷ h.0, ap (λ (ys : List (Step W)). x ∷ ys) h.1, h.2, h.3)

  pub begun_timed : (work : Meaning W) (setup : Setup) (core : CoreHeld W) (xs : List (Step W)) (tick now reading : ℕ) (r : Rounding)
      → Agrees work core (record { setup = setup; steps = xs }) → AdvanceQuietly work setup xs
      → (N : List (Timed W)) × IsTimed work setup (pacing_begun tick r now reading) None core N
  begun_timed work setup core xs tick now reading r agrees quiet =
      let h = unmeasured (rounding_of (pacing_begun tick r now reading).carries) tick xs in (
        h.0,
        record {
          agrees = rw h.1 agrees;
          quiet = rw h.1 quiet;
          timed = h.2 work setup;
          begun = tt;
          carried = λ s lt. zeros 0 64 s ∙ sym (ap (λ (l : Ledger). l.carried) (h.3 s));
        },
      )
