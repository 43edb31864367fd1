-- What a unit is charged, and what its charge leaves.
use Rattle.std.proofs.Common.{◌≡◌, ℕ, zero, suc, ◌+◌, ◌<◌, ◌≤◌, Bool, true, false, leb, ltb, List, [], ◌∷◌, ◌++◌, length, Option, Some, None, Result, Ok, Err, IsOk}
use Rattle.std.proofs.Common.{refl, ap, sym, ◌∙◌, subst, arith, inl, inr}
use Rattle.std.specs.Prelude.{if◌then◌else◌}
use Rattle.std.proofs.lemmas.Bool.{cases_Bool, cases_eq, cases_lt, false≢true}
use Rattle.std.proofs.lemmas.Bool.Decides.{nat_tests}
use Rattle.std.proofs.lemmas.List.{get_or_past, append_assoc}
use Rattle.cbs_job.specs.Work.{Meaning}
use Rattle.cbs_job.specs.declared.completion.Completion.{Completion}
use Rattle.cbs_rules.specs.Rules.{clock_end}
use Rattle.cbs_lists.specs.Lists.{changed_at}
use Rattle.cbs_steps.specs.Accounts.{Account, face_of, no_account, account_with_charge}
use Rattle.cbs_steps.specs.Continuations.{◌⊕⊕◌, EachAllowed}
use Rattle.cbs_steps.specs.Faces.{is_ready}
use Rattle.cbs_steps.specs.History.{World, History, ◌⊕◌, account, chosen, runner, tick, ticks, after_run, after_charging, charge_refusal, next, run_reply, world_after, reply_in}
use Rattle.cbs_steps.specs.declared.error.CoreError.{CoreError}
use Rattle.cbs_steps.specs.declared.reply.Ran.{Ran}
use Rattle.cbs_steps.specs.declared.reply.Ran.TheVariants as ran
use Rattle.cbs_steps.specs.declared.reply.Reply.TheVariants as reply
use Rattle.cbs_steps.specs.declared.step.Step.{Step}
use Rattle.cbs_steps.specs.declared.step.Step.TheVariants.{Submit, Run, Advance, Close, Charge}
use Rattle.cbs_steps.proofs.Histories.{chosen_is_ready}
use Rattle.cbs_steps.proofs.Laws.{after-append, allowed-append}
use Rattle.cbs_core.specs.Agreement.{Agrees, HasHistory, Follows}
use Rattle.cbs_core.specs.Held.{CoreHeld, is_running}
use Rattle.cbs_steps.proofs.Running.{runs_run}
use Rattle.cbs_clients.specs.Errors.{charge_answer}
use Rattle.cbs_host.specs.Meters.{NeverCharges}
use Rattle.cbs_clients.specs.Meters.{ticks_charged, charge_steps, IsUnitPaid, IsRunPaid, IsMove, AreMoves, all_steps}
use Rattle.cbs_steps.specs.Quiet.{IsQuietAdvanceAfter}
use Rattle.cbs_clients.specs.Steps.{messages_of, pops}
use Rattle.cbs_clients.specs.declared.error.HouseError.{HouseError}

module _ {W : Type 0} where
  -- a charge takes no message
  pub charge_messages : (s t n : ℕ) → messages_of {W = W} s (charge_steps t n) ≡ []
  charge_messages s t zero = refl
  charge_messages s t (suc n) = refl

  charge_pops : (xs : List (Step W)) (s n : ℕ) → xs ≡ charge_steps s n → pops xs ≡ 0
  charge_pops xs s zero e = ap pops e
  charge_pops xs s (suc n) e = ap pops e

  -- what is paid for a run is the charge of some ticks to some server, or of 0 ticks
  pub paid_is : (may : ℕ → ℕ → Type 0) (start : ℕ) (told : Ran) (paid : List (Step W)) → IsRunPaid may start told paid
      → (s : ℕ) × (n : ℕ) × (paid ≡ charge_steps s n)
  paid_is may start ran.Idle paid p = (0, 0, p)
  paid_is may start ran.ClockEnd paid p = (0, 0, p)
  paid_is may start (ran.Unit s q) paid p = (s, ticks_charged start p.beyond, p.charged)
  paid_is may start (ran.Done c) paid p = (c.server, ticks_charged start p.beyond, p.charged)

  pub paid_messages : (may : ℕ → ℕ → Type 0) (start : ℕ) (told : Ran) (paid : List (Step W)) (s : ℕ) → IsRunPaid may start told paid → messages_of s paid ≡ []
  paid_messages may start told paid s p = let is = paid_is may start told paid p in ap (messages_of s) is.2 ∙ charge_messages s is.0 is.1

  pub paid_pops : (may : ℕ → ℕ → Type 0) (start : ℕ) (told : Ran) (paid : List (Step W)) → IsRunPaid may start told paid → pops paid ≡ 0
  paid_pops may start told paid p = let is = paid_is may start told paid p in charge_pops paid is.0 is.1 is.2

  charge_quiet : (work : Meaning W) (M : History W) (s n : ℕ) → EachAllowed (IsQuietAdvanceAfter work) M (charge_steps s n)
  charge_quiet work M s zero = tt
  charge_quiet work M s (suc n) = (tt, tt)

  -- what is paid for a run advances nothing
  pub paid_quiet : (work : Meaning W) (may : ℕ → ℕ → Type 0) (M : History W) (start : ℕ) (told : Ran) (paid : List (Step W)) → IsRunPaid may start told paid
      → EachAllowed (IsQuietAdvanceAfter work) M paid
  paid_quiet work may M start told paid p =
      let is = paid_is may start told paid p in subst (EachAllowed (IsQuietAdvanceAfter work) M) (sym is.2) (charge_quiet work M is.0 is.1)

  -- if a meter never charges, nothing is paid
  never_unit : (may : ℕ → ℕ → Type 0) (start s : ℕ) (paid : List (Step W)) → NeverCharges may → IsUnitPaid may start s paid → paid ≡ []
  never_unit may start s paid never p =
      let none = never s p.beyond p.told in
      let e : ticks_charged start p.beyond ≡ 0 = omega (arith, none) in
      p.charged ∙ ap (charge_steps s) e

  pub never_paid : (may : ℕ → ℕ → Type 0) (start : ℕ) (told : Ran) (paid : List (Step W)) → NeverCharges may → IsRunPaid may start told paid → paid ≡ []
  never_paid may start ran.Idle paid never p = p
  never_paid may start ran.ClockEnd paid never p = p
  never_paid may start (ran.Unit s q) paid never p = never_unit may start s paid never p
  never_paid may start (ran.Done c) paid never p = never_unit may start c.server paid never p

module _ {W : Type 0} where
  -- the steps of moves, and of more
  pub all_steps-append : (ms ns : List (List (Step W))) → all_steps (ms ++ ns) ≡ all_steps ms ++ all_steps ns
  all_steps-append [] ns = refl
  all_steps-append (m ∷ ms) ns = ap (λ (xs : List (Step W)). m ++ xs) (all_steps-append ms ns) ∙ sym (append_assoc m (all_steps ms) (all_steps ns))

  module _ (work : Meaning W) (may : ℕ → ℕ → Type 0) (P : History W → Step W → Type 0) where
    -- moves, and more of them
    pub moves-append : (M : History W) (ms ns : List (List (Step W))) → AreMoves work may P M ms → AreMoves work may P (M ⊕⊕ all_steps ms) ns
        → AreMoves work may P M (ms ++ ns)
    moves-append M [] ns p q = q
    moves-append M (m ∷ ms) ns p q = (
      p.0,
      moves-append (M ⊕⊕ m) ms ns p.1 (subst (λ (N : History W). AreMoves work may P N ns) (after-append M m (all_steps ms)) q),
    )

    -- if a meter never charges, a move is one step that is allowed
    never_move : NeverCharges may → (M : History W) (m : List (Step W)) → IsMove work may P M m → EachAllowed P M m
    never_move never M [] p = absurd p
    never_move never M (Submit s job ∷ xs) p = (p.0, subst (EachAllowed P (M ⊕ Submit s job)) (sym p.1) tt)
    never_move never M (Run ∷ paid) p = (p.0, subst (EachAllowed P (M ⊕ Run)) (sym (never_paid may (world_after work M).now p.1.told paid never p.1.pays)) tt)
    never_move never M (Advance n ∷ xs) p = (p.0, subst (EachAllowed P (M ⊕ Advance n)) (sym p.1) tt)
    never_move never M (Close s ∷ xs) p = (p.0, subst (EachAllowed P (M ⊕ Close s)) (sym p.1) tt)
    never_move never M (Charge s n ∷ xs) p = absurd p

    pub never_moves : NeverCharges may → (M : History W) (ms : List (List (Step W))) → AreMoves work may P M ms → EachAllowed P M (all_steps ms)
    never_moves never M [] p = tt
    never_moves never M (m ∷ ms) p = allowed-append P M m (all_steps ms) (never_move never M m p.0) (never_moves never (M ⊕⊕ m) ms p.1)

  module _ (work : Meaning W) (may : ℕ → ℕ → Type 0) (P Q : History W → Step W → Type 0) (w : (N : History W) (x : Step W) → P N x → Q N x) where
    -- moves that one rule allows, a weaker one does
    weaker_move : (M : History W) (m : List (Step W)) → IsMove work may P M m → IsMove work may Q M m
    weaker_move M [] p = p
    weaker_move M (Submit s job ∷ xs) p = (w M (Submit s job) p.0, p.1)
    weaker_move M (Run ∷ paid) p = (w M Run p.0, p.1)
    weaker_move M (Advance n ∷ xs) p = (w M (Advance n) p.0, p.1)
    weaker_move M (Close s ∷ xs) p = (w M (Close s) p.0, p.1)
    weaker_move M (Charge s n ∷ xs) p = p

    pub weaker_moves : (M : History W) (ms : List (List (Step W))) → AreMoves work may P M ms → AreMoves work may Q M ms
    weaker_moves M [] p = tt
    weaker_moves M (m ∷ ms) p = (weaker_move M m p.0, weaker_moves (M ⊕⊕ m) ms p.1)

  module _ (work : Meaning W) (may : ℕ → ℕ → Type 0) (P : History W → Step W → Type 0)
      (quiet : (N : History W) (n : ℕ) → P N (Advance n) → IsQuietAdvanceAfter work N (Advance n)) where
    -- moves advance quietly if the rule allows no other advance
    quiet_move : (M : History W) (m : List (Step W)) → IsMove work may P M m → EachAllowed (IsQuietAdvanceAfter work) M m
    quiet_move M [] p = absurd p
    quiet_move M (Submit s job ∷ xs) p = (tt, subst (EachAllowed (IsQuietAdvanceAfter work) (M ⊕ Submit s job)) (sym p.1) tt)
    quiet_move M (Run ∷ paid) p = (tt, paid_quiet work may (M ⊕ Run) (world_after work M).now p.1.told paid p.1.pays)
    quiet_move M (Advance n ∷ xs) p = (quiet M n p.0, subst (EachAllowed (IsQuietAdvanceAfter work) (M ⊕ Advance n)) (sym p.1) tt)
    quiet_move M (Close s ∷ xs) p = (tt, subst (EachAllowed (IsQuietAdvanceAfter work) (M ⊕ Close s)) (sym p.1) tt)
    quiet_move M (Charge s n ∷ xs) p = absurd p

    pub quiet_moves : (M : History W) (ms : List (List (Step W))) → AreMoves work may P M ms → EachAllowed (IsQuietAdvanceAfter work) M (all_steps ms)
    quiet_moves M [] p = tt
    quiet_moves M (m ∷ ms) p = allowed-append (IsQuietAdvanceAfter work) M m (all_steps ms) (quiet_move M m p.0) (quiet_moves (M ⊕⊕ m) ms p.1)

-- a run gave a unit to server s, by the run's result
abbrev pub GaveUnit : Ran → ℕ → Type 0
GaveUnit ran.Idle s = ⊥
GaveUnit ran.ClockEnd s = ⊥
GaveUnit (ran.Unit t q) s = t ≡ s
GaveUnit (ran.Done c) s = c.server ≡ s

gave : (stopped last : Bool) (d : Completion) (t q s : ℕ) (told : Ran) → d.server ≡ t → GaveUnit told s
    → told ≡ (if stopped then ran.ClockEnd else (if last then ran.Done d else ran.Unit t q)) → (stopped ≡ false) × (t ≡ s)
gave true last d t q s told e u is = absurd (subst (λ r. GaveUnit r s) is u)
gave false true d t q s told e u is = (refl, sym e ∙ subst (λ r. GaveUnit r s) is u)
gave false false d t q s told e u is = (refl, subst (λ r. GaveUnit r s) is u)

module _ {W : Type 0} (work : Meaning W) where
  -- then it was the chosen one, and the clock was not at its end
  unit_ran : (w : World W) (o : Option ℕ) (s : ℕ) (told : Ran) → GaveUnit told s → told ≡ run_reply work w o → (o ≡ Some s) × (w.now < clock_end)
  unit_ran w None s told u is = absurd (subst (λ r. GaveUnit r s) is u)
  unit_ran w (Some t) s told u is =
      let k = gave (leb clock_end w.now) _ _ t _ s told refl u is in
      let f : leb clock_end w.now ≡ false = k.0 in
      (ap Some k.1, grind (arith, nat_tests))

  -- so the run left what a unit of it leaves
  unit_next : (backlog : ℕ) (w : World W) (s : ℕ) (told : Ran) → GaveUnit told s → told ≡ run_reply work w (chosen work w)
      → next work backlog w Run ≡ after_run w (Some s)
  unit_next backlog w s told u is =
      let k = unit_ran w (chosen work w) s told u is in
      let early = k.1 in
      let t : ltb w.now clock_end ≡ true = grind (arith, nat_tests) in
      let e : runner work w ≡ Some s = rw t k.0 in
      ap (after_run w) e

  -- and it is there
  unit_there : (w : World W) (s : ℕ) (told : Ran) → GaveUnit told s → told ≡ run_reply work w (chosen work w) → s < length w.accounts
  unit_there w s told u is =
      let k = unit_ran w (chosen work w) s told u is in
      elim (cases_lt s (length w.accounts)) [
        | inl lt ↦ lt
        | inr ge ↦
            let none : account w.accounts s ≡ no_account = get_or_past w.accounts s no_account ge in
            let ready : is_ready (face_of work no_account) ≡ true =
            sym (ap (λ a. is_ready (face_of work a)) none) ∙ chosen_is_ready work w s k.0 in
            absurd (false≢true ready)
      ]

  -- a unit takes one tick, and its server runs then
  pub unit_takes : (N : History W) (s : ℕ) (told : Ran) → GaveUnit told s → reply.Ran told ≡ reply_in work N Run
      → ((world_after work (N ⊕ Run)).now ≡ (world_after work N).now + 1) × ((account (world_after work (N ⊕ Run)).accounts s).runs ≡ true)
  unit_takes N s told u answer =
      let w = world_after work N in
      let is : told ≡ run_reply work w (chosen work w) = cc in
      let e = unit_next N.setup.backlog w s told u is in
      let one = runs_run w s s (unit_there w s told u is) in
      (ap (λ (v : World W). v.now) e, ap (λ (v : World W). (account v.accounts s).runs) e ∙ (one ∙ grind (arith, nat_tests)))

module _ {W : Type 0} (work : Meaning W) (old mid : CoreHeld W) (told : Ran) (s : ℕ) (history : HasHistory work old) (follows : Follows work old mid (Run ∷ []))
    (answer : (M : History W) → Agrees work old M → reply.Ran told ≡ reply_in work M Run) (unit : GaveUnit told s) where
  -- the same of what cores hold
  pub unit_clock : mid.clock ≡ old.clock + 1
  unit_clock = elim (cases_eq mid.clock (old.clock + 1)) [
    | inl e ↦ e
    | inr ne ↦ absurd (history (λ M agrees.
        let now = (unit_takes work M s told unit (answer M agrees)).0 in
        let a = agrees.world.clock in let b = (follows M agrees).world.clock in ne (omega (arith, now, a, b))))
  ]

  pub unit_runs : is_running mid s ≡ true
  unit_runs = elim (cases_Bool (is_running mid s)) [
    | inl e ↦ e
    | inr idle ↦ absurd (history (λ M agrees.
        let runs = (unit_takes work M s told unit (answer M agrees)).1 in false≢true (sym idle ∙ (sym ((follows M agrees).world.runs s) ∙ runs))))
  ]

module _ {W : Type 0} (work : Meaning W) where
  -- a charge of the server that runs is granted, if the clock can hold it
  not_refused : (w : World W) (s n : ℕ) → (account w.accounts s).runs ≡ true → w.now + n ≤ clock_end → charge_refusal w s n ≡ None
  not_refused w s n runs within = elim (cases_lt s (length w.accounts)) [
    | inl lt ↦
        let there : leb (length w.accounts) s ≡ false = grind (arith, nat_tests) in
        let early : ltb clock_end (w.now + n) ≡ false = grind (arith, nat_tests) in
        rw (there, runs, early) refl
    | inr ge ↦
        let none : account w.accounts s ≡ no_account = get_or_past w.accounts s no_account ge in
        absurd (false≢true (sym (ap (λ (a : Account W). a.runs) none) ∙ runs))
  ]

  pub charge_granted : (core : CoreHeld W) (r : Result (Unit {0}) HouseError) (s n : ℕ) → HasHistory work core → is_running core s ≡ true
      → core.clock + n ≤ clock_end
      → ((M : History W) → Agrees work core M → r ≡ charge_answer (charge_refusal (world_after work M) s n)) → IsOk r
  charge_granted core (Ok x) s n history runs within refusal = refl
  charge_granted core (Err e) s n history runs within refusal = absurd (history (λ M agrees.
      let w = world_after work M in
      let clock = agrees.world.clock in
      let none = not_refused w s n (agrees.world.runs s ∙ runs) (omega (arith, clock, within)) in
      let is : Err e ≡ charge_answer None = refusal M agrees ∙ ap charge_answer none in cc))

  -- ticks, and charges, move the clock on
  ticks_now : (n : ℕ) (w : World W) → (ticks n w).now ≡ w.now + n
  unfolding ticks
  ticks_now zero w = omega arith
  ticks_now (suc n) w = let h = ticks_now n (tick w) in omega (arith, h)

  charging_now : (w : World W) (s n : ℕ) (o : Option CoreError) → w.now ≤ (after_charging w s n o).now
  charging_now w s zero None = omega arith
  charging_now w s (suc n) None = let e = ticks_now (suc n) (record w { accounts = changed_at (account_with_charge (suc n)) w.accounts s }) in omega (arith, e)
  charging_now w s n (Some e) = omega arith

  pub paid_now : (N : History W) (s n : ℕ) → (world_after work N).now ≤ (world_after work (N ⊕⊕ charge_steps s n)).now
  paid_now N s zero = omega arith
  paid_now N s (suc n) = charging_now (world_after work N) s (suc n) (charge_refusal (world_after work N) s (suc n))

  -- so a unit and its charge move it on
  pub unit_later : (old new : CoreHeld W) (s n : ℕ) → HasHistory work old → Follows work old new (Run ∷ charge_steps s n)
      → ((M : History W) → Agrees work old M → (world_after work M).now < (world_after work (M ⊕ Run)).now) → old.clock < new.clock
  unit_later old new s n history follows later = elim (cases_lt old.clock new.clock) [
    | inl lt ↦ lt
    | inr ge ↦ absurd (history (λ M agrees.
        let a = agrees.world.clock in
        let b = (follows M agrees).world.clock in let l = later M agrees in let m = paid_now (M ⊕ Run) s n in absurd (omega (arith, a, b, l, m, ge))))
  ]
