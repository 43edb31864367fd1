-- The server that got a unit is there.
use Rattle.std.proofs.Common.{◌≡◌, ◌<◌, ℕ, Bool, true, false, leb, ltb, if◌then◌else◌, length, Option, Some, None, refl, ap, sym, ◌∙◌, arith, inl, inr}
use Rattle.std.proofs.lemmas.Bool.{cases_lt, cases_Bool, false≢true}
use Rattle.std.proofs.lemmas.Bool.Decides.{nat_tests}
use Rattle.std.proofs.lemmas.List.{get_or_past, length-map}
use Rattle.cbs_job.specs.Work.{Meaning}
use Rattle.cbs_job.specs.declared.work.Work.{Ghosts}
use Rattle.cbs_job.specs.declared.completion.Completion.{Completion}
use Rattle.cbs_rules.specs.Rules.{clock_end}
use Rattle.cbs_steps.specs.Accounts.{Account, face_of, no_account}
use Rattle.cbs_steps.specs.Faces.{is_ready}
use Rattle.cbs_steps.specs.History.{World, History, account, faces, chosen, runner, after_run, next, run_reply, world_after, reply_in}
use Rattle.cbs_steps.specs.declared.reply.Ran.{Ran}
use Rattle.cbs_steps.specs.declared.reply.Ran.TheVariants as ran
use Rattle.cbs_steps.specs.declared.reply.Reply.TheVariants as reply
use Rattle.cbs_steps.specs.declared.step.Step.TheVariants.{Run}
use Rattle.cbs_steps.specs.Quiet.{IsAtRest}
use Rattle.cbs_steps.proofs.Histories.{chosen_is_ready}
use Rattle.cbs_steps.proofs.Laws.{run_later}
use Rattle.cbs_core.specs.Agreement.{Agrees}
use Rattle.cbs_clients.specs.declared.house.House.{House}
use Rattle.cbs_clients.specs.HouseInvariant.{Housed}
use Rattle.cbs_clients.specs.Houses.{core_of}
use Rattle.cbs_pacer.specs.Paced.{server_ran}

-- whose unit it was
pub ran_of_chosen : (stopped last : Bool) (d : Completion) (t q s : ℕ) → d.server ≡ t
    → server_ran (if stopped then ran.ClockEnd else (if last then ran.Done d else ran.Unit t q)) ≡ Some s → t ≡ s
ran_of_chosen true last d t q s e is = absurd (cc)
ran_of_chosen false true d t q s e is = cc
ran_of_chosen false false d t q s e is = cc

module _ {W : Type 0} (work : Meaning W) where
  pub ready_there : (w : World W) (s : ℕ) → is_ready (face_of work (account w.accounts s)) ≡ true → s < length w.accounts
  ready_there w s ready = elim (cases_lt s (length w.accounts)) [
    | inl lt ↦ lt
    | inr ge ↦
        let none : account w.accounts s ≡ no_account = get_or_past w.accounts s no_account ge in
        let idle : is_ready (face_of work no_account) ≡ true = sym (ap (λ (a : Account W). is_ready (face_of work a)) none) ∙ ready in
        absurd (false≢true idle)
  ]

  ran_there : (w : World W) (o : Option ℕ) (told : Ran) (s : ℕ) → chosen work w ≡ o → told ≡ run_reply work w o → server_ran told ≡ Some s → s < length w.accounts
  ran_there w None told s e is whose = let k : None ≡ Some s = sym (ap server_ran is) ∙ whose in absurd (cc)
  ran_there w (Some t) told s e is whose =
      let k : t ≡ s = ran_of_chosen (leb clock_end w.now) _ _ t _ s refl (sym (ap server_ran is) ∙ whose) in
      ready_there w s (chosen_is_ready work w s (e ∙ ap Some k))

module _ {W A : Type 0} {g : Ghosts W} (work : Meaning W) where
  pub unit_there : (h : House W A g) → Housed work h.core h.rings h.collector → (told : Ran) (s : ℕ) → server_ran told ≡ Some s
      → ((M : History W) → Agrees work (core_of h) M → reply.Ran told ≡ reply_in work M Run) → s < length (core_of h).faces
  unit_there h housed told s whose answer = elim (cases_lt s (length (core_of h).faces)) [
    | inl lt ↦ lt
    | inr ge ↦ absurd (housed.history (λ M agrees.
        let w = world_after work M in
        let is : told ≡ run_reply work w (chosen work w) = let e = answer M agrees in cc in
        let lt = ran_there work w (chosen work w) told s refl is whose in
        let count : length (core_of h).faces ≡ length w.accounts = ap length agrees.world.shown ∙ length-map w.accounts (face_of work) in
        absurd (omega (arith, lt, count, ge))))
  ]

-- a run that is not stopped at the clock's end names a server
ran_some : (stopped last : Bool) (d : Completion) (t q : ℕ) → stopped ≡ false
    → server_ran (if stopped then ran.ClockEnd else (if last then ran.Done d else ran.Unit t q)) ≡ None → ⊥
ran_some true last d t q e none = absurd (cc)
ran_some false true d t q e none = absurd (cc)
ran_some false false d t q e none = absurd (cc)

module _ {W : Type 0} (work : Meaning W) where
  -- with nobody chosen a run does nothing
  runs_none : (backlog : ℕ) (w : World W) → chosen work w ≡ None → next work backlog w Run ≡ w
  runs_none backlog w e = elim (cases_Bool (ltb w.now clock_end)) [
    | inl t ↦ let r : runner work w ≡ None = rw t e in ap (after_run w) r
    | inr f ↦ let r : runner work w ≡ None = rw f refl in ap (after_run w) r
  ]

  ran_no_server : (backlog : ℕ) (w : World W) (o : Option ℕ) (told : Ran) → chosen work w ≡ o → ¬ IsAtRest work w → w.now < clock_end
      → told ≡ run_reply work w o → server_ran told ≡ None → ⊥
  ran_no_server backlog w None told e busy early is none =
      let later = run_later work backlog w busy early in
      let same = runs_none backlog w e in
      let now : (next work backlog w Run).now ≡ w.now = ap (λ (v : World W). v.now) same in
      absurd (omega (arith, later, now))
  ran_no_server backlog w (Some t) told e busy early is none =
      let f : leb clock_end w.now ≡ false = grind (arith, nat_tests) in
      ran_some (leb clock_end w.now) _ _ t _ f (sym (ap server_ran is) ∙ none)

module _ {W A : Type 0} {g : Ghosts W} (work : Meaning W) where
  -- if somebody is ready before the clock's end, a run gives somebody a unit
  pub unit_told : (h : House W A g) → Housed work h.core h.rings h.collector → (told : Ran)
      → ((M : History W) → Agrees work (core_of h) M → ¬ IsAtRest work (world_after work M)) → (core_of h).clock < clock_end
      → ((M : History W) → Agrees work (core_of h) M → reply.Ran told ≡ reply_in work M Run) → server_ran told ≡ None → ⊥
  unit_told h housed told busy early answer none = housed.history (λ M agrees.
      let w = world_after work M in
      let is : told ≡ run_reply work w (chosen work w) = let e = answer M agrees in cc in
      let clock = agrees.world.clock in
      let lt : w.now < clock_end = omega (arith, clock, early) in
      ran_no_server work M.setup.backlog w (chosen work w) told refl (busy M agrees) lt is none)
