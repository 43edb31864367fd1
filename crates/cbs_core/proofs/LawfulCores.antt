-- What a core holds is lawful: the laws of steps hold of every history with which it agrees.
use Rattle.std.proofs.Common.{◌≡◌, ℕ, length, List, [], refl, ◌∙◌, ap, Option, Some, None}
use Rattle.cbs_job.specs.Work.{Meaning}
use Rattle.cbs_rate.specs.Rate.{IsRate, Rate}
use Rattle.cbs_steps.specs.Faces.{Face, reservations}
use Rattle.cbs_core.specs.Invariant.{IsCore}
use Rattle.cbs_steps.specs.Servers.{IsServer}
use Rattle.cbs_steps.specs.History.{History, Setup, ◌⊕◌, faces, reply_in, tick, world_after}
use Rattle.cbs_core.specs.Held.{CoreHeld, IsCoreOnTime, IsCorePaced}
use Rattle.cbs_core.specs.Agreement.{Agrees}
use Rattle.cbs_steps.specs.Laws.{account_in}
use Rattle.cbs_core.proofs.Cores.{budgets_kept}
use Rattle.cbs_core.specs.Calls.{Makes}
use Rattle.cbs_steps.specs.declared.reply.Reply.{Reply}
use Rattle.std.specs.Prelude.{IfSome}
use Rattle.cbs_steps.specs.OnTime.{KeepsTime}
use Rattle.cbs_steps.specs.declared.step.Step.{Step}
use Rattle.cbs_lists.proofs.Lists.{AllByRecursion-map}
use Rattle.cbs_steps.specs.Punctual.{IsPunctual}
use Rattle.cbs_steps.proofs.OnTime.{IsAdmitted, given, on_time_next, rates_are, rates_after, on_time_start}
use Rattle.cbs_steps.specs.Paced.{KeepsPace, AllFinishedLate}
use Rattle.cbs_steps.proofs.PacedWorlds.{pace_next, paced_start}
use Rattle.cbs_steps.specs.Promises.{promised, AllFinishedBy}
use Rattle.cbs_core.proofs.OnTimeCores.{agreed_on_time, agreed_paced, held_paced}
use Rattle.cbs_steps.proofs.Promised.{tick_kept, tick_kept_late}
use Rattle.cbs_steps.proofs.Punctual.{punctual}
use Rattle.cbs_hindsight.proofs.Hindsight.{IsStill, ends_still}

module _ {W : Type 0} (work : Meaning W) where
  -- what a core keeps of its servers says that its reservations were admitted
  pub admitted_by : {core held : CoreHeld W} {M : History W} → core ≡ held → IsCore work core → Agrees work held M → IsAdmitted (given work M.setup)
  admitted_by {core} {held} {M} view ok agrees =
      let shown : core.faces ≡ faces work (world_after work M) = rw view agrees.world.shown in
      let same : reservations core.faces ≡ given work M.setup =
      ap reservations shown ∙ rates_are work (world_after work M).accounts ∙ rates_after work M.setup M.steps in
      rw (← same) record {
        lawful = AllByRecursion-map (IsServer core.backlog core.clock) (λ (r : Rate). IsRate r.budget r.period)
            (λ (f : Face). f.terms.reservation) core.faces ok.each (λ f is. is.lawful);
        at_most_one = ok.at_most_one;
      }

  module _ {core held : CoreHeld W} {M : History W} (view : core ≡ held) (ok : IsCore work core) (agrees : Agrees work held M) where
    -- each step from a core keeps what is on time so
    pub keeps_time : (x : Step W) → KeepsTime work M x
    keeps_time x = on_time_next work M x (admitted_by view ok agrees)

    -- and what is paced
    pub keeps_pace : (x : Step W) → KeepsPace work M x
    keeps_pace x = pace_next work M x (admitted_by view ok agrees)

  module _ {core held : CoreHeld W} (view : core ≡ held) (ok : IsCore work core) (x : Step W) (r : Reply W) where
    -- a step with this reply, which leaves the world as it is, was made with no change
    pub makes_still : ((M : History W) → Agrees work held M → IsStill work M x)
        → ((M : History W) → Agrees work held M → (r ≡ reply_in work M x) × (world_after work (M ⊕ x) ≡ world_after work M)) → Makes work held held x r
    makes_still still told = record {
      reply = λ M agrees. (told M agrees).0;
      state = λ M agrees. record { world = rw (told M agrees).1 agrees.world; unit = λ e. ends_still work M x held.last.server (still M agrees) (agrees.unit e) };
      on_time = λ M agrees. keeps_time view ok agrees x;
      paced = λ M agrees. keeps_pace view ok agrees x;
      count = refl;
      budgets = rw (← view) (budgets_kept ok);
    }

    -- a step with this reply, which leads to a core that agrees with it, was made
    pub makes_new : {new : CoreHeld W} → IsCore work new → length new.faces ≡ length core.faces
        → ((M : History W) → Agrees work held M → (r ≡ reply_in work M x) × Agrees work new (M ⊕ x)) → Makes work held new x r
    makes_new later count told = record {
      reply = λ M agrees. (told M agrees).0;
      state = λ M agrees. (told M agrees).1;
      on_time = λ M agrees. keeps_time view ok agrees x;
      paced = λ M agrees. keeps_pace view ok agrees x;
      count = rw (← view) count;
      budgets = budgets_kept later;
    }

  -- a new core is on time
  pub new_on_time : {core : CoreHeld W} {setup : Setup} → IsCore work core → Agrees work core (record { setup = setup; steps = [] }) → IsCoreOnTime core
  new_on_time {core} {setup} ok agrees = rw (agrees.world.clock, agrees.world.shown) (on_time_start work setup (admitted_by {core = core} refl ok agrees))

  -- and paced
  pub new_paced : {core : CoreHeld W} {setup : Setup} → IsCore work core → Agrees work core (record { setup = setup; steps = [] }) → IsCorePaced core
  new_paced {core} {setup} ok agrees = held_paced work (record { setup = setup; steps = [] }) agrees (paced_start work setup (admitted_by {core = core} refl ok agrees))

  -- so it is of every history with which a core agrees
  pub core_punctual : {core held : CoreHeld W} → core ≡ held → IsCore work core → (N : History W) → Agrees work held N → IsPunctual work N
  core_punctual view ok N agrees = punctual work N (admitted_by view ok agrees)

  -- and of a new core, whatever its steps will be
  pub new_punctual : {core : CoreHeld W} {setup : Setup} → IsCore work core → Agrees work core (record { setup = setup; steps = [] })
      → (steps : List (Step W)) → IsPunctual work (record { setup = setup; steps = steps })
  new_punctual {core} {setup} ok agrees steps = punctual work (record { setup = setup; steps = steps }) (admitted_by {core = core} refl ok agrees)

  -- what is kept of the tick for each history is kept for all with which a core agrees
  for_each : {held : CoreHeld W} (o : Option ℕ) (Kept : History W → ℕ → Type 0) → ((M : History W) → Agrees work held M → IfSome o (Kept M))
      → IfSome o (λ tick. (M : History W) → Agrees work held M → Kept M tick)
  for_each None Kept kept = tt
  for_each (Some tick) Kept kept = kept

  -- and so whatever history the core agrees with, if it is on time
  pub promised_kept : {core held : CoreHeld W} → core ≡ held → IsCore work core → (s : ℕ) (o : Option ℕ)
      → ((M : History W) → Agrees work held M → o ≡ promised work (account_in work M s))
      → IsCoreOnTime held → IfSome o (λ tick. (M : History W) → Agrees work held M → AllFinishedBy work M s tick)
  promised_kept view ok s o value on = for_each o (λ M tick. AllFinishedBy work M s tick) (λ M agrees. tick_kept work M s o (admitted_by view ok agrees)
      (agreed_on_time work M agrees on) (value M agrees))

  -- also with charges, if it is paced
  pub promised_late : {core held : CoreHeld W} → core ≡ held → IsCore work core → (s : ℕ) (o : Option ℕ)
      → ((M : History W) → Agrees work held M → o ≡ promised work (account_in work M s))
      → IsCorePaced held → IfSome o (λ tick. (M : History W) → Agrees work held M → AllFinishedLate work M s tick)
  promised_late view ok s o value on = for_each o (λ M tick. AllFinishedLate work M s tick) (λ M agrees. tick_kept_late work M s o (admitted_by view ok agrees)
      (agreed_paced work M agrees on) (value M agrees))
