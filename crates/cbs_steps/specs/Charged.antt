-- By when a server gets its ticks, and by when its jobs are finished, if units are charged. The ticks charged to the
-- server itself count as units. The ticks charged to the others delay the server by at most the most for one unit of
-- each.
use Rattle.std.specs.Prelude.{◌≡◌, ℕ, ◌+◌, ◌-◌, ◌*◌, ◌≤◌, max, eqb, if◌then◌else◌, List, [], ◌∷◌, ◌++◌, length, Option, Some, None}
use Rattle.std.specs.Int.{div_ceil}
use Rattle.std.specs.List.{sum_by}
use Rattle.cbs_job.specs.Work.{Meaning}
use Rattle.cbs_rate.specs.Rate.{Rate}
use Rattle.cbs_steps.specs.Faces.{submit_refusal}
use Rattle.cbs_steps.specs.Accounts.{Account, taken}
use Rattle.cbs_steps.specs.History.{World, Setup, History, account, faces, after, world_after, charge_refusal, reply_in}
use Rattle.cbs_steps.specs.Laws.{account_in}
use Rattle.cbs_steps.specs.Promises.{when, IsJobOf, IsFinished}
use Rattle.cbs_steps.specs.Quiet.{AdvanceQuietly}
use Rattle.cbs_steps.specs.Supplies.{StaysActive}
use Rattle.cbs_steps.specs.declared.error.CoreError.{CoreError}
use Rattle.cbs_steps.specs.declared.step.Step.{Step}
use Rattle.cbs_steps.specs.declared.reply.Ran.TheVariants as ran
use Rattle.cbs_steps.specs.declared.reply.Reply.TheVariants as reply
use Rattle.cbs_steps.specs.declared.step.Step.TheVariants.{Submit, Run, Charge}

-- when a job is due: so many units, counted from a tick
pub record Due : Type 0 where
  pub from : ℕ
  pub units : ℕ

-- the tick when the job is due: one period after `from` for each budget that the units need
abbrev pub due_tick : Rate → Due → ℕ
due_tick r d = d.from + div_ceil d.units r.budget * r.period

-- When the last job is due after a submit, by why the submit is refused, if it is. An accepted job counts from the tick
-- it came, or from the tick when the job before it is due, if that is later
abbrev pub due_of_submit : Rate → Due → ℕ → ℕ → Option CoreError → Due
due_of_submit r before now units None = record { from = max (due_tick r before) now; units = units }
due_of_submit r before now units (Some e) = before

-- When the last job is due after a charge, by why the charge is refused, if it is. The ticks count as units of that job
abbrev pub due_of_charge : Due → ℕ → Option CoreError → Due
due_of_charge before n None = record before { units = before.units + n }
due_of_charge before n (Some e) = before

module _ {W : Type 0} where
  -- the most that each server but s was charged for one unit, added up
  abbrev pub others_charges : List (Account W) → ℕ → ℕ
  others_charges accounts s = sum_by (λ a. a.charges.most) accounts - (account accounts s).charges.most

  -- While it stays active, a server gets its budget, less its overrun, by its deadline, and one more budget by each
  -- period after. It gets them later by no more than what the others are charged.
  abbrev pub KeepsChargedSupply : Meaning W → History W → Type 0
  KeepsChargedSupply work N = AdvanceQuietly work N.setup N.steps → (K M : List (Step W)) (s j : ℕ) → N.steps ≡ K ++ M → StaysActive work N.setup s M K
      → (let a = account_in work (when N M) s in
      let w = world_after work N in
      a.state.deadline + j * a.terms.reservation.period + others_charges w.accounts s ≤ w.now
      → taken a + a.state.budget + j * a.terms.reservation.budget ≤ taken (account_in work N s) + a.state.overrun)

  -- Each job is finished by the tick that can be given when it is accepted. Let c, d and o be the budget, deadline and
  -- overrun that its submit leaves. Let all that the server then owes, and all that it is charged from then on, be at
  -- most c - o + j * Q ticks. Then the job is finished by d + j * T and what the others are charged.
  abbrev pub KeepsChargedPromise : Meaning W → History W → Type 0
  KeepsChargedPromise work N = AdvanceQuietly work N.setup N.steps → (K M : List (Step W)) (s : ℕ) (job : W) (j : ℕ) → IsJobOf work N K M s job
      → (let a = account_in work (when N (Submit s job ∷ M)) s in
      let w = world_after work N in
      sum_by work.left a.accepted + (account_in work N s).charges.total + a.state.overrun ≤ taken a + a.state.budget + j * a.terms.reservation.budget
      → a.state.deadline + j * a.terms.reservation.period + others_charges w.accounts s ≤ w.now → IsFinished work N M s)

  -- When the last job of s is due after one more step. Only an accepted submit to s changes which job of s is the last.
  -- Only a charge of s adds units to it
  abbrev pub due_after : Meaning W → ℕ → World W → ℕ → Due → Step W → Due
  due_after work backlog w s before (Submit t job) =
      if eqb t s then due_of_submit (account w.accounts t).terms.reservation before w.now (work.left job) (submit_refusal backlog (faces work w) t) else before
  due_after work backlog w s before (Charge t n) = if eqb t s then due_of_charge before n (charge_refusal w t n) else before
  due_after work backlog w s before _ = before

  -- when the last job that server s accepted is due, by the submits to s, the ticks when they came, and the charges of
  -- s
  abbrev pub charged_due : Meaning W → Setup → ℕ → List (Step W) → Due
  charged_due work setup s [] = record { from = 0; units = 0 }
  charged_due work setup s (x ∷ M) = due_after work setup.backlog (after work setup M) s (charged_due work setup s M) x

  -- Each job is finished when it is due, and later by no more than what the others are charged. What its server was
  -- charged from its submit on counts as units of the job.
  abbrev pub KeepsChargedDue : Meaning W → History W → Type 0
  KeepsChargedDue work N = AdvanceQuietly work N.setup N.steps → (K M : List (Step W)) (s : ℕ) (job : W) → IsJobOf work N K M s job
      → (let a = account_in work (when N (Submit s job ∷ M)) s in
      let w = world_after work N in
      let due = charged_due work N.setup s (Submit s job ∷ M) in
      let behind : Due = record due { units = due.units + ((account_in work N s).charges.total - a.charges.total) } in
      due_tick a.terms.reservation behind + others_charges w.accounts s ≤ w.now → IsFinished work N M s)

  -- each of the steps is a charge of server s
  abbrev pub AreChargesOf : ℕ → List (Step W) → Type 0
  AreChargesOf s [] = Unit {0}
  AreChargesOf s (Charge t n ∷ C) = (t ≡ s) × AreChargesOf s C
  AreChargesOf s (x ∷ C) = ⊥

  -- N ends with the job that s accepted after M: a Run finishes it, with K between its submit and that Run, and then only
  -- charges C of s follow. A job ends with the last charge for its last unit
  pub record IsEndOf (work : Meaning W) (N : History W) (C K M : List (Step W)) (s : ℕ) (job : W) : Type 0 where
    pub job_of : IsJobOf work N (C ++ Run ∷ K) M s job
    pub result : ℕ
    pub done : reply_in work (when N (K ++ Submit s job ∷ M)) Run
        ≡ reply.Ran (ran.Done (record { server = s; seq = length (account_in work (when N M) s).accepted; result = result }))
    pub charges : AreChargesOf s C

  -- Each job ends by the tick that can be given when it is accepted. Let c, d and o be the budget, deadline and overrun that
  -- its submit leaves. Let all that the server then owes, and all that it is charged, be at most c - o + j * Q ticks. Then
  -- the clock has not passed d + j * T and what the others are charged.
  abbrev pub KeepsChargedEnd : Meaning W → History W → Type 0
  KeepsChargedEnd work N = AdvanceQuietly work N.setup N.steps → (C K M : List (Step W)) (s : ℕ) (job : W) (j : ℕ) → IsEndOf work N C K M s job
      → (let a = account_in work (when N (Submit s job ∷ M)) s in
      let w = world_after work N in
      sum_by work.left a.accepted + (account_in work N s).charges.total + a.state.overrun ≤ taken a + a.state.budget + j * a.terms.reservation.budget
      → w.now ≤ a.state.deadline + j * a.terms.reservation.period + others_charges w.accounts s)

  -- Each job ends when it is due, and later by no more than what the others are charged. What its server was charged from
  -- its submit on counts as units of the job.
  abbrev pub KeepsChargedDueEnd : Meaning W → History W → Type 0
  KeepsChargedDueEnd work N = AdvanceQuietly work N.setup N.steps → (C K M : List (Step W)) (s : ℕ) (job : W) → IsEndOf work N C K M s job
      → (let a = account_in work (when N (Submit s job ∷ M)) s in
      let w = world_after work N in
      let due = charged_due work N.setup s (Submit s job ∷ M) in
      let behind : Due = record due { units = due.units + ((account_in work N s).charges.total - a.charges.total) } in
      w.now ≤ due_tick a.terms.reservation behind + others_charges w.accounts s)
