-- By which tick a job is finished, whatever the others ask for. One tick can be given when the job is accepted, and one
-- follows from its own server's submits. Also, by which tick all that a server has accepted is finished, as it can be
-- given at any time.
use Rattle.std.specs.Prelude.{◌≡◌, ℕ, ◌+◌, ◌*◌, ◌≤◌, ◌<◌, max, true, false, eqb, if◌then◌else◌, List, [], ◌∷◌, ◌++◌, length, Option, Some, None, ◌-◌}
use Rattle.std.specs.Int.{div_ceil}
use Rattle.std.specs.List.{sum_by}
use Rattle.cbs_job.specs.Work.{Meaning}
use Rattle.cbs_rate.specs.Rate.{Rate}
use Rattle.cbs_rules.specs.Rules.{is_renewed, State}
use Rattle.cbs_steps.specs.Faces.{is_active, submit_refusal}
use Rattle.cbs_steps.specs.Accounts.{finished, face_of, Account}
use Rattle.cbs_steps.specs.History.{World, Setup, History, account, faces, after, world_after}
use Rattle.cbs_steps.specs.Laws.{account_in}
use Rattle.cbs_steps.specs.Quiet.{AreQuiet, IsQuietAfter}
use Rattle.cbs_steps.specs.declared.error.CoreError.{CoreError}
use Rattle.cbs_steps.specs.declared.step.Step.{Step}
use Rattle.cbs_steps.specs.declared.step.Step.TheVariants.{Submit}
use Rattle.cbs_steps.specs.Continuations.{◌⊕⊕◌, EachAllowed}

-- when a job of so many units is due that comes at now, if the job before it is due at `before`. It is due one period
-- later for each budget that it needs, counted from now, or from `before` if that is later
abbrev pub due_from : Rate → ℕ → ℕ → ℕ → ℕ
due_from r before now units = max before now + div_ceil units r.budget * r.period

-- when the last job is due after a submit, by why the submit is refused, if it is
abbrev pub due_submitted : Rate → ℕ → ℕ → ℕ → Option CoreError → ℕ
due_submitted r before now units None = due_from r before now units
due_submitted r before now units (Some e) = before

module _ {W : Type 0} where
  -- When the last job of s is due after one more step. Only an accepted submit to s changes which job of s is the last
  abbrev pub due_next : Meaning W → ℕ → World W → ℕ → ℕ → Step W → ℕ
  due_next work backlog w s before (Submit t job) =
      if eqb t s then due_submitted (account w.accounts t).terms.reservation before w.now (work.left job) (submit_refusal backlog (faces work w) t) else before
  due_next work backlog w s before _ = before

  -- when the last job that server s accepted is due, by the submits to s and when they came; 0 before the first
  abbrev pub due : Meaning W → Setup → ℕ → List (Step W) → ℕ
  due work setup s [] = 0
  due work setup s (x ∷ M) = due_next work setup.backlog (after work setup M) s (due work setup s M) x

  -- the history N as it stood after its steps M
  abbrev pub when : History W → List (Step W) → History W
  when N M = record { setup = N.setup; steps = M }

  -- among the steps of N there is a submit of the job to s, which was accepted, with M before it and K after it
  pub record IsJobOf (work : Meaning W) (N : History W) (K M : List (Step W)) (s : ℕ) (job : W) : Type 0 where
    pub steps : N.steps ≡ K ++ Submit s job ∷ M
    pub accepted : submit_refusal N.setup.backlog (faces work (world_after work (when N M))) s ≡ None

  -- the job that s accepted after M is finished after N
  abbrev pub IsFinished : Meaning W → History W → List (Step W) → ℕ → Type 0
  IsFinished work N M s = length (account_in work (when N M) s).accepted < finished work (account_in work N s)

  -- Each job is finished by the tick that can be given when it is accepted. Let c and d be the budget and deadline that
  -- its submit leaves, and let the server then owe at most c + j * Q units. Then the job is finished by d + j * T.
  abbrev pub KeepsPromise : Meaning W → History W → Type 0
  KeepsPromise work N = AreQuiet work N.setup N.steps → (K M : List (Step W)) (s : ℕ) (job : W) (j : ℕ) → IsJobOf work N K M s job
      → (let a = account_in work (when N (Submit s job ∷ M)) s in
      sum_by work.left a.accepted ≤ a.got + a.state.budget + j * a.terms.reservation.budget
      → a.state.deadline + j * a.terms.reservation.period ≤ (world_after work N).now → IsFinished work N M s)

  -- the submit of the job renews s, and one budget suffices for the job
  pub record IsRenewal (work : Meaning W) (M : History W) (s : ℕ) (job : W) : Type 0 where
    pub idle : is_active (face_of work (account_in work M s)) ≡ false
    pub free : (account_in work M s).state.throttled ≡ false
    pub renewed : is_renewed (account_in work M s).terms.mode (account_in work M s).terms.reservation (world_after work M).now
        (account_in work M s).state ≡ true
    pub small : work.left job ≤ (account_in work M s).terms.reservation.budget

  -- a job that renews its server, and needs at most one budget, is finished one period after it came
  abbrev pub KeepsBound : Meaning W → History W → Type 0
  KeepsBound work N = AreQuiet work N.setup N.steps → (K M : List (Step W)) (s : ℕ) (job : W) → IsJobOf work N K M s job → IsRenewal work (when N M) s job
      → (world_after work (when N M)).now + (account_in work (when N M) s).terms.reservation.period ≤ (world_after work N).now → IsFinished work N M s

  -- each accepted job is finished when it is due, whatever the others are asked for
  abbrev pub KeepsDue : Meaning W → History W → Type 0
  KeepsDue work N = AreQuiet work N.setup N.steps → (K M : List (Step W)) (s : ℕ) (job : W) → IsJobOf work N K M s job
      → due work N.setup s (Submit s job ∷ M) ≤ (world_after work N).now → IsFinished work N M s

-- The tick by which a server gets so many units. It is its deadline, and one period later for each budget that the
-- units and its overrun need beyond its present budget
abbrev pub promised_tick : Rate → State → ℕ → ℕ
promised_tick r s units = s.deadline + div_ceil (units + s.overrun - s.budget) r.budget * r.period

-- the promised tick if some units are owed, and none if no unit is owed
abbrev pub promised_by : Rate → State → ℕ → Option ℕ
promised_by r s units = if eqb units 0 then None else Some (promised_tick r s units)

module _ {W : Type 0} where
  -- the units that the accepted jobs need and that the server has not yet got
  abbrev pub owed : Meaning W → Account W → ℕ
  owed work a = sum_by work.left a.accepted - a.got

  -- the tick that is promised for all accepted jobs of a server, if one of them is unfinished
  abbrev pub promised : Meaning W → Account W → Option ℕ
  promised work a = promised_by a.terms.reservation a.state (owed work a)

  -- each of the steps takes nobody's time at its place, after M and the steps before it
  abbrev pub AllQuiet : Meaning W → History W → List (Step W) → Type 0
  AllQuiet work M xs = EachAllowed (IsQuietAfter work) M xs

  -- Each job that server s accepted in M is finished once the clock has come to the tick, whatever steps follow that
  -- take nobody's time. This holds if M leaves all on time.
  abbrev pub AllFinishedBy : Meaning W → History W → ℕ → ℕ → Type 0
  AllFinishedBy work M s tick = (xs : List (Step W)) → AllQuiet work M xs
      → tick ≤ (world_after work (M ⊕⊕ xs)).now → length (account_in work M s).accepted ≤ finished work (account_in work (M ⊕⊕ xs) s)
