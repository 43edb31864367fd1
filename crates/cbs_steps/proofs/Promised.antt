-- What is promised of all accepted jobs is kept.
use Rattle.std.proofs.Common.{◌≡◌, ℕ, ◌+◌, ◌-◌, ◌≤◌, ◌<◌, true, eqb, List, [], ◌∷◌, ◌++◌, length, arith, refl, inl, inr, ap, ◌∙◌, length-append, Option, Some, None}
use Rattle.std.specs.Prelude.{IfSome}
use Rattle.std.specs.Int.{div_ceil}
use Rattle.std.specs.List.{sum_by}
use Rattle.std.proofs.lemmas.Bool.{cases_lt, cases_Bool}
use Rattle.std.proofs.lemmas.Bool.Decides.{nat_tests}
use Rattle.std.proofs.lemmas.Grind.{div_ceil_times}
use Rattle.std.proofs.lemmas.List.{get_or_past}
use Rattle.std.proofs.lemmas.List.Sums.{sum_by-append}
use Rattle.std.proofs.lemmas.Nat.{mul-le}
use Rattle.cbs_job.specs.Work.{Meaning}
use Rattle.cbs_rate.specs.Plan.{all_periods}
use Rattle.cbs_rate.specs.Rate.{Rate}
use Rattle.cbs_rate.proofs.Multiples.{all_periods_some}
use Rattle.cbs_rules.specs.Rules.{until}
use Rattle.cbs_lists.proofs.Lists.{AllByRecursion-get}
use Rattle.cbs_steps.specs.Accounts.{Account, face_of, finished, no_account, taken}
use Rattle.cbs_steps.specs.Charged.{others_charges}
use Rattle.cbs_steps.specs.Continuations.{◌⊕⊕◌}
use Rattle.cbs_steps.specs.Faces.{is_active}
use Rattle.cbs_steps.specs.History.{Setup, History, account, world_after}
use Rattle.cbs_steps.specs.Laws.{account_in}
use Rattle.cbs_steps.specs.OnTime.{IsAhead, IsWorldOnTime}
use Rattle.cbs_steps.specs.Paced.{IsWorldPaced, charged_since, AllFinishedAfter, AllFinishedLate, KeepsPacedPromise}
use Rattle.cbs_steps.specs.Promises.{promised_tick, owed, promised, AllFinishedBy}
use Rattle.cbs_steps.specs.Quiet.{IsQuietAfter, IsQuietAdvanceAfter}
use Rattle.cbs_steps.specs.declared.step.Step.{Step}
use Rattle.cbs_steps.proofs.Covers.{IsCovered, covered_from}
use Rattle.cbs_steps.proofs.Histories.{holds_on, holds_quiet_on}
use Rattle.cbs_steps.proofs.Lateness.{due_soon}
use Rattle.cbs_steps.proofs.Laws.{setup_after}
use Rattle.cbs_steps.proofs.LawfulServers.{IsLawful}
use Rattle.cbs_steps.proofs.OnTime.{IsAdmitted, given, sound_after, known_on_time, on_time_next, ready_early}
use Rattle.cbs_steps.proofs.OnTimeLists.{all_kept}
use Rattle.cbs_steps.proofs.OnTimeSteps.{IsSound}
use Rattle.cbs_steps.proofs.PacedWorlds.{known_paced, pace_next}
use Rattle.cbs_steps.proofs.Promises.{goal, IsAwaited, awaited_job, awaited_unit, awaited_replenishment, awaited_charge, awaited_close, awaited_let_go, awaited_finished, count_after}

-- a list as its last element and those before it
record HasLast {X : Type 0} (xs : List X) : Type 0 where
  before : List X
  last : X
  split : xs ≡ before ++ last ∷ []

-- each list that is not empty has a last element
has_last : {X : Type 0} (x : X) (xs : List X) → HasLast (x ∷ xs)
has_last x [] = record { before = []; last = x; split = refl }
has_last x (y ∷ xs) = let h = has_last y xs in record { before = x ∷ h.before; last = h.last; split = ap (λ zs. x ∷ zs) h.split }

last_of : {X : Type 0} (xs : List X) → 0 < length xs → HasLast xs
last_of [] some = absurd (omega arith)
last_of (x ∷ xs) some = has_last x xs

-- a list over which a sum is not 0 is not empty
asked_some : {X : Type 0} (f : X → ℕ) (xs : List X) → 0 < sum_by f xs → 0 < length xs
asked_some f [] some = absurd (omega arith)
asked_some f (x ∷ xs) some = omega arith

module _ {W : Type 0} (work : Meaning W) where
  -- a server that accepted a job is there
  accepted_there : (accounts : List (Account W)) (s : ℕ) → 0 < length (account accounts s).accepted → s < length accounts
  accepted_there accounts s some = elim (cases_lt s (length accounts)) [
    | inl lt ↦ lt
    | inr ge ↦ let none : account accounts s ≡ no_account = get_or_past accounts s no_account ge in let zero_accepted : 0 < 0 =
        rw none at some in absurd (omega arith)
  ]

  -- in a world on time an active server is due no earlier than the clock
  due_on_time : (N : History W) (s : ℕ) → IsAdmitted (given work N.setup) → IsWorldOnTime work (world_after work N) → s < length (world_after work N).accounts
      → is_active (face_of work (account_in work N s)) ≡ true
      → (world_after work N).now < until (account_in work N s).terms.reservation (account_in work N s).state
  due_on_time N s ok on lt active =
      let w = world_after work N in
      let a = account_in work N s in
      let r = a.terms.reservation in
      let timely = known_on_time work N.setup N.steps on in
      elim (cases_Bool a.state.throttled) [
        | inl t ↦
            let l = AllByRecursion-get (λ b. IsAhead w.now (face_of work b)) w.accounts s no_account timely.ahead lt t in
            let u : until r a.state ≡ a.state.deadline + r.period = rw t refl in
            omega arith
        | inr f ↦
            let l = ready_early work N.setup N.steps ok timely s lt (rw (active, f)) in
            let u : until r a.state ≡ a.state.deadline = rw f refl in
            omega arith
      ]

  -- in a paced world it is so but for the charges of the others
  due_paced : (N : History W) (s : ℕ) → IsAdmitted (given work N.setup) → IsWorldPaced work (world_after work N) → s < length (world_after work N).accounts
      → is_active (face_of work (account_in work N s)) ≡ true
      → (world_after work N).now < until (account_in work N s).terms.reservation (account_in work N s).state + others_charges (world_after work N).accounts s
  due_paced N s ok on lt active = due_soon work (all_periods (given work N.setup)) (world_after work N) (all_periods_some (given work N.setup) ok.lawful)
      (sound_after work N.setup N.steps ok) (known_paced work N.setup N.steps on) s lt (grind (arith, nat_tests))

  -- the last job that s accepted in M stands for all of them
  module _ (M : History W) (s : ℕ) (ok : IsAdmitted (given work M.setup)) (some : 0 < length (account_in work M s).accepted) where
    abbrev a : Account W
    a = account_in work M s

    abbrev e : HasLast a.accepted
    e = last_of a.accepted some

    -- its server is there after more steps
    there_on : (xs : List (Step W)) → s < length (world_after work (M ⊕⊕ xs)).accounts
    there_on xs =
        let N = M ⊕⊕ xs in
        let lt = accepted_there (world_after work M).accounts s some in
        let same = ap (λ (setup : Setup). length (given work setup)) (setup_after M xs) in
        omega (arith, count_after work M.setup M.steps, count_after work N.setup N.steps)

    law : IsLawful work a
    law = (AllByRecursion-get (IsSound work (all_periods (given work M.setup))) (world_after work M).accounts s no_account
        (sound_after work M.setup M.steps ok).each (accepted_there (world_after work M).accounts s some)).lawful

    -- all that the server was asked for
    all_left : sum_by work.left a.accepted ≡ goal work e.before e.last (λ r t. 0) (λ r t. 0)
    all_left = ap (sum_by work.left) e.split ∙ omega (arith, sum_by-append work.left e.before (e.last ∷ []))

    -- that many units are covered by the tick that is promised for them
    covered_by : (n units : ℕ) → n ≤ taken a + units → IsCovered a.terms.reservation n (promised_tick a.terms.reservation a.state units) (taken a) a.state
    covered_by n units le =
        let budgets = div_ceil_times (units + a.state.overrun - a.state.budget) a.terms.reservation.budget law.rate.some in
        covered_from a.terms.reservation n (div_ceil (units + a.state.overrun - a.state.budget) a.terms.reservation.budget) (taken a) a.state law.state (omega arith)

    -- the last job is awaited, if it is covered
    awaited_from : (n b : Rate → ℕ → ℕ)
        → IsCovered a.terms.reservation (n a.terms.reservation a.charges.total) (b a.terms.reservation a.charges.total) (taken a) a.state
        → IsAwaited work e.before e.last n b a
    awaited_from n b c = record { lawful = law; behind = []; jobs = e.split; pending = λ owes few. c }

    -- once it is finished all are
    all_by_last : (c : Account W) → length e.before < finished work c → length a.accepted ≤ finished work c
    all_by_last c done = let count = ap length e.split ∙ length-append e.before (e.last ∷ []) in omega arith

  -- what is owed is paid by the tick that is promised for it
  all_finished_by : (M : History W) (s : ℕ) → IsAdmitted (given work M.setup) → IsWorldOnTime work (world_after work M) → 0 < length (account_in work M s).accepted
      → (let a = account_in work M s in AllFinishedBy work M s (promised_tick a.terms.reservation a.state (owed work a)))
  all_finished_by M s ok on some = λ xs quiet late.
      let a = account_in work M s in
      let e = last_of a.accepted some in
      let tick = promised_tick a.terms.reservation a.state (owed work a) in
      let left = all_left M s ok some in
      let n = λ (r : Rate) (t : ℕ). sum_by work.left e.before + work.left e.last + t in
      let b = λ (r : Rate) (t : ℕ). tick in
      let start = awaited_from M s ok some n b (covered_by M s ok some (n a.terms.reservation a.charges.total) (owed work a) (omega arith)) in
      let N = M ⊕⊕ xs in
      let going = all_kept work (IsWorldOnTime work) (IsQuietAfter work) (λ setup. IsAdmitted (given work setup)) (on_time_next work) M xs ok quiet on in
      let c = account_in work N s in
      let h : IsAwaited work e.before e.last n b c =
      holds_quiet_on work (λ now. IsAwaited work e.before e.last n b) (λ now. awaited_unit work e.before e.last n b)
      (λ now. awaited_replenishment work e.before e.last n b (now + 1))
      (λ now. awaited_close work e.before e.last n b) (λ now. awaited_let_go work e.before e.last n b) (awaited_job work e.before e.last n b) M xs s quiet start in
      let soon = due_on_time N s going.0 going.1 (there_on M s ok some xs) in
      all_by_last M s ok some c (awaited_finished work e.before e.last n b (world_after work N).now 0 c h
      (λ active. let q = soon active in omega arith) (omega arith) (λ owes. omega arith))

  -- so it is if units are charged, with what is charged to the server counted as owed, and later by the charges of the others
  all_finished_after : (M : History W) (s : ℕ) → IsAdmitted (given work M.setup) → IsWorldPaced work (world_after work M) → 0 < length (account_in work M s).accepted
      → (let a = account_in work M s in
      AllFinishedAfter work M s (λ N. promised_tick a.terms.reservation a.state (owed work a + charged_since work M N s)))
  all_finished_after M s ok on some = λ xs quiet late.
      let a = account_in work M s in
      let e = last_of a.accepted some in
      let left = all_left M s ok some in
      let N = M ⊕⊕ xs in
      let c = account_in work N s in
      let units = owed work a + charged_since work M N s in
      let all = sum_by work.left e.before + work.left e.last + c.charges.total in
      let n = λ (r : Rate) (t : ℕ). all in
      let b = λ (r : Rate) (t : ℕ). promised_tick a.terms.reservation a.state units in
      let start = awaited_from M s ok some n b (covered_by M s ok some all units (omega arith)) in
      let going = all_kept work (IsWorldPaced work) (IsQuietAdvanceAfter work) (λ setup. IsAdmitted (given work setup)) (pace_next work) M xs ok quiet on in
      let h : IsAwaited work e.before e.last n b c =
      holds_on work (λ now. IsAwaited work e.before e.last n b) (λ now. awaited_unit work e.before e.last n b)
      (λ now. awaited_replenishment work e.before e.last n b (now + 1))
      (λ now. awaited_close work e.before e.last n b) (λ now. awaited_let_go work e.before e.last n b) (awaited_job work e.before e.last n b)
      (λ now. awaited_charge work e.before e.last n b (record { under = λ r t m got some owes lt. omega arith; grow = λ r t m g s some k. k })) M xs s start in
      let w = world_after work N in
      let soon = due_paced N s going.0 going.1 (there_on M s ok some xs) in
      all_by_last M s ok some c (awaited_finished work e.before e.last n b w.now (others_charges w.accounts s) c h
      soon late (λ owes. omega arith))

  -- every history keeps it
  pub paced_promise_kept : (M : History W) → IsAdmitted (given work M.setup) → KeepsPacedPromise work M
  paced_promise_kept M ok = λ on s. elim (cases_lt 0 (length (account_in work M s).accepted)) [
    | inl some ↦ all_finished_after M s ok on some
    | inr none ↦ λ xs quiet late. omega arith
  ]

  -- two counts of units need no more budgets together than apart
  div_ceil-add : (x y z q : ℕ) → 0 < q → x ≤ y + z → div_ceil x q ≤ div_ceil y q + div_ceil z q
  div_ceil-add x y z q some le =
      let a = div_ceil_times x q some in
      let b = div_ceil_times y q some in
      let c = div_ceil_times z q some in
      let sum = div_ceil y q + div_ceil z q in
      elim (cases_lt sum (div_ceil x q)) [
        | inl more ↦ let m = mul-le (sum + 1) q (div_ceil x q) q (omega arith) (omega arith) in absurd (omega arith)
        | inr fits ↦ fits
      ]

  -- and it is a period later at most for each budget that the server is charged
  all_finished_late : (M : History W) (s : ℕ) → IsAdmitted (given work M.setup) → IsWorldPaced work (world_after work M) → 0 < length (account_in work M s).accepted
      → (let a = account_in work M s in AllFinishedLate work M s (promised_tick a.terms.reservation a.state (owed work a)))
  all_finished_late M s ok on some = λ xs quiet late.
      let a = account_in work M s in
      let r = a.terms.reservation in
      let own = charged_since work M (M ⊕⊕ xs) s in
      let more = owed work a + own + a.state.overrun - a.state.budget in
      let less = owed work a + a.state.overrun - a.state.budget in
      let few = div_ceil-add more less own r.budget (law M s ok some).rate.some (omega arith) in
      let m = mul-le (div_ceil more r.budget) r.period (div_ceil less r.budget + div_ceil own r.budget) r.period few (omega arith) in
      all_finished_after M s ok on some xs quiet (omega arith)

  -- what is told, if something is owed, is kept
  told_kept : (M : History W) (s : ℕ) (o : Option ℕ) (Kept : ℕ → Type 0) → o ≡ promised work (account_in work M s)
      → (let a = account_in work M s in 0 < length a.accepted → Kept (promised_tick a.terms.reservation a.state (owed work a))) → IfSome o Kept
  told_kept M s None Kept e kept = tt
  told_kept M s (Some tick) Kept e kept =
      let a = account_in work M s in
      elim (cases_Bool (eqb (owed work a) 0)) [
        | inl t ↦ let none : Some tick ≡ None = rw t at e in cc
        | inr f ↦
            let is : Some tick ≡ Some (promised_tick a.terms.reservation a.state (owed work a)) = rw f at e in
            let same : tick ≡ promised_tick a.terms.reservation a.state (owed work a) = cc in
            let some : 0 < owed work a = grind (arith, nat_tests) in
            rw same (kept (asked_some work.left a.accepted (omega arith)))
      ]

  -- so is the tick that is returned
  pub tick_kept : (M : History W) (s : ℕ) (o : Option ℕ) → IsAdmitted (given work M.setup) → IsWorldOnTime work (world_after work M)
      → o ≡ promised work (account_in work M s) → IfSome o (λ tick. AllFinishedBy work M s tick)
  tick_kept M s o ok on e = told_kept M s o (λ tick. AllFinishedBy work M s tick) e (all_finished_by M s ok on)

  -- also if units are charged
  pub tick_kept_late : (M : History W) (s : ℕ) (o : Option ℕ) → IsAdmitted (given work M.setup) → IsWorldPaced work (world_after work M)
      → o ≡ promised work (account_in work M s) → IfSome o (λ tick. AllFinishedLate work M s tick)
  tick_kept_late M s o ok on e = told_kept M s o (λ tick. AllFinishedLate work M s tick) e (all_finished_late M s ok on)
