-- Each job of one stream, on a server that is charged for its units, is finished before the next comes.
use Rattle.std.proofs.Common.{◌≡◌, ◌⊎◌, ℕ, zero, suc, ◌+◌, ◌-◌, ◌≤◌, ◌<◌, true, eqb, List, [], ◌∷◌, ◌++◌, length, arith, refl, sym, ◌∙◌}
use Rattle.std.proofs.Common.{ap, subst, append_assoc, length-append, inl, inr, None}
use Rattle.std.specs.Prelude.{max, map}
use Rattle.std.specs.Int.{div_ceil}
use Rattle.std.proofs.lemmas.Bool.{cases_lt}
use Rattle.std.proofs.lemmas.Bool.Decides.{nat_tests}
use Rattle.std.proofs.Math.Nat.{div-zero, mod-zero}
use Rattle.std.proofs.lemmas.Grind.{div_ceil_times}
use Rattle.std.proofs.lemmas.Nat.{mul-le}
use Rattle.cbs_job.specs.Work.{Meaning}
use Rattle.cbs_rate.specs.Rate.{Rate}
use Rattle.cbs_rules.specs.Rules.{Terms}
use Rattle.cbs_steps.specs.Accounts.{Account, finished, face_of, new_account}
use Rattle.cbs_steps.specs.Charged.{Due, charged_due, others_charges, AreChargesOf, IsEndOf, KeepsChargedDue, KeepsChargedDueEnd}
use Rattle.cbs_steps.specs.Faces.{submit_refusal}
use Rattle.cbs_steps.specs.History.{Setup, History, account, faces, after}
use Rattle.cbs_steps.specs.Promises.{when, IsJobOf}
use Rattle.cbs_steps.specs.Quiet.{AdvanceQuietly}
use Rattle.cbs_steps.specs.declared.step.Step.{Step}
use Rattle.cbs_steps.specs.declared.step.Step.TheVariants.{Submit, Run, Advance, Close, Charge}
use Rattle.cbs_steps.proofs.Ends.{end_first, end_steps}
use Rattle.cbs_steps.proofs.Faces.{runnable}
use Rattle.cbs_steps.proofs.Histories.{charged_runs, holds_after}
use Rattle.cbs_guarantee.specs.Overruns.{opens_after, IsOneStream, span_on, KeepsOverruns, KeepsOverrunEnds, KeepsAcceptingOverruns}
use Rattle.cbs_guarantee.specs.Streams.{span_of, jobs_of, Accepts}
use Rattle.cbs_guarantee.proofs.Accepting.{room_accepts}
use Rattle.cbs_guarantee.proofs.Steps.{others_behind, finished_behind, no_jobs, total_of, total_behind, jobs_given, charge_counts}
use Rattle.cbs_guarantee.proofs.Steps.{by_step}
use Rattle.cbs_guarantee.proofs.Streams.{none_due, reserved, reserved_after, due_after, due_given, due_charged}

-- more ticks need no fewer budgets
ceil-mono : (q m n : ℕ) → m ≤ n → div_ceil m q ≤ div_ceil n q
ceil-mono q m n le = elim (cases_lt 0 q) [
  | inr none ↦ let z : q ≡ 0 = omega arith in rw (z, div-zero m, div-zero n, mod-zero m, mod-zero n) (omega arith)
  | inl some ↦ elim (cases_lt (div_ceil n q) (div_ceil m q)) [
    | inr ge ↦ ge
    | inl lt ↦
        let a = div_ceil_times m q some in
        let b = div_ceil_times n q some in
        let below = a.1 in
        let above = b.0 in
        let p = mul-le (div_ceil n q + 1) q (div_ceil m q) q (omega arith) (omega arith) in
        absurd (omega arith)
  ]
]

-- so more ticks have no shorter span
pub span-mono : (r : Rate) (m n : ℕ) → m ≤ n → span_of r m ≤ span_of r n
span-mono r m n le = mul-le (div_ceil m r.budget) r.period (div_ceil n r.budget) r.period (ceil-mono r.budget m n le) (omega arith)

module _ {W : Type 0} where
  -- the first of the steps is no submit
  abbrev NoSubmit : List (Step W) → Type 0
  NoSubmit (Submit t job ∷ L) = ⊥
  NoSubmit L = Unit {0}

module _ {W : Type 0} (work : Meaning W) (setup : Setup) where
  -- a list of steps that advances quietly begins with such ones
  quiet_before : (K M : List (Step W)) → AdvanceQuietly work setup (K ++ M) → AdvanceQuietly work setup M
  quiet_before [] M q = q
  quiet_before (x ∷ K) M q = quiet_before K M q.0

  module _ (s : ℕ) where
    -- a server that runs has a job
    runs_some : (M : List (Step W)) → (account (after work setup M).accounts s).runs ≡ true → 0 < jobs_of work setup s M
    runs_some M = holds_after work (λ now a. a.runs ≡ true → 0 < length a.accepted)
        (λ now a ready h runs. let active = (runnable (face_of work a) ready).active in omega arith) (λ now a h. h) (λ now a h. h) (λ now a h runs. cc)
        (λ now j a h runs. omega (arith, length-append a.accepted (j ∷ []))) (λ now n a some runs h. h) setup M s (idle setup.servers s)
      where
        idle : (ts : List Terms) (i : ℕ) → (let a : Account W = account (map new_account ts) i in a.runs ≡ true → 0 < length a.accepted)
        idle [] i runs = cc
        idle (t ∷ ts) zero runs = cc
        idle (t ∷ ts) (suc i) runs = idle ts i runs

    module _ (every ticks : ℕ) (fits : span_of (reserved work setup s) ticks ≤ every) where
      abbrev opens : List (Step W) → ℕ
      opens M = opens_after work setup s every M

      abbrev spent : List (Step W) → Due
      spent M = charged_due work setup s M

      abbrev span : ℕ
      span = span_of (reserved work setup s) ticks

      -- the last job takes as many ticks at most
      ticks_within : (M : List (Step W)) → IsOneStream work setup s every ticks M → (spent M).units ≤ ticks
      ticks_within [] are = omega arith
      ticks_within (x ∷ M) are = are.1.1

      -- the last job is due its span after it came
      record IsPaid (M : List (Step W)) : Type 0 where
        due : due_after work setup s M ≤ opens M - (every - span)
        last : (jobs_of work setup s M ≡ 0) ⊎ ((spent M).from + every ≤ opens M)

      -- if a job comes that is not early, it is due as if it came first
      paid_given : (M : List (Step W)) (job : W) → submit_refusal setup.backlog (faces work (after work setup M)) s ≡ None
          → IsOneStream work setup s every ticks (Submit s job ∷ M)
          → IsPaid M → ((spent (Submit s job ∷ M)).from ≡ (after work setup M).now) × (opens (Submit s job ∷ M) ≡ (after work setup M).now + every)
      paid_given M job accepted are h =
          let itself : eqb s s ≡ true = grind (arith, nat_tests) in
          let now = (after work setup M).now in
          let early = are.1.0 refl accepted in
          let due = h.due in
          let first : max (due_after work setup s M) now ≡ now = omega arith in
          (ap (λ (d : Due). d.from) (due_given work setup s M job accepted) ∙ first, rw (itself, accepted) refl)

      -- so it is after all steps of one stream
      paid_after : (M : List (Step W)) → IsOneStream work setup s every ticks M → IsPaid M
      paid_after [] are = record { due = let z = none_due (reserved work setup s) in rw z (omega arith); last = inl (no_jobs work setup s) }
      paid_after (x ∷ M) are = by_step work setup s (λ L. IsOneStream work setup s every ticks L → IsPaid L) x M
          (λ job accepted are.
          let g = paid_given M job accepted are (paid_after M are.0) in
          let from = g.0 in
          let later = g.1 in
          let short = span-mono (reserved work setup s) (spent (Submit s job ∷ M)).units ticks are.1.1 in
          record { due = omega arith; last = inr (omega arith) })
          (λ n charged are.
          let h = paid_after M are.0 in
          let some = runs_some M (charged_runs work (after work setup M) s n charged) in
          let counts = (charge_counts work setup s M n charged).0 in
          let from = ap (λ (d : Due). d.from) (due_charged work setup s M n charged) in
          let short = span-mono (reserved work setup s) (spent (Charge s n ∷ M)).units ticks are.1.1 in
          let came : (spent M).from + every ≤ opens M = elim h.last [ inl none ↦ absurd (omega arith) | inr came ↦ came ] in
          record { due = omega arith; last = inr (omega arith) })
          (λ other moves are.
          let h = paid_after M are.0 in
          let e = other.due in
          let o = other.opens every in
          let j = other.jobs in
          record { due = rw (e, o) h.due; last = rw (e, o, j) h.last })
          are

      module _ (keeps : (L : List (Step W)) → KeepsChargedDue work (record { setup = setup; steps = L })) (delay : ℕ) (apart : span + delay ≤ every) where
        -- the steps advance quietly, give server s one stream, and the others are charged no more than the delay
        pub record IsGoing (L : List (Step W)) : Type 0 where
          pub quiet : AdvanceQuietly work setup L
          pub stream : IsOneStream work setup s every ticks L
          pub others : others_charges (after work setup L).accounts s ≤ delay

        -- so are the steps before
        going_before : (K M : List (Step W)) → IsGoing (K ++ M) → IsGoing M
        going_before [] M h = h
        going_before (x ∷ K) M h =
            let less = others_behind work setup (x ∷ []) (K ++ M) s in
            let most = h.others in
            going_before K M (record { quiet = h.quiet.0; stream = h.stream.0; others = omega arith })

        -- a submit that s accepts
        module _ (M : List (Step W)) (job : W) (accepted : submit_refusal setup.backlog (faces work (after work setup M)) s ≡ None) where
          abbrev first : List (Step W)
          first = Submit s job ∷ M

          abbrev now : ℕ
          now = (after work setup M).now

          -- its job is the last one
          record IsLast (L : List (Step W)) : Type 0 where
            later : opens L ≡ now + every
            jobs : jobs_of work setup s L ≡ jobs_of work setup s M + 1
            units : (spent L).units + total_of work setup s first ≡ work.left job + total_of work setup s L

          -- its job is finished
          abbrev IsDone : List (Step W) → Type 0
          IsDone L = jobs_of work setup s M < finished work (account (after work setup L).accounts s)

          -- the last job is finished in time
          last_done : (K : List (Step W)) → IsGoing (K ++ first) → IsLast (K ++ first)
              → now + span + others_charges (after work setup (K ++ first)).accounts s ≤ (after work setup (K ++ first)).now → IsDone (K ++ first)
          last_done K go last late =
              let L = K ++ first in
              let start = going_before K first go in
              let from = (paid_given M job accepted start.stream (paid_after M start.stream.0)).0 in
              let given = ap (λ (d : Due). d.units) (due_given work setup s M job accepted) in
              let grown = total_behind work setup K first s in
              let units = last.units in
              let same : (spent first).units + (total_of work setup s L - total_of work setup s first) ≡ (spent L).units = omega arith in
              let short = span-mono (reserved work setup s) (spent L).units ticks (ticks_within L go.stream) in
              keeps L go.quiet K M s job (record { steps = refl; accepted = accepted }) (rw (same, reserved_after work setup s first, from) (omega arith))

          -- after more steps it is finished, or still the last
          done_or_last : (K : List (Step W)) → IsGoing (K ++ first) → IsDone (K ++ first) ⊎ IsLast (K ++ first)
          done_or_last [] go =
              let given = ap (λ (d : Due). d.units) (due_given work setup s M job accepted) in
              let g = paid_given M job accepted go.stream (paid_after M go.stream.0) in
              inr (record { later = g.1; jobs = jobs_given work setup s M job accepted; units = omega arith })
          done_or_last (x ∷ K) go =
              let L = K ++ first in
              let before = going_before (x ∷ []) L go in
              let more = finished_behind work setup (x ∷ []) L s in
              elim (done_or_last K before) [
                | inl done ↦ inl (omega arith)
                | inr last ↦
                    let later = last.later in
                    let jobs = last.jobs in
                    let units = last.units in
                    by_step work setup s (λ A. IsGoing A → finished work (account (after work setup L).accounts s) ≤ finished work (account
                    (after work setup A).accounts s) → IsDone A ⊎ IsLast A) x L
                    (λ next taken go more.
                    let early = go.stream.1.0 refl taken in
                    let few = before.others in
                    let done = last_done K before last (omega arith) in
                    inl (omega arith))
                    (λ n charged go more.
                    let c = charge_counts work setup s L n charged in
                    let same = c.0 in
                    let counts = c.1 in
                    let grown = ap (λ (d : Due). d.units) (due_charged work setup s L n charged) in
                    inr (record { later = last.later; jobs = omega arith; units = omega arith }))
                    (λ other moves go more.
                    let o = other.opens every in
                    let j = other.jobs in
                    let t = other.total in
                    let d = ap (λ (d : Due). d.units) other.due in
                    inr (record { later = omega arith; jobs = omega arith; units = omega arith }))
                    go more
              ]

          -- it is still the last after a step that is no submit
          last_next : (x : Step W) (L : List (Step W)) → NoSubmit (x ∷ L) → IsLast L → IsLast (x ∷ L)
          last_next x L plain last =
              let later = last.later in
              let jobs = last.jobs in
              let units = last.units in
              by_step work setup s (λ A. NoSubmit A → IsLast A) x L (λ next taken given. absurd given)
              (λ n charged given.
              let c = charge_counts work setup s L n charged in
              let same = c.0 in
              let counts = c.1 in
              let grown = ap (λ (d : Due). d.units) (due_charged work setup s L n charged) in
              record { later = last.later; jobs = omega arith; units = omega arith })
              (λ other moves given.
              let o = other.opens every in
              let j = other.jobs in
              let t = other.total in
              let d = ap (λ (d : Due). d.units) other.due in
              record { later = omega arith; jobs = omega arith; units = omega arith })
              plain

          -- and after charges
          last_charges : (C L : List (Step W)) → AreChargesOf s C → IsLast L → IsLast (C ++ L)
          last_charges [] L only last = last
          last_charges (Charge t n ∷ C) L only last = last_next (Charge t n) (C ++ L) tt (last_charges C L only.1 last)
          last_charges (Submit t job ∷ C) L only last = absurd only
          last_charges (Run ∷ C) L only last = absurd only
          last_charges (Advance n ∷ C) L only last = absurd only
          last_charges (Close t ∷ C) L only last = absurd only

          -- its job ends in time
          ends_in_time : (ends : (L : List (Step W)) → KeepsChargedDueEnd work (record { setup = setup; steps = L })) (C K : List (Step W))
              → (let L = C ++ Run ∷ (K ++ first) in
              IsGoing L → IsEndOf work (record { setup = setup; steps = L }) C K M s job
              → (after work setup L).now ≤ now + span + others_charges (after work setup L).accounts s)
          ends_in_time ends C K go of =
              let B = K ++ first in
              let R = Run ∷ B in
              let L = C ++ R in
              let run = going_before C R go in
              let before = going_before (Run ∷ []) B run in
              let start = going_before K first before in
              let undone = end_first work (record { setup = setup; steps = L }) C K M s job of in
              let last : IsLast L = elim (done_or_last K before) [
                | inl done ↦ absurd (omega arith)
                | inr last ↦ last_charges C R of.charges (last_next Run B tt last)
              ] in
              let from = (paid_given M job accepted start.stream (paid_after M start.stream.0)).0 in
              let given = ap (λ (d : Due). d.units) (due_given work setup s M job accepted) in
              let g = total_behind work setup K first s in
              let h = total_behind work setup (Run ∷ []) B s in
              let i = total_behind work setup C R s in
              let units = last.units in
              let same : (spent first).units + (total_of work setup s L - total_of work setup s first) ≡ (spent L).units = omega arith in
              let short = span-mono (reserved work setup s) (spent L).units ticks (ticks_within L go.stream) in
              let by = ends L go.quiet C K M s job of in
              let due : (after work setup L).now ≤ now + span_of (reserved work setup s) (spent L).units + others_charges (after work setup L).accounts s =
              rw (same, reserved_after work setup s first, from) at by in
              omega arith

          -- its job is finished in time
          done_in_time : (K : List (Step W)) → IsGoing (K ++ first)
              → now + span + others_charges (after work setup (K ++ first)).accounts s ≤ (after work setup (K ++ first)).now → IsDone (K ++ first)
          done_in_time K go late = elim (done_or_last K go) [ inl done ↦ done | inr last ↦ last_done K go last late ]

        -- if no job came in the steps K after M, and the next may come, all are finished
        abbrev IsEnough : List (Step W) → List (Step W) → Type 0
        IsEnough L M = (K : List (Step W)) → K ++ M ≡ L → jobs_of work setup s L ≡ jobs_of work setup s M → opens L ≡ opens M
            → jobs_of work setup s L ≤ finished work (account (after work setup L).accounts s)

        -- if the next job may come, all are finished
        pub all_done : (L : List (Step W)) → IsGoing L → opens L ≤ (after work setup L).now
            → jobs_of work setup s L ≤ finished work (account (after work setup L).accounts s)
        all_done L go late = from L [] refl refl refl
          where
            from : (M : List (Step W)) → IsEnough L M
            from [] = λ K e jobs later. let z = no_jobs work setup s in omega arith
            from (x ∷ M) = by_step work setup s (IsEnough L) x M
                (λ job accepted K e jobs later.
                let first = Submit s job ∷ M in
                let there : IsGoing (K ++ first) = subst IsGoing (sym e) go in
                let start = going_before K first there in
                let came = (paid_given M job accepted start.stream (paid_after M start.stream.0)).1 in
                let one = jobs_given work setup s M job accepted in
                let few = go.others in
                let done : IsDone M job accepted L = subst (λ A. now M job accepted + span + others_charges (after work setup A).accounts s ≤
                (after work setup A).now → IsDone M job accepted A) e
                (done_in_time M job accepted K there) (omega arith) in
                omega arith)
                (λ n charged K e jobs later.
                let c = (charge_counts work setup s M n charged).0 in
                from M (K ++ Charge s n ∷ []) (append_assoc K (Charge s n ∷ []) M ∙ e) (omega arith) later)
                (λ other moves K e jobs later. from M (K ++ x ∷ []) (append_assoc K (x ∷ []) M ∙ e) (jobs ∙ other.jobs) (later ∙ other.opens every))

        -- a job that came in the steps is finished in time
        pub overrun_done : (L K M : List (Step W)) (job : W) → IsGoing L → IsJobOf work (record { setup = setup; steps = L }) K M s job
            → (after work setup M).now + span + others_charges (after work setup L).accounts s ≤ (after work setup L).now
            → jobs_of work setup s M < finished work (account (after work setup L).accounts s)
        overrun_done L K M job go is late =
            let e = is.steps in
            subst (λ A. IsGoing A → (after work setup M).now + span + others_charges (after work setup A).accounts s ≤ (after work setup A).now
            → jobs_of work setup s M < finished work (account (after work setup A).accounts s)) (sym e) (done_in_time M job is.accepted K) go late

        -- if the next job may come, it is accepted
        pub overrun_accepts : (L : List (Step W)) → IsGoing L → 0 < setup.backlog → opens L ≤ (after work setup L).now
            → Accepts work (record { setup = setup; steps = L }) s
        overrun_accepts L go some late =
            let all = all_done L go late in
            λ shut. room_accepts work setup.backlog (after work setup L).accounts s shut (omega arith)

module _ {W : Type 0} (work : Meaning W) (N : History W) (keeps : (L : List (Step W)) → KeepsChargedDue work (when N L)) where
  -- the span of a server's ticks, by the reservation that it was given
  pub span_same : (s ticks : ℕ) → span_on work N s ticks ≡ span_of (reserved work N.setup s) ticks
  span_same s ticks = rw (reserved_after work N.setup s N.steps) refl

  -- each job of one stream is finished before the next comes
  pub overruns_kept : KeepsOverruns work N
  overruns_kept = λ quiet s ticks every delay alone K M job is late.
      let e = span_same s ticks in
      let apart : span_of (reserved work N.setup s) ticks + delay ≤ every = rw e at alone.apart in
      overrun_done work N.setup s every ticks (omega arith) keeps delay apart N.steps K M job
      (record { quiet = quiet; stream = alone.stream; others = alone.others }) is (omega arith)

  -- it ends in time
  pub overrun_ends_kept : ((L : List (Step W)) → KeepsChargedDueEnd work (when N L)) → KeepsOverrunEnds work N
  overrun_ends_kept ends = λ quiet s ticks every delay alone C K M job of.
      let e = span_same s ticks in
      let apart : span_of (reserved work N.setup s) ticks + delay ≤ every = rw e at alone.apart in
      let steps = end_steps work N C K M s job of in
      let go : IsGoing work N.setup s every ticks (omega arith) keeps delay apart N.steps = record { quiet = quiet; stream = alone.stream; others = alone.others } in
      rw (e, steps) (ends_in_time work N.setup s every ticks (omega arith) keeps delay apart M job of.job_of.accepted ends C K
      (subst (λ L. IsGoing work N.setup s every ticks (omega arith) keeps delay apart L) steps go)
      (subst (λ L. IsEndOf work (when N L) C K M s job) steps of))

  -- and the next is accepted
  pub accepting_overruns_kept : KeepsAcceptingOverruns work N
  accepting_overruns_kept = λ quiet s ticks every delay alone some late.
      let e = span_same s ticks in
      let apart : span_of (reserved work N.setup s) ticks + delay ≤ every = rw e at alone.apart in
      overrun_accepts work N.setup s every ticks (omega arith) keeps delay apart N.steps
      (record { quiet = quiet; stream = alone.stream; others = alone.others }) some late
