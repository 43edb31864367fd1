-- What steps keep of the clock, of what a server was charged, and of its jobs.
use Rattle.std.proofs.Common.{◌≡◌, ℕ, zero, suc, ◌+◌, ◌≤◌, ◌<◌, true, eqb, leb, List, [], ◌∷◌, ◌++◌, length, take, arith, refl}
use Rattle.std.proofs.Common.{sym, ap, ◌∙◌, inl, inr, subst, length-append}
use Rattle.std.proofs.Common.{Option, Some, None, ◌⊎◌}
use Rattle.std.specs.Prelude.{map}
use Rattle.std.specs.List.{sum_by}
use Rattle.std.proofs.lemmas.Bool.{cases_Bool, cases_lt}
use Rattle.std.proofs.lemmas.Bool.Decides.{nat_tests}
use Rattle.std.proofs.lemmas.List.{take-append-le}
use Rattle.std.proofs.lemmas.List.Sums.{sum_by-cons}
use Rattle.cbs_job.specs.Work.{Meaning}
use Rattle.cbs_lists.specs.Lists.{changed_at}
use Rattle.cbs_lists.proofs.Lists.{changed_here, changed_elsewhere}
use Rattle.cbs_rate.specs.Rate.{Rate}
use Rattle.cbs_rules.specs.Rules.{clock_end, Terms}
use Rattle.cbs_steps.specs.Accounts.{Account, finished, face_of, new_account, no_account, account_with_job, account_with_unit, account_with_charge}
use Rattle.cbs_steps.specs.Accounts.{account_with_replenishment, account_with_close, account_let_go}
use Rattle.cbs_steps.specs.Charged.{charged_due, others_charges}
use Rattle.cbs_steps.specs.Faces.{is_ready, submit_refusal, close_refusal}
use Rattle.cbs_steps.specs.History.{World, Setup, account, faces, start, let_go, tick, ticks, runner, after_submit, after_run, after_advance}
use Rattle.cbs_steps.specs.History.{after_closing, after_charging}
use Rattle.cbs_steps.specs.History.{charge_refusal, next, after}
use Rattle.cbs_steps.specs.declared.error.CoreError.{CoreError}
use Rattle.cbs_steps.specs.declared.step.Step.{Step}
use Rattle.cbs_steps.specs.declared.step.Step.TheVariants.{Submit, Run, Advance, Close, Charge}
use Rattle.cbs_steps.proofs.FinishedJobs.{count_done-le, count_done_within, count_done_beyond, need-mono}
use Rattle.cbs_steps.proofs.Histories.{charged_there, holds_ticks, holds_run_step, holds_advance_step, holds_close_step, holds_behind, terms_behind}
use Rattle.cbs_steps.proofs.Promises.{count_after, submitted}
use Rattle.cbs_guarantee.specs.Overruns.{opens_after, units_before}
use Rattle.cbs_guarantee.specs.Late.{released_after}
use Rattle.cbs_guarantee.specs.Streams.{jobs_of, streams_after}

module _ {W : Type 0} (work : Meaning W) where
  -- n ticks move the clock on by n
  ticks-now : (n : ℕ) (w : World W) → (ticks n w).now ≡ w.now + n
  unfolding ticks
  ticks-now zero w = omega arith
  ticks-now (suc n) w = let h = ticks-now n (tick w) in omega (arith, h)

  -- a submit leaves the clock
  pub submit-now : (w : World W) (s : ℕ) (job : W) (o : Option CoreError) → (after_submit work w s job o).now ≡ w.now
  submit-now w s job None = refl
  submit-now w s job (Some e) = refl

  -- a run
  run_grows : (w : World W) (o : Option ℕ) → w.now ≤ (after_run w o).now
  run_grows w None = omega arith
  run_grows w (Some s) = omega arith

  -- an advance
  advance_grows : (n : ℕ) (w : World W) → w.now ≤ (after_advance w n).now
  advance_grows zero w = omega arith
  advance_grows (suc n) w = let e = ticks-now (suc n) (let_go w) in omega arith

  -- a close
  close_grows : (w : World W) (s : ℕ) (o : Option CoreError) → w.now ≤ (after_closing w s o).now
  close_grows w s None = omega arith
  close_grows w s (Some e) = omega arith

  -- a charge
  charge_grows : (w : World W) (s n : ℕ) (o : Option CoreError) → w.now ≤ (after_charging w s n o).now
  charge_grows w s zero None = omega arith
  charge_grows w s (suc n) None = let e = ticks-now (suc n) (record w { accounts = changed_at (account_with_charge (suc n)) w.accounts s }) in omega arith
  charge_grows w s zero (Some e) = omega arith
  charge_grows w s (suc n) (Some e) = omega arith

  -- no step takes the clock back
  pub clock_grows : (backlog : ℕ) (w : World W) (x : Step W) → w.now ≤ (next work backlog w x).now
  clock_grows backlog w (Submit s job) = let e = submit-now w s job (submit_refusal backlog (faces work w) s) in omega arith
  clock_grows backlog w Run = run_grows w (runner work w)
  clock_grows backlog w (Advance n) = elim (cases_Bool (leb (w.now + n) clock_end)) [
    | inl t ↦ rw t (advance_grows n w)
    | inr f ↦ rw f (omega arith)
  ]
  clock_grows backlog w (Close s) = close_grows w s (close_refusal (faces work w) s)
  clock_grows backlog w (Charge s n) = charge_grows w s n (charge_refusal w s n)

  module _ (setup : Setup) where
    -- no list of steps does
    pub clock_behind : (K M : List (Step W)) → (after work setup M).now ≤ (after work setup (K ++ M)).now
    clock_behind [] M = omega arith
    clock_behind (x ∷ K) M = let h = clock_behind K M in let k = clock_grows setup.backlog (after work setup (K ++ M)) x in omega arith

    -- a server keeps the terms that it was given
    pub terms_after : (M : List (Step W)) (s : ℕ) → (account (after work setup M).accounts s).terms ≡ (account (start {W = W} setup).accounts s).terms
    terms_after [] s = refl
    terms_after (x ∷ M) s = terms_behind work setup (x ∷ []) M s ∙ terms_after M s

    -- what a server was charged only grows
    pub total_behind : (K M : List (Step W)) (s : ℕ)
        → (account (after work setup M).accounts s).charges.total ≤ (account (after work setup (K ++ M)).accounts s).charges.total
    total_behind K M s = let t = (account (after work setup M).accounts s).charges.total in
        holds_behind work (λ now a. t ≤ a.charges.total) (λ now a ready h. h) (λ now a h. h) (λ now a h. h) (λ now a h. h) (λ now j a h. h)
        (λ now n a some runs h. omega (arith, h)) setup K M s (omega arith)

    -- so does the most for one unit
    most_behind : (K M : List (Step W)) (s : ℕ)
        → (account (after work setup M).accounts s).charges.most ≤ (account (after work setup (K ++ M)).accounts s).charges.most
    most_behind K M s = let t = (account (after work setup M).accounts s).charges.most in
        holds_behind work (λ now a. t ≤ a.charges.most) (λ now a ready h. h) (λ now a h. h) (λ now a h. h) (λ now a h. h) (λ now j a h. h)
        (λ now n a some runs h. grind (arith, h)) setup K M s (omega arith)

    -- what the others were charged, all together, only grows
    pub others_behind : (K M : List (Step W)) (s : ℕ) → others_charges (after work setup M).accounts s ≤ others_charges (after work setup (K ++ M)).accounts s
    others_behind K M s =
        let n = count_after work setup M in
        let m = count_after work setup (K ++ M) in
        let h = less (after work setup M).accounts (after work setup (K ++ M)).accounts s (omega arith) (most_behind K M) in
        omega arith
      where
        none_beyond : (xs : List (Account W)) → (account xs (length xs)).charges.most ≡ 0
        none_beyond [] = refl
        none_beyond (a ∷ xs) = none_beyond xs

        less : (xs ys : List (Account W)) (s : ℕ) → length xs ≡ length ys → ((i : ℕ) → (account xs i).charges.most ≤ (account ys i).charges.most)
            → sum_by (λ a. a.charges.most) xs + (account ys s).charges.most ≤ sum_by (λ a. a.charges.most) ys + (account xs s).charges.most
        less [] [] s e h = omega arith
        less [] (b ∷ ys) s e h = absurd (omega arith)
        less (a ∷ xs) [] s e h = absurd (omega arith)
        less (a ∷ xs) (b ∷ ys) zero e h =
            let same : length xs ≡ length ys = omega arith in
            let rest = less xs ys (length ys) same (λ i. h (suc i)) in
            let x : (account xs (length ys)).charges.most ≡ 0 = rw (← same) (none_beyond xs) in
            let y = none_beyond ys in
            rw (sum_by-cons (λ (c : Account W). c.charges.most) a xs, sum_by-cons (λ (c : Account W). c.charges.most) b ys) (omega arith)
        less (a ∷ xs) (b ∷ ys) (suc s) e h =
            let first : a.charges.most ≤ b.charges.most = h 0 in
            let rest = less xs ys s (omega arith) (λ i. h (suc i)) in
            rw (sum_by-cons (λ (c : Account W). c.charges.most) a xs, sum_by-cons (λ (c : Account W). c.charges.most) b ys) (omega arith)

    -- a job that is finished stays finished
    pub finished_behind : (K M : List (Step W)) (s : ℕ)
        → finished work (account (after work setup M).accounts s) ≤ finished work (account (after work setup (K ++ M)).accounts s)
    finished_behind K M s = let k = finished work (account (after work setup M).accounts s) in
        holds_behind work (λ now a. k ≤ finished work a) (λ now a ready h. finished_unit a k h) (λ now a h. h) (λ now a h. h) (λ now a h. h)
        (λ now j a h. finished_job now j a k h) (λ now n a some runs h. h) setup K M s (omega arith)
      where
        finished_unit : (a : Account W) (k : ℕ) → k ≤ finished work a → k ≤ finished work (record a { got = a.got + 1 })
        finished_unit a k h = elim (cases_lt (finished work (record a { got = a.got + 1 })) k) [
          | inr ge ↦ ge
          | inl lt ↦
              let c = count_done_within work.left a.accepted a.got in
              let l = count_done-le work.left a.accepted a.got in
              let b = count_done_beyond work.left a.accepted (a.got + 1) (omega arith) in
              let m = need-mono work.left a.accepted (finished work (record a { got = a.got + 1 }) + 1) (finished work a) (omega arith) in
              absurd (omega arith)
        ]

        finished_job : (now : ℕ) (job : W) (a : Account W) (k : ℕ) → k ≤ finished work a → k ≤ finished work (account_with_job work now job a)
        finished_job now job a k h = elim (cases_lt (finished work (account_with_job work now job a)) k) [
          | inr ge ↦ ge
          | inl lt ↦
              let f = finished work (account_with_job work now job a) in
              let c = count_done_within work.left a.accepted a.got in
              let l = count_done-le work.left a.accepted a.got in
              let more = length-append a.accepted (job ∷ []) in
              let b = count_done_beyond work.left (a.accepted ++ job ∷ []) a.got (omega arith) in
              let e : take (f + 1) (a.accepted ++ job ∷ []) ≡ take (f + 1) a.accepted = take-append-le (f + 1) a.accepted (job ∷ []) (omega arith) in
              let m = need-mono work.left a.accepted (f + 1) (finished work a) (omega arith) in
              absurd (omega (arith, rw e at b))
        ]

    module _ (s : ℕ) where
      -- what server s was charged in all
      abbrev pub total_of : List (Step W) → ℕ
      total_of M = (account (after work setup M).accounts s).charges.total

      -- at the start there is no job
      pub no_jobs : jobs_of work setup s [] ≡ 0
      no_jobs = go setup.servers s
        where
          go : (ts : List Terms) (i : ℕ) → (let a : Account W = account (map new_account ts) i in length a.accepted ≡ 0)
          go [] i = refl
          go (t ∷ ts) zero = refl
          go (t ∷ ts) (suc i) = go ts i

      -- one more step gives server s no job, and charges it nothing
      pub record IsOther (x : Step W) (M : List (Step W)) : Type 0 where
        pub jobs : jobs_of work setup s (x ∷ M) ≡ jobs_of work setup s M
        pub total : total_of (x ∷ M) ≡ total_of M
        pub due : charged_due work setup s (x ∷ M) ≡ charged_due work setup s M
        pub streams : (rates : List Rate) (of : ℕ → ℕ) → streams_after work setup s rates of (x ∷ M) ≡ streams_after work setup s rates of M
        pub released : (at : ℕ → ℕ) (rates : List Rate) (of : ℕ → ℕ) → released_after work setup s at rates of (x ∷ M) ≡ released_after work setup s at rates of M
        pub opens : (every : ℕ) → opens_after work setup s every (x ∷ M) ≡ opens_after work setup s every M
        pub units : units_before work setup s (x ∷ M) ≡ units_before work setup s M

      -- From one world to another, server s got units, was replenished, closed or let go, and no more: what these keep
      -- of its account still holds
      abbrev pub Moves : World W → World W → Type 1
      Moves v w = (Q : Account W → Type 0) → ((a : Account W) → is_ready (face_of work a) ≡ true → Q a → Q (account_with_unit a))
          → ((now : ℕ) (a : Account W) → Q a → Q (account_with_replenishment now a)) → ((a : Account W) → Q a → Q (account_with_close a))
          → ((a : Account W) → Q a → Q (account_let_go a)) → Q (account v.accounts s) → Q (account w.accounts s)

      -- a run
      moves_run : (w : World W) → Moves w (next work setup.backlog w Run)
      moves_run w = λ Q unit fill close loose h. holds_run_step work (λ now. Q) (λ now. unit) (λ now. fill (now + 1)) (λ now. close)
          (λ now. loose) setup.backlog w s h

      -- an advance
      moves_advance : (w : World W) (n : ℕ) → Moves w (next work setup.backlog w (Advance n))
      moves_advance w n = λ Q unit fill close loose h. holds_advance_step work (λ now. Q) (λ now. unit) (λ now. fill (now + 1)) (λ now. close)
          (λ now. loose) setup.backlog w n s h

      -- a close
      moves_close : (w : World W) (t : ℕ) → Moves w (next work setup.backlog w (Close t))
      moves_close w t = λ Q unit fill close loose h. holds_close_step work (λ now. Q) (λ now. unit) (λ now. fill (now + 1)) (λ now. close)
          (λ now. loose) setup.backlog w t s h

      -- n ticks
      pub moves_ticks : (n : ℕ) (w : World W) → Moves w (ticks n w)
      moves_ticks n w = λ Q unit fill close loose h. holds_ticks work (λ now. Q) (λ now. unit) (λ now. fill (now + 1)) (λ now. close) (λ now. loose) n w s h

      -- a submit to another server, or one that is refused
      moves_submit : (w : World W) (t : ℕ) (job : W) (o : Option CoreError) → (o ≡ None → ¬ (t ≡ s)) → Moves w (after_submit work w t job o)
      moves_submit w t job (Some e) other = λ Q unit fill close loose h. h
      moves_submit w t job None other = λ Q unit fill close loose h.
          let there : account (changed_at (account_with_job work w.now job) w.accounts t) s ≡ account w.accounts s =
          changed_elsewhere (account_with_job work w.now job) w.accounts t s no_account (λ e. other refl (sym e)) in
          rw there h

      -- a charge of another server, or one that is refused
      moves_charge : (w : World W) (t n : ℕ) (o : Option CoreError) → (o ≡ None → ¬ (t ≡ s)) → Moves w (after_charging w t n o)
      moves_charge w t zero (Some e) other = λ Q unit fill close loose h. h
      moves_charge w t (suc n) (Some e) other = λ Q unit fill close loose h. h
      moves_charge w t zero None other = λ Q unit fill close loose h. h
      moves_charge w t (suc n) None other = λ Q unit fill close loose h.
          let f = account_with_charge (suc n) in
          let there : account (changed_at f w.accounts t) s ≡ account w.accounts s = changed_elsewhere f w.accounts t s no_account (λ e. other refl (sym e)) in
          moves_ticks (suc n) (record w { accounts = changed_at f w.accounts t }) Q unit fill close loose (rw there h)

      -- then its jobs, and what it was charged, are those before
      moved_same : (v w : World W) → Moves v w
          → (length (account w.accounts s).accepted ≡ length (account v.accounts s).accepted) × ((account w.accounts s).charges.total ≡
          (account v.accounts s).charges.total)
      moved_same v w moves = moves (λ a. (length a.accepted ≡ length (account v.accounts s).accepted) × (a.charges.total ≡
          (account v.accounts s).charges.total))
          (λ a ready h. h) (λ now a h. h) (λ a h. h) (λ a h. h) (refl, refl)

      -- a charge of server s adds to its total, and gives it no job
      charge_here : (w : World W) (n : ℕ) (o : Option CoreError) → o ≡ None → s < length w.accounts
          → (length (account (after_charging w s n o).accounts s).accepted ≡ length (account w.accounts s).accepted)
          × ((account (after_charging w s n o).accounts s).charges.total ≡ (account w.accounts s).charges.total + n)
      charge_here w n (Some e) bad lt = cc
      charge_here w zero None charged lt = (refl, omega arith)
      charge_here w (suc n) None charged lt =
          let f = account_with_charge (suc n) in
          let here : account (changed_at f w.accounts s) s ≡ f (account w.accounts s) = changed_here f w.accounts s no_account lt in
          holds_ticks work (λ now a. (length a.accepted ≡ length (account w.accounts s).accepted) × (a.charges.total ≡
          (account w.accounts s).charges.total + suc n))
          (λ now a ready h. h) (λ now a h. h) (λ now a h. h) (λ now a h. h) (suc n) (record w { accounts = changed_at f w.accounts s }) s
          (rw here refl, rw here refl)

      -- what is accepted of server s is one job more
      pub jobs_given : (M : List (Step W)) (job : W) → submit_refusal setup.backlog (faces work (after work setup M)) s ≡ None
          → jobs_of work setup s (Submit s job ∷ M) ≡ jobs_of work setup s M + 1
      jobs_given M job accepted =
          let e = ap (λ (a : Account W). length a.accepted) (submitted work setup M s job accepted) in
          e ∙ length-append (account (after work setup M).accounts s).accepted (job ∷ [])

      -- a charge of server s that is not refused counts
      pub charge_counts : (M : List (Step W)) (n : ℕ) → charge_refusal (after work setup M) s n ≡ None
          → (jobs_of work setup s (Charge s n ∷ M) ≡ jobs_of work setup s M) × (total_of (Charge s n ∷ M) ≡ total_of M + n)
      charge_counts M n charged = let w = after work setup M in charge_here w n (charge_refusal w s n) charged (charged_there work w s n charged)

      -- a refusal, or none
      refused_or : (o : Option CoreError) → (o ≡ None) ⊎ ((e : CoreError) × (o ≡ Some e))
      refused_or None = inl refl
      refused_or (Some e) = inr (e, refl)

      -- what holds after each step that gives server s a job, that charges it, and of each other, holds after every one
      pub by_step : (P : List (Step W) → Type 0) (x : Step W) (M : List (Step W))
          → ((job : W) → submit_refusal setup.backlog (faces work (after work setup M)) s ≡ None → P (Submit s job ∷ M))
          → ((n : ℕ) → charge_refusal (after work setup M) s n ≡ None → P (Charge s n ∷ M))
          → (IsOther x M → Moves (after work setup M) (after work setup (x ∷ M)) → P (x ∷ M)) → P (x ∷ M)
      by_step P (Submit t job) M gives charges rest =
          let w = after work setup M in
          let o = submit_refusal setup.backlog (faces work w) t in
          elim (cases_Bool (eqb t s)) [
            | inr n ↦
                let moves = moves_submit w t job o (λ a e. let y : eqb t s ≡ true = grind (arith, nat_tests) in cc) in
                let same = moved_same w (after_submit work w t job o) moves in
                rest
                (record { jobs = same.0; total = same.1; due = rw n refl; streams = λ rates of. rw n refl; released = λ at rates of. rw n refl; opens = λ every. rw n refl; units = rw n refl })
                moves
            | inl y ↦
                let e : t ≡ s = grind (arith, nat_tests) in
                elim (refused_or o) [
                  | inl accepted ↦ subst (λ u. P (Submit u job ∷ M)) (sym e) (gives job (rw e at accepted))
                  | inr (why, refused) ↦
                      let moves = moves_submit w t job o (λ a. let bad : Some why ≡ None = rw refused at a in cc) in
                      let same = moved_same w (after_submit work w t job o) moves in
                      rest (record {
                        jobs = same.0;
                        total = same.1;
                        due = rw (y, refused) refl;
                        streams = λ rates of. rw
                            (y, refused) refl;
                        released = λ at rates of. rw (y, refused) refl;
                        opens = λ every. rw (y, refused) refl;
                        units = rw (y, refused) refl;
                      }) moves
                ]
          ]
      by_step P Run M gives charges rest =
          let w = after work setup M in
          let moves = moves_run w in
          let same = moved_same w (next work setup.backlog w Run) moves in
          rest (record { jobs = same.0; total = same.1; due = refl; streams = λ rates of. refl; released = λ at rates of. refl; opens = λ every. refl; units = refl }) moves
      by_step P (Advance n) M gives charges rest =
          let w = after work setup M in
          let moves = moves_advance w n in
          let same = moved_same w (next work setup.backlog w (Advance n)) moves in
          rest (record { jobs = same.0; total = same.1; due = refl; streams = λ rates of. refl; released = λ at rates of. refl; opens = λ every. refl; units = refl }) moves
      by_step P (Close t) M gives charges rest =
          let w = after work setup M in
          let moves = moves_close w t in
          let same = moved_same w (next work setup.backlog w (Close t)) moves in
          rest (record { jobs = same.0; total = same.1; due = refl; streams = λ rates of. refl; released = λ at rates of. refl; opens = λ every. refl; units = refl }) moves
      by_step P (Charge t n) M gives charges rest =
          let w = after work setup M in
          let o = charge_refusal w t n in
          elim (cases_Bool (eqb t s)) [
            | inr f ↦
                let moves = moves_charge w t n o (λ a e. let y : eqb t s ≡ true = grind (arith, nat_tests) in cc) in
                let same = moved_same w (after_charging w t n o) moves in
                rest (record { jobs = same.0; total = same.1; due = rw f refl; streams = λ rates of. refl; released = λ at rates of. refl; opens = λ every. refl; units = refl }) moves
            | inl y ↦
                let e : t ≡ s = grind (arith, nat_tests) in
                elim (refused_or o) [
                  | inl charged ↦ subst (λ u. P (Charge u n ∷ M)) (sym e) (charges n (rw e at charged))
                  | inr (why, refused) ↦
                      let moves = moves_charge w t n o (λ a. let bad : Some why ≡ None = rw refused at a in cc) in
                      let same = moved_same w (after_charging w t n o) moves in
                      rest (record {
                        jobs = same.0;
                        total = same.1;
                        due = rw
                            (y, refused) refl;
                        streams = λ rates of. refl;
                        released = λ at rates of. refl;
                        opens = λ every. refl;
                        units = refl;
                      }) moves
                ]
          ]
