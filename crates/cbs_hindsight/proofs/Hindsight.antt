-- A job that ends early, over whole histories.
use Rattle.std.proofs.Common.{drop, ◌≡◌, ℕ, zero, suc, ◌+◌, ◌-◌, ◌≤◌, ◌<◌, true, false, eqb, leb, ltb, List, [], ◌∷◌, ◌++◌, length, map, get_or, refl, ap, arith, inl, inr, sym, ◌∙◌, subst, Option, Some, None}
use Rattle.std.specs.Prelude.{if◌then◌else◌}
use Rattle.std.specs.List.{AllByRecursion}
use Rattle.std.specs.Option.{is_some, is_none}
use Rattle.cbs_steps.specs.Laws.{account_in}
use Rattle.std.proofs.lemmas.Bool.{cases_Bool}
use Rattle.std.proofs.lemmas.Bool.Decides.{nat_tests}
use Rattle.cbs_job.specs.Work.{Meaning, Lowers, whole}
use Rattle.cbs_rules.specs.Rules.{Terms, clock_end}
use Rattle.cbs_lists.specs.Lists.{changed_at}
use Rattle.cbs_lists.proofs.Lists.{length-changed_at, changed_elsewhere}
use Rattle.cbs_steps.specs.Accounts.{Account, need, finished, new_account, no_account, account_with_job, account_with_charge, account_with_close}
use Rattle.cbs_steps.specs.Choice.{chosen_among}
use Rattle.cbs_steps.specs.Faces.{ranks, submit_refusal, close_refusal}
use Rattle.cbs_steps.specs.History.{after_run, ◌⊕◌, reply_in, world_after}
use Rattle.std.proofs.Common.{◌⊎◌}
use Rattle.cbs_steps.specs.History.{World, Setup, History, account, faces, chosen, tick, ticks, start, runner, after_submit, after_advance, after_closing, after_charging, charge_refusal, let_go, next, after}
use Rattle.cbs_steps.specs.History.{unit_reply, run_reply, reply_to}
use Rattle.cbs_steps.specs.declared.error.CoreError.{CoreError}
use Rattle.cbs_steps.specs.declared.reply.Ran.{Ran}
use Rattle.cbs_steps.specs.declared.reply.Ran.TheVariants as ran
use Rattle.cbs_steps.specs.declared.reply.Reply.{Reply}
use Rattle.cbs_steps.specs.declared.reply.Reply.TheVariants as reply
use Rattle.cbs_steps.specs.declared.step.Step.{Step}
use Rattle.cbs_steps.specs.declared.step.Step.TheVariants.{Submit, Run, Advance, Close, Charge}
use Rattle.cbs_steps.proofs.Ends.{ran_of}
use Rattle.cbs_steps.proofs.FinishedJobs.{count_done_within, count_done_beyond, count_done-is}
use Rattle.cbs_steps.proofs.Running.{replenished_account, loose_account}
use Rattle.cbs_hindsight.specs.Hindsight.{IsAtUnit}
use Rattle.cbs_hindsight.specs.Hindsight.{Ending, IsCut, HasCut, step_cut, steps_cut, replies, does_nothing, effective_steps, effective, KeepsEffective, EndsWithUnit, IsBeside, completion_cut, EndsEarly, KeepsHindsight}
use Rattle.cbs_steps.specs.Promises.{owed}
use Rattle.cbs_hindsight.proofs.CutLists.{changed_none, changed_get, sum_shorter, kept_at, seen_here, need_cut, done-ge}
use Rattle.cbs_hindsight.proofs.Cuts.{IsEarly, IsUnit, early_before, grown_next, unit_is, chosen_active, chosen_within, shorter, cut_of, finished_cut, faces_cut, step_made, step_told, beside_made, beside_told}

-- Work after n of its units
abbrev later : {W : Type 0} → Meaning W → ℕ → W → W
later work zero w = w
later work (suc n) w = later work n (work.after w)

-- each kind of work can be cut: without its first units a job is shorter
pub has_cut : {W : Type 0} (work : Meaning W) → Lowers work → HasCut work
has_cut {W} work law = (λ n w. later work (work.left w - n) w, λ n w le. go (work.left w - n) n w (omega arith))
  where
    go : (m n : ℕ) (w : W) → work.left w ≡ m + n → work.left (later work m w) ≡ n
    go zero n w e = omega arith
    go (suc m) n w e = let l = law w (omega arith) in go m n (work.after w) (omega arith)

-- the tails of two lists that are the same
tail_of : {X : Type 0} {x y : X} {xs ys : List X} → x ∷ xs ≡ y ∷ ys → xs ≡ ys
tail_of {X} e = ap (drop 1) e

-- the server of a unit, and the number of its job
abbrev unit_server : Ran → ℕ
unit_server (ran.Unit s k) = s
unit_server _ = 0

abbrev unit_seq : Ran → ℕ
unit_seq (ran.Unit s k) = k
unit_seq _ = 0

module _ {W : Type 0} where
  -- two accounts with the same jobs and units
  record IsSame (a b : Account W) : Type 0 where
    jobs : b.accepted ≡ a.accepted
    got : b.got ≡ a.got

  same_here : (a : Account W) → IsSame a a
  same_here a = record { jobs = refl; got = refl }

  same_on : (a b c : Account W) → IsSame a b → IsSame b c → IsSame a c
  same_on a b c h k = record { jobs = k.jobs ∙ h.jobs; got = k.got ∙ h.got }

  -- a change that leaves the jobs and units of each account
  same_changed : (f : Account W → Account W) (w : World W) (t s : ℕ) → ((a : Account W) → (f a).accepted ≡ a.accepted) → ((a : Account W) → (f a).got ≡ a.got)
      → IsSame (account w.accounts s) (account (changed_at f w.accounts t) s)
  same_changed f w t s jobs got = record {
    jobs = kept_at (λ (a : Account W). a.accepted) f w.accounts t s no_account jobs;
    got = kept_at (λ (a : Account W). a.got) f w.accounts t s no_account got;
  }

  -- so do ticks
  same_ticks : (n : ℕ) (w : World W) (s : ℕ) → IsSame (account w.accounts s) (account (ticks n w).accounts s)
  unfolding ticks
  same_ticks zero w s = same_here (account w.accounts s)
  same_ticks (suc n) w s =
      let one = replenished_account (w.now + 1) w.accounts s in
      same_on (account w.accounts s) (account (tick w).accounts s) (account (ticks n (tick w)).accounts s) (rw one record { jobs = refl; got = refl }) (same_ticks n (tick w) s)

  same_let_go : (w : World W) (s : ℕ) → IsSame (account w.accounts s) (account (let_go w).accounts s)
  same_let_go w s = rw (loose_account w.accounts s) record { jobs = refl; got = refl }

module _ {W : Type 0} (work : Meaning W) where
  -- so does a step beside the server
  same_beside : (backlog : ℕ) (w : World W) (x : Step W) (s : ℕ) → IsBeside s x → IsSame (account w.accounts s) (account (next work backlog w x).accounts s)
  same_beside backlog w (Submit t job) s other = go (submit_refusal backlog (faces work w) t)
    where
      go : (o : Option CoreError) → IsSame (account w.accounts s) (account (after_submit work w t job o).accounts s)
      go None = rw (changed_elsewhere (account_with_job work w.now job) w.accounts t s no_account (λ q. other (sym q))) (same_here (account w.accounts s))
      go (Some r) = same_here (account w.accounts s)
  same_beside backlog w Run s none = absurd none
  same_beside backlog w (Advance n) s _ = elim (cases_Bool (leb (w.now + n) clock_end)) [ inl y ↦ rw y (go n) | inr f ↦ rw f (same_here (account w.accounts s)) ]
    where
      go : (n : ℕ) → IsSame (account w.accounts s) (account (after_advance w n).accounts s)
      go zero = same_here (account w.accounts s)
      go (suc n) = same_on (account w.accounts s) (account (let_go w).accounts s) (account (ticks (suc n) (let_go w)).accounts s) (same_let_go w s) (same_ticks (suc n) (let_go w) s)
  same_beside backlog w (Close t) s _ = go (close_refusal (faces work w) t)
    where
      go : (o : Option CoreError) → IsSame (account w.accounts s) (account (after_closing w t o).accounts s)
      go None = same_changed account_with_close w t s (λ a. refl) (λ a. refl)
      go (Some r) = same_here (account w.accounts s)
  same_beside backlog w (Charge t n) s _ = go n (charge_refusal w t n)
    where
      go : (n : ℕ) (o : Option CoreError) → IsSame (account w.accounts s) (account (after_charging w t n o).accounts s)
      go zero None = same_here (account w.accounts s)
      go (suc n) None =
          let v = record w { accounts = changed_at (account_with_charge (suc n)) w.accounts t } in
          same_on (account w.accounts s) (account v.accounts s) (account (ticks (suc n) v).accounts s)
          (same_changed (account_with_charge (suc n)) w t s (λ a. refl) (λ a. refl)) (same_ticks (suc n) v s)
      go zero (Some r) = same_here (account w.accounts s)
      go (suc n) (Some r) = same_here (account w.accounts s)

  -- so do all steps beside it
  same_besides : (setup : Setup) (K L : List (Step W)) (s : ℕ) → AllByRecursion (IsBeside s) K
      → IsSame (account (after work setup L).accounts s) (account (after work setup (K ++ L)).accounts s)
  same_besides setup [] L s all = same_here (account (after work setup L).accounts s)
  same_besides setup (x ∷ K) L s all =
      let v = after work setup (K ++ L) in
      same_on (account (after work setup L).accounts s) (account v.accounts s) (account (next work setup.backlog v x).accounts s)
      (same_besides setup K L s all.1) (same_beside setup.backlog v x s all.0)

  -- the next unit is one of job k of server s, and not its last
  record GivesUnit (w : World W) (s k : ℕ) : Type 0 where
    chosen : chosen work w ≡ Some s
    early : leb clock_end w.now ≡ false
    first : finished work (account w.accounts s) ≡ k
    more : (account w.accounts s).got + 1 < need work (account w.accounts s) (k + 1)

  gives_unit : (w : World W) (s k : ℕ) (o : Option ℕ) → chosen work w ≡ o → run_reply work w o ≡ ran.Unit s k → GivesUnit w s k
  gives_unit w s k None c e = cc
  gives_unit w s k (Some t) c e = elim (cases_Bool (leb clock_end w.now)) [
    | inl y ↦ let q : ran.ClockEnd ≡ ran.Unit s k = rw y at e in cc
    | inr f ↦
        let a = account w.accounts t in
        let j = finished work a in
        elim (cases_Bool (eqb (need work a (j + 1)) (a.got + 1))) [
          | inl y ↦ let q : ran.Done (record { server = t; seq = j; result = get_or (map (whole work) a.accepted) j 0 }) ≡ ran.Unit s k = rw (f, y) at e in cc
          | inr n ↦
              let q : ran.Unit t j ≡ ran.Unit s k = rw (f, n) at e in
              let same : t ≡ s = ap unit_server q in
              let first : j ≡ k = ap unit_seq q in
              let beyond = count_done_beyond work.left a.accepted a.got (chosen_active work w t c) in
              let more : a.got + 1 < need work a (j + 1) = grind (arith, nat_tests) in
              subst (λ v. GivesUnit w v k) same (record { chosen = c; early = f; first = first; more = rw first at more })
        ]
  ]

  -- what the server has with that unit, and after the steps beside
  unit_after : (setup : Setup) (K L : List (Step W)) (s k : ℕ) → GivesUnit (after work setup L) s k → AllByRecursion (IsBeside s) K
      → IsUnit (account (after work setup L).accounts s) (account (after work setup (K ++ Run ∷ L)).accounts s)
  unit_after setup K L s k unit all =
      let w = after work setup L in
      let f = unit.early in
      let c = unit.chosen in
      let early : ltb w.now clock_end ≡ true = grind (arith, nat_tests) in
      let runs : runner work w ≡ Some s = rw early c in
      let one : IsUnit (account w.accounts s) (account (after work setup (Run ∷ L)).accounts s) = rw runs (unit_is w s (chosen_within work w s c)) in
      let rest = same_besides setup K (Run ∷ L) s all in
      record { jobs = rest.jobs ∙ one.jobs; got = rest.got ∙ one.got }

module _ {W : Type 0} (work : Meaning W) (cut : ℕ → W → W) (law : IsCut work cut) (e : Ending) (setup : Setup) where
  abbrev cut_world : World W → World W
  cut_world w = cut_of work cut law e w

  abbrev server : List (Step W) → Account W
  server L = account (after work setup L).accounts e.server

  -- at the start there is no job
  start_cut : start setup ≡ cut_world (start setup)
  start_cut = ap (λ (xs : List (Account W)). record { now = 0; accounts = xs })
      (sym (changed_none (shorter work cut law e) (map new_account setup.servers) e.server no_account (none setup.servers e.server)))
    where
      none : (ts : List Terms) (s : ℕ) → shorter work cut law e (account (map new_account ts) s) ≡ account (map new_account ts) s
      none [] s = refl
      none (t ∷ ts) zero = refl
      none (t ∷ ts) (suc s) = none ts s

  -- before the last unit of the job, what the steps leave
  same_after : (L : List (Step W)) → IsEarly work e (server L) → after work setup (steps_cut work cut e setup L) ≡ cut_world (after work setup L)
  same_after [] is = start_cut
  same_after (x ∷ L) is =
      let w = after work setup L in
      let before = early_before work e (server L) (server (x ∷ L)) (grown_next work setup.backlog w x e.server) is in
      ap (λ v. next work setup.backlog v (step_cut work cut e setup.backlog w x)) (same_after L before) ∙ step_made work cut law e setup.backlog w x before

  -- and the replies
  same_replies : (L : List (Step W)) → IsEarly work e (server L) → replies work setup (steps_cut work cut e setup L) ≡ replies work setup L
  same_replies [] is = refl
  same_replies (x ∷ L) is =
      let w = after work setup L in
      let M = steps_cut work cut e setup L in
      let y = step_cut work cut e setup.backlog w x in
      let before = early_before work e (server L) (server (x ∷ L)) (grown_next work setup.backlog w x e.server) is in
      ap (λ v. reply_to work setup.backlog v y ∷ replies work setup M) (same_after L before)
      ∙ ap (λ r. r ∷ replies work setup M) (step_told work cut law e setup.backlog w x before is)
      ∙ ap (λ rs. reply_to work setup.backlog w x ∷ rs) (same_replies L before)

  module _ (L : List (Step W)) (unit : GivesUnit work (after work setup L) e.server e.seq) (last : need work (server L) e.seq + e.units ≡ (server L).got + 1) where
    abbrev a : Account W
    a = server L

    abbrev w : World W
    w = after work setup L

    abbrev told : Reply W
    told = reply.Ran (ran.Done (completion_cut work cut e a))

    enough : need work a e.seq + e.units ≤ need work a (e.seq + 1)
    enough = let m = unit.more in omega arith

    there : e.seq < length a.accepted
    there = let k = unit.first in let c = chosen_active work w e.server unit.chosen in omega arith

    -- before that unit the job is not at its end
    before : IsEarly work e a
    before = record { early = λ lt. record { short = omega arith; enough = enough } }

    -- after the steps beside, what all steps leave
    same_world : (K : List (Step W)) → AllByRecursion (IsBeside e.server) K
        → after work setup (steps_cut work cut e setup (K ++ Run ∷ L)) ≡ cut_world (after work setup (K ++ Run ∷ L))
    same_world [] all = ap (λ v. next work setup.backlog v Run) (same_after L before) ∙ step_made work cut law e setup.backlog w Run before
    same_world (x ∷ K) all =
        let v = after work setup (K ++ Run ∷ L) in
        ap (λ u. next work setup.backlog u (step_cut work cut e setup.backlog v x)) (same_world K all.1) ∙ beside_made work cut law e setup.backlog v x all.0

    -- so it is of the first steps, however many
    early_tail : (J M : List (Step W)) → J ++ M ≡ L → IsEarly work e (server M)
    early_tail J M same = go J M (rw same before)
      where
        go : (J M : List (Step W)) → IsEarly work e (server (J ++ M)) → IsEarly work e (server M)
        go [] M is = is
        go (x ∷ J) M is =
            go J M (early_before work e (server (J ++ M)) (server (x ∷ J ++ M)) (grown_next work setup.backlog (after work setup (J ++ M)) x e.server) is)

    tail_world : (K J M : List (Step W)) → AllByRecursion (IsBeside e.server) K → K ++ Run ∷ L ≡ J ++ M
        → after work setup (steps_cut work cut e setup M) ≡ cut_world (after work setup M)
    tail_world K [] M all same = rw (← same) (same_world K all)
    tail_world [] (x ∷ J) M all same = same_after M (early_tail J M (sym (tail_of same)))
    tail_world (y ∷ K) (x ∷ J) M all same = tail_world K J M all.1 (tail_of same)

    -- nor is the job shorter then than in hindsight, if it was accepted
    abbrev HasUnits : List (Step W) → Type 0
    HasUnits M = e.seq < length (server M).accepted → need work (server M) e.seq + e.units ≤ need work (server M) (e.seq + 1)

    enough_tail : (K J M : List (Step W)) → AllByRecursion (IsBeside e.server) K → K ++ Run ∷ L ≡ J ++ M → HasUnits M
    enough_tail K [] M all same = λ lt. let jobs = (unit_after work setup K L e.server e.seq unit all).jobs in rw (← same, jobs) enough
    enough_tail [] (x ∷ J) M all same = λ lt. ((early_tail J M (sym (tail_of same))).early lt).enough
    enough_tail (y ∷ K) (x ∷ J) M all same = enough_tail K J M all.1 (tail_of same)

    -- no server is owed more in hindsight
    less_owed : (M : List (Step W)) → HasUnits M → after work setup (steps_cut work cut e setup M) ≡ cut_world (after work setup M) → (t : ℕ)
        → owed work (account (after work setup (steps_cut work cut e setup M)).accounts t) ≤ owed work (account (after work setup M).accounts t)
    less_owed M enough same t =
        let accounts = (after work setup M).accounts in
        rw same (elim (cases_Bool (eqb t e.server)) [
          | inl y ↦
              let here : t ≡ e.server = grind (arith, nat_tests) in
              let sum = sum_shorter work.left (cut e.units) e.units (law e.units) (server M).accepted e.seq enough in
              rw (here, changed_get (shorter work cut law e) accounts e.server no_account refl) (omega arith)
          | inr n ↦ rw (changed_elsewhere (shorter work cut law e) accounts e.server t no_account (λ q. let y : eqb t e.server ≡ true = grind (arith, nat_tests) in cc)) (omega arith)
        ])

    -- in hindsight that unit is the last one
    told_last : reply_to work setup.backlog (cut_world w) Run ≡ told
    told_last =
        let b = shorter work cut law e a in
        let same : chosen work (cut_world w) ≡ Some e.server = ap (λ fs. chosen_among (ranks fs)) (faces_cut work cut law e w before) ∙ unit.chosen in
        let here : account (cut_world w).accounts e.server ≡ b = changed_get (shorter work cut law e) w.accounts e.server no_account refl in
        let first : finished work b ≡ e.seq = finished_cut work cut law e a before ∙ unit.first in
        let need_same : need work b (e.seq + 1) ≡ a.got + 1 = need_cut work.left (cut e.units) e.units (law e.units) a.accepted e.seq there enough ∙ last in
        let done : unit_reply work b e.server ≡ ran.Done (completion_cut work cut e a) =
        let full : eqb (need work b (e.seq + 1)) (a.got + 1) ≡ true = grind (arith, nat_tests) in
        let with : ℕ → Ran = λ k. if eqb (need work b (k + 1)) (a.got + 1) then ran.Done (record { server = e.server; seq = k; result = get_or (map (whole work) b.accepted) k 0 }) else ran.Unit e.server k in
        let result : get_or (map (whole work) b.accepted) e.seq 0 ≡ get_or (map (λ v. whole work (cut e.units v)) a.accepted) e.seq 0 = seen_here (whole work) (cut e.units) a.accepted e.seq in
        ap with first ∙ rw full (ap (λ r. ran.Done (record { server = e.server; seq = e.seq; result = r })) result) in
        let f = unit.early in
        ap (λ o. reply.Ran (run_reply work (cut_world w) o)) same ∙ rw f (ap reply.Ran (ap (λ v. unit_reply work v e.server) here ∙ done))

    -- and all else is replied as it was
    told_all : (K : List (Step W)) → AllByRecursion (IsBeside e.server) K
        → replies work setup (steps_cut work cut e setup (K ++ Run ∷ L)) ≡ changed_at (λ _. told) (replies work setup (K ++ Run ∷ L)) (length K)
    told_all [] all =
        let M = steps_cut work cut e setup L in
        ap (λ v. reply_to work setup.backlog v Run ∷ replies work setup M) (same_after L before)
        ∙ ap (λ r. r ∷ replies work setup M) told_last
        ∙ ap (λ rs. told ∷ rs) (same_replies L before)
    told_all (x ∷ K) all =
        let v = after work setup (K ++ Run ∷ L) in
        let M = steps_cut work cut e setup (K ++ Run ∷ L) in
        let y = step_cut work cut e setup.backlog v x in
        ap (λ u. reply_to work setup.backlog u y ∷ replies work setup M) (same_world K all.1)
        ∙ ap (λ r. r ∷ replies work setup M) (beside_told work cut law e setup.backlog v x all.0)
        ∙ ap (λ rs. reply_to work setup.backlog v x ∷ rs) (told_all K all.1)

    -- the job is finished then
    done_after : (K : List (Step W)) → AllByRecursion (IsBeside e.server) K → e.seq < finished work (account (after work setup (steps_cut work cut e setup (K ++ Run ∷ L))).accounts e.server)
    done_after K all =
        let b = server (K ++ Run ∷ L) in
        let is = unit_after work setup K L e.server e.seq unit all in
        let xs = changed_at (cut e.units) b.accepted e.seq in
        let jobs = is.jobs in
        let got = is.got in
        let within : e.seq + 1 ≤ length xs = let t = there in let n = ap length jobs in omega (arith, length-changed_at (cut e.units) b.accepted e.seq) in
        let full : need work (shorter work cut law e b) (e.seq + 1) ≡ need work a e.seq + e.units =
        rw jobs (need_cut work.left (cut e.units) e.units (law e.units) a.accepted e.seq there enough) in
        let here : account (cut_world (after work setup (K ++ Run ∷ L))).accounts e.server ≡ shorter work cut law e b =
        changed_get (shorter work cut law e) (after work setup (K ++ Run ∷ L)).accounts e.server no_account refl in
        rw (same_world K all, here) (let g = done-ge work.left xs b.got (e.seq + 1) within (omega arith) in omega arith)

module _ {W : Type 0} (work : Meaning W) where
  -- a step that does nothing leaves the world
  nothing : (backlog : ℕ) (w : World W) (x : Step W) → does_nothing work backlog w x ≡ true → next work backlog w x ≡ w
  nothing backlog w (Submit s job) e = go (submit_refusal backlog (faces work w) s) e
    where
      go : (o : Option CoreError) → is_some o ≡ true → after_submit work w s job o ≡ w
      go None e = cc
      go (Some r) e = refl
  nothing backlog w Run e = go (runner work w) e
    where
      go : (o : Option ℕ) → is_none o ≡ true → after_run w o ≡ w
      go None e = refl
      go (Some s) e = cc
  nothing backlog w (Advance n) e = cc
  nothing backlog w (Close s) e = cc
  nothing backlog w (Charge s n) e = cc

  -- so a job ends early, whatever the way to make it shorter
  pub hindsight_kept : (N : History W) → KeepsHindsight work N
  hindsight_kept N = λ cut law K M s k at.
      subst (λ L. EndsEarly work cut (record { setup = N.setup; steps = L }) K s k) (sym at.steps) (ended cut law N.setup K M s k at.unit at.beside)
    where
      ended : (cut : ℕ → W → W) → IsCut work cut → (setup : Setup) (K M : List (Step W)) (s k : ℕ)
          → reply_to work setup.backlog (after work setup M) Run ≡ reply.Ran (ran.Unit s k) → AllByRecursion (IsBeside s) K
          → EndsEarly work cut (record { setup = setup; steps = K ++ Run ∷ M }) K s k
      ended cut law setup K M s k unit all =
          let w = after work setup M in
          let a = account w.accounts s in
          let b = account (after work setup (K ++ Run ∷ M)).accounts s in
          let gives = gives_unit work w s k (chosen work w) refl (ap ran_of unit) in
          let e : Ending = record { server = s; seq = k; units = b.got - need work b k } in
          let is = unit_after work setup K M s k gives all in
          let jobs = is.jobs in
          let got = is.got in
          let begun : need work a k ≤ a.got = rw gives.first at (count_done_within work.left a.accepted a.got) in
          let same : need work b k ≡ need work a k = rw jobs refl in
          let last : need work a k + e.units ≡ a.got + 1 = omega arith in
          record {
            world = same_world work cut law e setup M gives last K all;
            always = λ J L same. tail_world work cut law e setup M gives last K J L all same;
            less = λ J L same. less_owed work cut law e setup M gives last L (enough_tail work cut law e setup M gives last K J L all same)
                (tail_world work cut law e setup M gives last K J L all same);
            finished = done_after work cut law e setup M gives last K all;
            replies = told_all work cut law e setup M gives last K all
                ∙ ap (λ xs. changed_at (λ _. reply.Ran (ran.Done (record { server = s; seq = k; result = get_or (map (λ v. whole work (cut e.units v)) xs) k 0 })))
                (replies work setup (K ++ Run ∷ M)) (length K)) (sym jobs);
          }

  -- the steps without those that did nothing lead to the same world
  pub effective_kept : (N : History W) → KeepsEffective work N
  effective_kept N = go N.setup N.steps
    where
      go : (setup : Setup) (M : List (Step W)) → after work setup (effective_steps work setup M) ≡ after work setup M
      go setup [] = refl
      go setup (x ∷ M) = elim (cases_Bool (does_nothing work setup.backlog (after work setup M) x)) [
        | inl t ↦ rw t (go setup M ∙ sym (nothing setup.backlog (after work setup M) x t))
        | inr f ↦ rw f (ap (λ v. next work setup.backlog v x) (go setup M))
      ]

  -- what is known of a server after a unit of its job k, which was not the job's last
  pub record IsBegun (a : Account W) (k : ℕ) : Type 0 where
    pub first : finished work a ≡ k
    pub there : k < length a.accepted
    pub begun : need work a k < a.got
    pub short : a.got < need work a (k + 1)

  -- so it is at the end of such a history
  pub begun_at : (N : History W) (K M : List (Step W)) (s k : ℕ) → IsAtUnit work N K M s k → IsBegun (account_in work N s) k
  begun_at N K M s k at = subst (λ L. IsBegun (account_in work (record { setup = N.setup; steps = L }) s) k) (sym at.steps) (go N.setup at.unit at.beside)
    where
      go : (setup : Setup) → reply_to work setup.backlog (after work setup M) Run ≡ reply.Ran (ran.Unit s k) → AllByRecursion (IsBeside s) K
          → IsBegun (account (after work setup (K ++ Run ∷ M)).accounts s) k
      go setup unit all =
          let w = after work setup M in
          let a = account w.accounts s in
          let b = account (after work setup (K ++ Run ∷ M)).accounts s in
          let gives = gives_unit work w s k (chosen work w) refl (ap ran_of unit) in
          let is = unit_after work setup K M s k gives all in
          let jobs = is.jobs in
          let got = is.got in
          let first = gives.first in
          let active = chosen_active work w s gives.chosen in
          let begun : need work a k ≤ a.got = rw gives.first at (count_done_within work.left a.accepted a.got) in
          let same : need work b k ≡ need work a k = rw jobs refl in
          let next : need work b (k + 1) ≡ need work a (k + 1) = rw jobs refl in
          let count : length b.accepted ≡ length a.accepted = ap length jobs in
          let short : b.got < need work b (k + 1) = let m = gives.more in omega arith in
          record {
            first = count_done-is work.left b.accepted b.got k (omega arith) (omega arith) (λ _. short);
            there = omega arith;
            begun = omega arith;
            short = short;
          }

  -- the step x after M does nothing, or it is beside every server
  abbrev pub IsStill : History W → Step W → Type 0
  IsStill M x = (does_nothing work M.setup.backlog (world_after work M) x ≡ true) ⊎ ((s : ℕ) → IsBeside s x)

  -- a history that ends with a unit still does so after a step beside its server, or one that did nothing
  pub ends_beside : (M : History W) (x : Step W) (s : ℕ) → IsBeside s x → EndsWithUnit work (effective work M) s → EndsWithUnit work (effective work (M ⊕ x)) s
  ends_beside M x s beside h = elim (cases_Bool (does_nothing work M.setup.backlog (world_after work M) x)) [
    | inl t ↦ rw t h
    | inr f ↦ rw f record {
      later = x ∷ h.later;
      earlier = h.earlier;
      seq = h.seq;
      at = record { steps = ap (λ L. x ∷ L) h.at.steps; unit = h.at.unit; beside = (beside, h.at.beside) };
    }
  ]

  pub ends_still : (M : History W) (x : Step W) (s : ℕ) → IsStill M x → EndsWithUnit work (effective work M) s → EndsWithUnit work (effective work (M ⊕ x)) s
  ends_still M x s still h = elim still [ inl t ↦ rw t h | inr all ↦ ends_beside M x s (all s) h ]

  -- a Run of a unit of s that is not the last of its job ends the history so
  pub ends_unit : (M : History W) (s k : ℕ) → runner work (world_after work M) ≡ Some s → reply_in work M Run ≡ reply.Ran (ran.Unit s k)
      → EndsWithUnit work (effective work (M ⊕ Run)) s
  ends_unit M s k runs told = rw runs record {
    later = [];
    earlier = effective_steps work M.setup M.steps;
    seq = k;
    at = record { steps = refl; unit = ap (λ w. reply_to work M.setup.backlog w Run) (effective_kept M) ∙ told; beside = tt };
  }
