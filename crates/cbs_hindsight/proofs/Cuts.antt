-- One account and one world in which a job is shorter, through each step.
use Rattle.std.proofs.Common.{◌≡◌, ◌≢◌, ℕ, zero, suc, ◌+◌, ◌≤◌, ◌<◌, Bool, true, false, eqb, leb, ltb, not, ◌&&◌, List, [], ◌∷◌, ◌++◌, length, map, take, get_or, refl, ap, arith, inl, inr, sym, ◌∙◌, Option, Some, None}
use Rattle.std.proofs.Common.{append_assoc}
use Rattle.std.specs.Prelude.{if◌then◌else◌}
use Rattle.std.specs.List.{sum_by, slice_get}
use Rattle.std.proofs.lemmas.Bool.{cases_Bool, cases_lt}
use Rattle.std.proofs.lemmas.Bool.Decides.{nat_tests}
use Rattle.std.proofs.lemmas.List.{append-nil, length-map}
use Rattle.cbs_job.specs.Work.{Meaning, whole}
use Rattle.cbs_rules.specs.Rules.{clock_end}
use Rattle.cbs_lists.specs.Lists.{changed_at}
use Rattle.cbs_lists.proofs.Lists.{length-changed_at, changed_here, changed_elsewhere}
use Rattle.cbs_steps.specs.Accounts.{Account, need, finished, face_of, no_account, account_with_job, account_with_unit, account_with_charge, account_with_replenishment, account_with_close, account_let_go}
use Rattle.cbs_steps.specs.Choice.{chosen_among}
use Rattle.cbs_steps.specs.Faces.{Face, face_at, arrived, is_ready, ranks, refuses_close, refuses_submit, submit_refusal, close_refusal}
use Rattle.cbs_steps.specs.History.{World, account, faces, chosen, tick, ticks, runner, after_submit, after_run, after_advance, after_closing, after_charging, charge_refusal, let_go, next}
use Rattle.cbs_steps.specs.History.{unit_reply, run_reply, submit_reply, close_reply, charge_reply, reply_to}
use Rattle.cbs_steps.specs.declared.error.CoreError.{CoreError}
use Rattle.cbs_steps.specs.declared.error.CoreError.TheVariants as error
use Rattle.cbs_steps.specs.declared.reply.Ran.{Ran}
use Rattle.cbs_steps.specs.declared.reply.Ran.TheVariants as ran
use Rattle.cbs_steps.specs.declared.reply.Reply.TheVariants as reply
use Rattle.cbs_steps.specs.declared.step.Step.{Step}
use Rattle.cbs_steps.specs.declared.step.Step.TheVariants.{Submit, Run, Advance, Close, Charge}
use Rattle.cbs_steps.proofs.Faces.{runnable, ready_within}
use Rattle.cbs_steps.proofs.Histories.{holds_next, chosen_is_ready, account_face}
use Rattle.cbs_steps.proofs.Running.{replenished_account, loose_account}
use Rattle.cbs_hindsight.specs.Hindsight.{Ending, IsCut, account_cut, world_cut, is_number, step_cut, IsBeside}
use Rattle.cbs_hindsight.proofs.CutLists.{changed_past, changed_behind, changed_last, changed_apart, changed_twice, changed_map, changed_commute, map_unchanged, kept_at, changed_get}
use Rattle.cbs_hindsight.proofs.CutLists.{take-changed, seen_elsewhere, found_elsewhere, IsShort, short_before, need_cut, short-le, count_cut}

module _ {W : Type 0} where
  -- The job of an ending, if it was accepted, has not yet got the units of the ending, and needs as many at least
  pub record IsEarly (work : Meaning W) (e : Ending) (a : Account W) : Type 0 where
    pub early : e.seq < length a.accepted → IsShort work.left e.units a.accepted a.got e.seq

  -- the accepted jobs stay, and more may follow; so it is of the units
  pub record IsGrown (a b : Account W) : Type 0 where
    pub more : List W
    pub jobs : b.accepted ≡ a.accepted ++ more
    pub units : a.got ≤ b.got

  -- it was so before, too
  pub early_before : (work : Meaning W) (e : Ending) (a b : Account W) → IsGrown a b → IsEarly work e b → IsEarly work e a
  early_before work e a b grown is = record {
    early = λ lt.
        let jobs = grown.jobs in
        let n : length (a.accepted ++ grown.more) ≡ length b.accepted = ap length (sym jobs) in
        let there : e.seq < length b.accepted = omega (arith, n, longer a.accepted grown.more) in
        short_before work.left e.units a.accepted grown.more a.got b.got e.seq lt grown.units (rw jobs at (is.early there));
  }
    where
      longer : (xs ys : List W) → length xs ≤ length (xs ++ ys)
      longer [] ys = omega arith
      longer (x ∷ xs) ys = omega (arith, longer xs ys)

  -- a step takes no job and no unit away
  pub grown_next : (work : Meaning W) (backlog : ℕ) (w : World W) (x : Step W) (s : ℕ) → IsGrown (account w.accounts s) (account (next work backlog w x).accounts s)
  grown_next work backlog w x s =
      let a = account w.accounts s in
      holds_next work (λ now b. IsGrown a b)
      (λ now b ready h. record { more = h.more; jobs = h.jobs; units = let u = h.units in omega arith })
      (λ now b h. record { more = h.more; jobs = h.jobs; units = h.units })
      (λ now b h. record { more = h.more; jobs = h.jobs; units = h.units })
      (λ now b h. record { more = h.more; jobs = h.jobs; units = h.units })
      (λ now j b h. record { more = h.more ++ j ∷ []; jobs = ap (λ xs. xs ++ j ∷ []) h.jobs ∙ append_assoc a.accepted h.more (j ∷ []); units = h.units })
      (λ now n b some runs h. record { more = h.more; jobs = h.jobs; units = h.units })
      backlog w x s record { more = []; jobs = sym (append-nil a.accepted); units = omega arith }

module _ {W : Type 0} where
  -- what a unit leaves of the jobs and units of its server
  pub record IsUnit (a b : Account W) : Type 0 where
    pub jobs : b.accepted ≡ a.accepted
    pub got : b.got ≡ a.got + 1

  pub unit_is : (w : World W) (s : ℕ) → s < length w.accounts → IsUnit (account w.accounts s) (account (after_run w (Some s)).accounts s)
  unit_is w s lt =
      let ls = (let_go w).accounts in
      let there : s < length ls = omega (arith, length-map w.accounts (account_let_go {W = W})) in
      rw (replenished_account (w.now + 1) (changed_at account_with_unit ls s) s, changed_here account_with_unit ls s no_account there, loose_account w.accounts s)
      record { jobs = refl; got = refl }

  -- if the job is not at its end after a unit of its server, it was not before, nor with the unit
  pub early_unit : (work : Meaning W) (e : Ending) (a b : Account W) → IsUnit a b → IsEarly work e b → e.seq < length a.accepted
      → IsShort work.left e.units a.accepted (a.got + 1) e.seq
  early_unit work e a b unit is lt =
      let jobs = unit.jobs in
      let there : e.seq < length b.accepted = rw jobs lt in
      let short : IsShort work.left e.units b.accepted b.got e.seq = is.early there in
      rw (jobs, unit.got) at short

module _ {W : Type 0} (work : Meaning W) where
  -- the chosen server is there, and one of its jobs is unfinished
  pub chosen_active : (w : World W) (t : ℕ) → chosen work w ≡ Some t → finished work (account w.accounts t) < length (account w.accounts t).accepted
  chosen_active w t c = (runnable (face_of work (account w.accounts t)) (chosen_is_ready work w t c)).active

  pub chosen_within : (w : World W) (t : ℕ) → chosen work w ≡ Some t → t < length w.accounts
  chosen_within w t c =
      let ready : is_ready (face_at (faces work w) t) ≡ true = ap is_ready (account_face work w.accounts t) ∙ chosen_is_ready work w t c in
      omega (arith, ready_within (faces work w) t ready, length-map w.accounts (face_of work))

module _ {W : Type 0} (work : Meaning W) (cut : ℕ → W → W) (law : IsCut work cut) (e : Ending) where
  abbrev pub shorter : Account W → Account W
  shorter a = account_cut cut e a

  abbrev pub cut_of : World W → World W
  cut_of w = world_cut cut e w

  -- the server with the shorter job shows the same
  pub finished_cut : (a : Account W) → IsEarly work e a → finished work (shorter a) ≡ finished work a
  finished_cut a is = count_cut work.left (cut e.units) e.units (law e.units) a.accepted a.got e.seq is.early

  face_cut : (a : Account W) → IsEarly work e a → face_of work (shorter a) ≡ face_of work a
  face_cut a is =
      let with : ℕ → ℕ → Face = λ n k. record { terms = a.terms; state = a.state; charges = a.charges; closed = a.closed; accepted = n; finished = k } in
      ap (λ n. with n (finished work (shorter a))) (length-changed_at (cut e.units) a.accepted e.seq) ∙ ap (with (length a.accepted)) (finished_cut a is)

  pub faces_cut : (w : World W) → IsEarly work e (account w.accounts e.server) → faces work (cut_of w) ≡ faces work w
  faces_cut w is = map_unchanged (face_of work) shorter w.accounts e.server no_account (face_cut (account w.accounts e.server) is)

  -- ticks
  tick_cut : (w : World W) → tick (cut_of w) ≡ cut_of (tick w)
  tick_cut w = ap (λ (xs : List (Account W)). record { now = w.now + 1; accounts = xs })
      (changed_map (account_with_replenishment (w.now + 1)) shorter w.accounts e.server (λ a. refl))

  ticks_cut : (n : ℕ) (w : World W) → ticks n (cut_of w) ≡ cut_of (ticks n w)
  unfolding ticks
  ticks_cut zero w = refl
  ticks_cut (suc n) w = ap (ticks n) (tick_cut w) ∙ ticks_cut n (tick w)

  let_go_cut : (w : World W) → let_go (cut_of w) ≡ cut_of (let_go w)
  let_go_cut w = ap (λ (xs : List (Account W)). record { now = w.now; accounts = xs }) (changed_map account_let_go shorter w.accounts e.server (λ a. refl))

  -- a unit
  run_cut : (w : World W) (o : Option ℕ) → after_run (cut_of w) o ≡ cut_of (after_run w o)
  run_cut w None = refl
  run_cut w (Some t) =
      let ys = map account_let_go w.accounts in
      let loose : changed_at account_with_unit (map account_let_go (changed_at shorter w.accounts e.server)) t ≡ changed_at account_with_unit (changed_at shorter ys e.server) t =
      ap (λ xs. changed_at account_with_unit xs t) (changed_map account_let_go shorter w.accounts e.server (λ a. refl)) in
      let unit : changed_at account_with_unit (changed_at shorter ys e.server) t ≡ changed_at shorter (changed_at account_with_unit ys t) e.server =
      changed_commute account_with_unit shorter ys t e.server (λ a. refl) in
      ap (λ (xs : List (Account W)). tick (record { now = w.now; accounts = xs })) (loose ∙ unit) ∙ tick_cut (record w { accounts = changed_at account_with_unit ys t })

  -- an advance
  advance_cut : (w : World W) (n : ℕ) → after_advance (cut_of w) n ≡ cut_of (after_advance w n)
  advance_cut w zero = refl
  advance_cut w (suc n) = ap (ticks (suc n)) (let_go_cut w) ∙ ticks_cut (suc n) (let_go w)

  -- a charge
  charging_cut : (w : World W) (t n : ℕ) (o : Option CoreError) → after_charging (cut_of w) t n o ≡ cut_of (after_charging w t n o)
  charging_cut w t zero None = refl
  charging_cut w t (suc n) None =
      ap (λ (xs : List (Account W)). ticks (suc n) (record { now = w.now; accounts = xs }))
      (changed_commute (account_with_charge (suc n)) shorter w.accounts t e.server (λ a. refl))
      ∙ ticks_cut (suc n) (record w { accounts = changed_at (account_with_charge (suc n)) w.accounts t })
  charging_cut w t zero (Some r) = refl
  charging_cut w t (suc n) (Some r) = refl

  charge_refusal_cut : (w : World W) (t n : ℕ) → charge_refusal (cut_of w) t n ≡ charge_refusal w t n
  charge_refusal_cut w t n =
      let why : ℕ → Bool → Option CoreError = λ l r. if leb l t then Some error.NoSuchServer else if not r then Some error.NotRunning else if ltb clock_end (w.now + n) then Some error.ClockEnd else None in
      ap (λ l. why l (account (cut_of w).accounts t).runs) (length-changed_at shorter w.accounts e.server)
      ∙ ap (why (length w.accounts)) (kept_at (λ (a : Account W). a.runs) shorter w.accounts e.server t no_account (λ a. refl))

  -- a close
  closing_cut : (w : World W) (t : ℕ) (o : Option CoreError) → after_closing (cut_of w) t o ≡ cut_of (after_closing w t o)
  closing_cut w t None = ap (λ (xs : List (Account W)). record { now = w.now; accounts = xs }) (changed_commute account_with_close shorter w.accounts t e.server (λ a. refl))
  closing_cut w t (Some r) = refl

  close_refusal_cut : (w : World W) (t : ℕ) → close_refusal (faces work (cut_of w)) t ≡ close_refusal (faces work w) t
  close_refusal_cut w t = go w.accounts e.server t
    where
      go : (xs : List (Account W)) (i t : ℕ) → refuses_close (slice_get (map (face_of work) (changed_at shorter xs i)) t) ≡ refuses_close (slice_get (map (face_of work) xs) t)
      go [] i t = refl
      go (x ∷ xs) zero zero = refl
      go (x ∷ xs) zero (suc t) = refl
      go (x ∷ xs) (suc i) zero = refl
      go (x ∷ xs) (suc i) (suc t) = go xs i t

  -- the job, and each other job of its server
  job_cut : (now : ℕ) (a : Account W) (job : W) → IsEarly work e a → length a.accepted ≡ e.seq
      → account_with_job work now (cut e.units job) (shorter a) ≡ shorter (account_with_job work now job a)
  job_cut now a job is last =
      let c = cut e.units in
      let with : List W → Face → Account W = λ xs f. record a { accepted = xs; state = arrived now f } in
      let jobs : changed_at c a.accepted e.seq ++ c job ∷ [] ≡ changed_at c (a.accepted ++ job ∷ []) e.seq =
      ap (λ xs. xs ++ c job ∷ []) (changed_past c a.accepted e.seq (omega arith)) ∙ sym (changed_last c a.accepted job e.seq last) in
      ap (λ xs. with xs (face_of work (shorter a))) jobs ∙ ap (with (changed_at c (a.accepted ++ job ∷ []) e.seq)) (face_cut a is)

  other_job_cut : (now : ℕ) (a : Account W) (job : W) → IsEarly work e a → length a.accepted ≢ e.seq
      → account_with_job work now job (shorter a) ≡ shorter (account_with_job work now job a)
  other_job_cut now a job is other =
      let c = cut e.units in
      let with : List W → Face → Account W = λ xs f. record a { accepted = xs; state = arrived now f } in
      ap (λ xs. with xs (face_of work (shorter a))) (sym (changed_behind c a.accepted job e.seq other))
      ∙ ap (with (changed_at c (a.accepted ++ job ∷ []) e.seq)) (face_cut a is)

  -- the job of a submit in hindsight, by why it was refused, if it was
  abbrev handed : World W → ℕ → W → Option CoreError → W
  handed w t job o = if eqb t e.server && is_number e.seq (submit_reply w t job o) then cut e.units job else job

  -- a submit to another server hands over what it did
  handed_elsewhere : (w : World W) (t : ℕ) (job : W) (o : Option CoreError) → t ≢ e.server → handed w t job o ≡ job
  handed_elsewhere w t job o other = let n : eqb t e.server ≡ false = elim (cases_Bool (eqb t e.server)) [ inl y ↦ absurd (other (grind (arith, nat_tests))) | inr n ↦ n ] in rw n refl

  -- so does one that is refused
  handed_back : (w : World W) (t : ℕ) (job : W) (r : CoreError) → handed w t job (Some r) ≡ job
  handed_back w t job r = elim (cases_Bool (eqb t e.server)) [ inl y ↦ rw y refl | inr n ↦ rw n refl ]

  -- a submit to another server
  submit_elsewhere : (w : World W) (t : ℕ) (job : W) (o : Option CoreError) → t ≢ e.server → after_submit work (cut_of w) t job o ≡ cut_of (after_submit work w t job o)
  submit_elsewhere w t job None other = ap (λ (xs : List (Account W)). record { now = w.now; accounts = xs }) (changed_apart (account_with_job work w.now job) shorter w.accounts t e.server other)
  submit_elsewhere w t job (Some r) other = refl

  submit_refusal_elsewhere : (backlog : ℕ) (w : World W) (t : ℕ) → t ≢ e.server → submit_refusal backlog (faces work (cut_of w)) t ≡ submit_refusal backlog (faces work w) t
  submit_refusal_elsewhere backlog w t other = ap (refuses_submit backlog) (found_elsewhere (face_of work) shorter w.accounts e.server t other)

  -- a submit to the server of the job
  submit_here : (w : World W) (job : W) → IsEarly work e (account w.accounts e.server)
      → after_submit work (cut_of w) e.server (if eqb (length (account w.accounts e.server).accepted) e.seq then cut e.units job else job) None
      ≡ cut_of (after_submit work w e.server job None)
  submit_here w job is =
      let a = account w.accounts e.server in
      let made : (given : W) → account_with_job work w.now given (shorter a) ≡ shorter (account_with_job work w.now job a)
      → after_submit work (cut_of w) e.server given None ≡ cut_of (after_submit work w e.server job None) =
      λ given same. ap (λ (xs : List (Account W)). record { now = w.now; accounts = xs })
      (changed_twice (account_with_job work w.now given) shorter shorter (account_with_job work w.now job) w.accounts e.server no_account same) in
      elim (cases_Bool (eqb (length a.accepted) e.seq)) [
        | inl y ↦ rw y (made (cut e.units job) (job_cut w.now a job is (grind (arith, nat_tests))))
        | inr n ↦ rw n (made job (other_job_cut w.now a job is (λ q. let y : eqb (length a.accepted) e.seq ≡ true = grind (arith, nat_tests) in cc)))
      ]

  -- a submit in hindsight
  submit_cut : (w : World W) (t : ℕ) (job : W) (o : Option CoreError) → IsEarly work e (account w.accounts e.server)
      → after_submit work (cut_of w) t (handed w t job o) o ≡ cut_of (after_submit work w t job o)
  submit_cut w t job (Some r) is = refl
  submit_cut w t job None is = elim (cases_Bool (eqb t e.server)) [
    | inl y ↦ let same : t ≡ e.server = grind (arith, nat_tests) in rw (y, same) (submit_here w job is)
    | inr n ↦ rw n (submit_elsewhere w t job None (λ q. let y : eqb t e.server ≡ true = grind (arith, nat_tests) in cc))
  ]

  -- its reply
  submit_told : (w : World W) (t : ℕ) (job : W) (o : Option CoreError) → submit_reply (cut_of w) t (handed w t job o) o ≡ submit_reply w t job o
  submit_told w t job None = ap reply.Accepted (kept_at (λ (a : Account W). length a.accepted) shorter w.accounts e.server t no_account (λ a. length-changed_at (cut e.units) a.accepted e.seq))
  submit_told w t job (Some r) = ap (λ j. reply.NotAccepted (record { error = r; task = j })) (handed_back w t job r)

  -- one step more, after the last unit of the job
  pub beside_made : (backlog : ℕ) (w : World W) (x : Step W) → IsBeside e.server x
      → next work backlog (cut_of w) (step_cut work cut e backlog w x) ≡ cut_of (next work backlog w x)
  beside_made backlog w (Submit t job) other =
      let o = submit_refusal backlog (faces work w) t in
      ap (after_submit work (cut_of w) t (handed w t job o)) (submit_refusal_elsewhere backlog w t other)
      ∙ ap (λ j. after_submit work (cut_of w) t j o) (handed_elsewhere w t job o other) ∙ submit_elsewhere w t job o other
  beside_made backlog w Run none = absurd none
  beside_made backlog w (Advance n) _ = elim (cases_Bool (leb (w.now + n) clock_end)) [ inl y ↦ rw y (advance_cut w n) | inr f ↦ rw f refl ]
  beside_made backlog w (Close t) _ = ap (after_closing (cut_of w) t) (close_refusal_cut w t) ∙ closing_cut w t (close_refusal (faces work w) t)
  beside_made backlog w (Charge t n) _ = ap (after_charging (cut_of w) t n) (charge_refusal_cut w t n) ∙ charging_cut w t n (charge_refusal w t n)

  -- and its reply
  pub beside_told : (backlog : ℕ) (w : World W) (x : Step W) → IsBeside e.server x
      → reply_to work backlog (cut_of w) (step_cut work cut e backlog w x) ≡ reply_to work backlog w x
  beside_told backlog w (Submit t job) other =
      let o = submit_refusal backlog (faces work w) t in
      ap (submit_reply (cut_of w) t (handed w t job o)) (submit_refusal_elsewhere backlog w t other) ∙ submit_told w t job o
  beside_told backlog w Run none = absurd none
  beside_told backlog w (Advance n) _ = refl
  beside_told backlog w (Close t) _ = ap close_reply (close_refusal_cut w t)
  beside_told backlog w (Charge t n) _ = ap charge_reply (charge_refusal_cut w t n)

  -- one step more, before the last unit
  pub step_made : (backlog : ℕ) (w : World W) (x : Step W) → IsEarly work e (account w.accounts e.server)
      → next work backlog (cut_of w) (step_cut work cut e backlog w x) ≡ cut_of (next work backlog w x)
  step_made backlog w (Submit t job) is =
      let o = submit_refusal backlog (faces work w) t in
      ap (λ fs. after_submit work (cut_of w) t (handed w t job o) (submit_refusal backlog fs t)) (faces_cut w is) ∙ submit_cut w t job o is
  step_made backlog w Run is =
      ap (λ fs. after_run (cut_of w) (if ltb w.now clock_end then chosen_among (ranks fs) else None)) (faces_cut w is) ∙ run_cut w (runner work w)
  step_made backlog w (Advance n) is = beside_made backlog w (Advance n) tt
  step_made backlog w (Close t) is = beside_made backlog w (Close t) tt
  step_made backlog w (Charge t n) is = beside_made backlog w (Charge t n) tt

  -- the reply to a unit, as long as the job is not at its end after it
  unit_told : (a : Account W) (s : ℕ) → finished work a < length a.accepted → IsEarly work e a
      → (e.seq < length a.accepted → IsShort work.left e.units a.accepted (a.got + 1) e.seq) → unit_reply work (shorter a) s ≡ unit_reply work a s
  unit_told a s active is after =
      let told : ℕ → ℕ → ℕ → Ran = λ k n r. if eqb n (a.got + 1) then ran.Done (record { server = s; seq = k; result = r }) else ran.Unit s k in
      let k = finished work a in
      let c = cut e.units in
      let ys = changed_at c a.accepted e.seq in
      let told_of : List W → Ran = λ xs. told k (sum_by work.left (take (k + 1) xs)) (get_or (map (whole work) xs) k 0) in
      let same : told_of ys ≡ told_of a.accepted = elim (cases_lt e.seq (length a.accepted)) [
        | inr past ↦ ap told_of (changed_past c a.accepted e.seq past)
        | inl lt ↦ elim (cases_lt k e.seq) [
          | inl before ↦
              ap (λ n. told k n (get_or (map (whole work) ys) k 0)) (ap (sum_by work.left) (take-changed c a.accepted e.seq (k + 1) (omega arith)))
              ∙ ap (told k (sum_by work.left (take (k + 1) a.accepted))) (seen_elsewhere (whole work) c a.accepted e.seq k (λ q. omega arith))
          | inr ge ↦
              let le = short-le work.left c e.units (law e.units) a.accepted a.got e.seq lt (is.early lt) in
              let here : k ≡ e.seq = omega arith in
              let short = after lt in
              let s = short.short in
              let m = short.enough in
              let cut_need : sum_by work.left (take (k + 1) ys) ≡ sum_by work.left (take e.seq a.accepted) + e.units = rw here (need_cut work.left c e.units (law e.units) a.accepted e.seq lt m) in
              let need : sum_by work.left (take e.seq a.accepted) + e.units ≤ sum_by work.left (take (k + 1) a.accepted) = rw here m in
              let f : eqb (sum_by work.left (take (k + 1) ys)) (a.got + 1) ≡ false = grind (arith, nat_tests) in
              let g : eqb (sum_by work.left (take (k + 1) a.accepted)) (a.got + 1) ≡ false = grind (arith, nat_tests) in
              rw (f, g) refl
        ]
      ] in
      ap (λ j. told j (need work (shorter a) (j + 1)) (get_or (map (whole work) ys) j 0)) (finished_cut a is) ∙ same

  -- the reply to a Run
  run_told : (w : World W) (o : Option ℕ) → (leb clock_end w.now ≡ false → (t : ℕ) → o ≡ Some t → finished work (account w.accounts t) < length (account w.accounts t).accepted)
      → IsEarly work e (account w.accounts e.server)
      → (leb clock_end w.now ≡ false → o ≡ Some e.server → e.seq < length (account w.accounts e.server).accepted
      → IsShort work.left e.units (account w.accounts e.server).accepted ((account w.accounts e.server).got + 1) e.seq)
      → run_reply work (cut_of w) o ≡ run_reply work w o
  run_told w None active is after = refl
  run_told w (Some t) active is after = elim (cases_Bool (leb clock_end w.now)) [
    | inl y ↦ rw y refl
    | inr f ↦ rw f (elim (cases_Bool (eqb t e.server)) [
      | inl y ↦
          let same : t ≡ e.server = grind (arith, nat_tests) in
          let a = account w.accounts e.server in
          let here : account (cut_of w).accounts e.server ≡ shorter a = changed_get shorter w.accounts e.server no_account refl in
          let done : finished work a < length a.accepted = rw same at (active f t refl) in
          rw same (ap (λ b. unit_reply work b e.server) here ∙ unit_told a e.server done is (after f (ap Some same)))
      | inr n ↦ ap (λ a. unit_reply work a t) (changed_elsewhere shorter w.accounts e.server t no_account (λ q. let y : eqb t e.server ≡ true = grind (arith, nat_tests) in cc))
    ])
  ]

  -- and to one step more, before the last unit
  pub step_told : (backlog : ℕ) (w : World W) (x : Step W) → IsEarly work e (account w.accounts e.server) → IsEarly work e (account (next work backlog w x).accounts e.server)
      → reply_to work backlog (cut_of w) (step_cut work cut e backlog w x) ≡ reply_to work backlog w x
  step_told backlog w (Submit t job) is after =
      let o = submit_refusal backlog (faces work w) t in
      ap (λ fs. submit_reply (cut_of w) t (handed w t job o) (submit_refusal backlog fs t)) (faces_cut w is) ∙ submit_told w t job o
  step_told backlog w Run is after =
      ap (λ fs. reply.Ran (run_reply work (cut_of w) (chosen_among (ranks fs)))) (faces_cut w is)
      ∙ ap reply.Ran (run_told w (chosen work w) (λ f t c. chosen_active work w t c) is (λ f c lt.
      let early : ltb w.now clock_end ≡ true = grind (arith, nat_tests) in
      let runs : runner work w ≡ Some e.server = rw early c in
      let unit = unit_is w e.server (chosen_within work w e.server c) in
      let same : next work backlog w Run ≡ after_run w (Some e.server) = ap (after_run w) runs in
      early_unit work e (account w.accounts e.server) (account (after_run w (Some e.server)).accounts e.server) unit (rw same at after) lt))
  step_told backlog w (Advance n) is after = beside_told backlog w (Advance n) tt
  step_told backlog w (Close t) is after = beside_told backlog w (Close t) tt
  step_told backlog w (Charge t n) is after = beside_told backlog w (Charge t n) tt
