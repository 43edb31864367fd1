-- The completions of a server: they go on from its finished jobs.
use Rattle.std.proofs.Common.{◌≡◌, ℕ, zero, suc, ◌+◌, ◌≤◌, ◌<◌, true, List, [], ◌∷◌, ◌++◌, length, map, take, drop, get_or, eqb, leb, refl, sym, ◌∙◌}
use Rattle.std.proofs.Common.{ap, subst, arith, Option, Some, None, inl, inr, length-append, length-drop, append_assoc, append-nil}
use Rattle.std.proofs.Math.Seq.{take-add}
use Rattle.std.proofs.lemmas.Bool.{cases_Bool}
use Rattle.std.proofs.lemmas.List.{map-append, length-map, drop-drop, drop-append-le, take-append-le, drop_more}
use Rattle.std.specs.List.{range_with_len}
use Rattle.cbs_job.specs.Work.{Meaning, whole}
use Rattle.cbs_job.specs.declared.completion.Completion.{Completion}
use Rattle.cbs_steps.specs.Faces.{is_ready, submit_refusal, close_refusal}
use Rattle.cbs_steps.specs.Accounts.{Account, finished, need, face_of}
use Rattle.cbs_steps.specs.History.{World, History, ◌⊕◌, account, faces, chosen, world_after, run_reply, unit_reply, submit_reply, close_reply, charge_reply, charge_refusal, reply_in}
use Rattle.cbs_steps.specs.Replies.{is_lack, grown, grown_by, Answers, AnswersAll}
use Rattle.cbs_steps.specs.Laws.{account_in, completion_ran, completion_in, completion_of, completions_of, replies_after, Completes}
use Rattle.cbs_steps.specs.Continuations.{◌⊕⊕◌}
use Rattle.cbs_rules.specs.Rules.{clock_end}
use Rattle.cbs_steps.specs.declared.error.CoreError.{CoreError}
use Rattle.cbs_steps.specs.declared.step.Step.{Step}
use Rattle.cbs_steps.specs.declared.step.Step.TheVariants.{Submit, Run, Advance, Close, Charge}
use Rattle.cbs_steps.specs.declared.reply.Reply.{Reply}
use Rattle.cbs_steps.specs.declared.reply.Reply.TheVariants as reply
use Rattle.cbs_steps.proofs.FinishedJobs.{count_done-le}
use Rattle.cbs_steps.proofs.Histories.{holds_grown, chosen_is_ready}
use Rattle.cbs_steps.proofs.Faces.{runnable}
use Rattle.cbs_steps.proofs.StepLists.{grown_by-push}

-- so many numbers from the first on are those of a part and those after it
range_with_len-append : (k m n : ℕ) → range_with_len k (m + n) ≡ range_with_len k m ++ range_with_len (k + m) n
range_with_len-append k zero n = let e : zero + n ≡ n = omega arith in let f : k + 0 ≡ k = omega arith in rw (e, f) refl
range_with_len-append k (suc m) n =
    let e : suc m + n ≡ suc (m + n) = omega arith in
    let f : k + 1 + m ≡ k + suc m = omega arith in
    rw e (ap (λ ns. k ∷ ns) (range_with_len-append (k + 1) m n ∙ ap (λ j. range_with_len (k + 1) m ++ range_with_len j n) f))

-- a part within a list is a part of every longer list
pub part_of_more : {X : Type 0} (k m : ℕ) (xs more : List X) → k + m ≤ length xs → take m (drop k (xs ++ more)) ≡ take m (drop k xs)
part_of_more k m xs more le =
    rw (drop-append-le k xs more (omega arith), take-append-le m (drop k xs) more (omega (arith, length-drop k xs)))

-- the part of one element is that element
pub part_of_one : (k : ℕ) (xs : List ℕ) → k < length xs → take 1 (drop k xs) ≡ get_or xs k 0 ∷ []
part_of_one k xs lt = rw (drop_more xs k 0 lt)

module _ {W : Type 0} where
  -- the completions among replies, and one more reply
  pub completions_of-push : (s : ℕ) (rs : List (Reply W)) (r : Reply W)
      → completions_of s (rs ++ r ∷ []) ≡ completions_of s rs ++ completion_of s (completion_in r)
  completions_of-push s [] r = append-nil (completion_of s (completion_in r))
  completions_of-push s (q ∷ rs) r = ap (λ cs. completion_of s (completion_in q) ++ cs) (completions_of-push s rs r)
      ∙ sym (append_assoc (completion_of s (completion_in q)) (completions_of s rs) (completion_of s (completion_in r)))

module _ {W : Type 0} (work : Meaning W) where
  -- with no step there is no completion
  pub Completes-none : (a : Account W) → Completes work a a []
  Completes-none a = record { jobs = ([], sym (append-nil a.accepted)); numbers = refl; results = refl; finished = omega arith }

  -- one run after another
  pub Completes-append : (a b c : Account W) (cs ds : List Completion) → Completes work a b cs → Completes work b c ds → Completes work a c (cs ++ ds)
  Completes-append a b c cs ds h k =
      let n = length-append cs ds in
      let f = finished work a in
      let wholes : map (whole work) c.accepted ≡ map (whole work) b.accepted ++ map (whole work) k.jobs.0 =
      ap (map (whole work)) k.jobs.1 ∙ map-append (whole work) b.accepted k.jobs.0 in
      let within : f + length cs ≤ length (map (whole work) b.accepted) =
      let e = h.finished in omega (arith, length-map b.accepted (whole work), count_done-le work.left b.accepted b.got) in
      let X = map (whole work) c.accepted in
      let first : take (length cs) (drop f X) ≡ map (λ (d : Completion). d.result) cs =
      rw wholes (part_of_more f (length cs) (map (whole work) b.accepted) (map (whole work) k.jobs.0) within) ∙ sym h.results in
      let second : take (length ds) (drop (f + length cs) X) ≡ map (λ (d : Completion). d.result) ds = rw (← h.finished) (sym k.results) in
      let both : take (length cs + length ds) (drop f X) ≡ map (λ (d : Completion). d.result) cs ++ map (λ (d : Completion). d.result) ds =
      take-add (length cs) (length ds) (drop f X) ∙ rw (first, drop-drop (length cs) f X, second) refl in
      let counted : range_with_len f (length cs + length ds) ≡ map (λ (d : Completion). d.seq) cs ++ map (λ (d : Completion). d.seq) ds =
      range_with_len-append f (length cs) (length ds) ∙ rw (h.numbers, k.numbers, h.finished) refl in
      record {
        jobs = (h.jobs.0 ++ k.jobs.0, k.jobs.1 ∙ ap (λ xs. xs ++ k.jobs.0) h.jobs.1 ∙ append_assoc a.accepted h.jobs.0 k.jobs.0);
        numbers = rw n (map-append (λ (d : Completion). d.seq) cs ds ∙ sym counted);
        results = rw n (map-append (λ (d : Completion). d.result) cs ds ∙ sym both);
        finished = rw n (let e = h.finished in let g = k.finished in omega arith);
      }

  -- the accepted jobs stay, and more may follow
  pub accepted_grown : (M : History W) (x : Step W) (r : Reply W) (s : ℕ)
      → (more : List W) × ((account_in work (grown M x r) s).accepted ≡ (account_in work M s).accepted ++ more)
  accepted_grown M x r s =
      let before = (account_in work M s).accepted in
      holds_grown work (λ now a. (more : List W) × (a.accepted ≡ before ++ more))
      (λ now a ready h. h) (λ now a h. h) (λ now a h. h) (λ now a h. h)
      (λ now j a h. (h.0 ++ j ∷ [], ap (λ xs. xs ++ j ∷ []) h.1 ∙ append_assoc before h.0 (j ∷ [])))
      (λ now n a some runs h. h)
      M x r s ([], sym (append-nil before))

  -- a completion gives the whole result of the accepted job of its number
  pub record Tells (a : Account W) (c : Completion) : Type 0 where
    pub within : c.seq < length a.accepted
    pub result : c.result ≡ get_or (map (whole work) a.accepted) c.seq 0

  -- a unit that completes a job gives the number and the whole result of the next unfinished one
  unit_is : (a : Account W) (s : ℕ) (c : Completion) → Some c ≡ completion_ran (unit_reply work a s)
      → c ≡ record { server = s; seq = finished work a; result = get_or (map (whole work) a.accepted) (finished work a) 0 }
  unit_is a s c e = elim (cases_Bool (eqb (need work a (finished work a + 1)) (a.got + 1))) [
    | inl t ↦ let k : Some c ≡ Some (record {
      server = s;
      seq = finished work a;
      result = get_or (map (whole work) a.accepted) (finished work a) 0;
    }) = rw t at e in cc
    | inr f ↦ let k : Some c ≡ None = rw f at e in cc
  ]

  -- a ready server has finished fewer jobs than it accepted
  active_within : (a : Account W) → is_ready (face_of work a) ≡ true → finished work a < length a.accepted
  active_within a ready = (runnable (face_of work a) ready).active

  -- so does a run
  run_tells : (w : World W) (o : Option ℕ) (c : Completion) → ((s : ℕ) → o ≡ Some s → is_ready (face_of work (account w.accounts s)) ≡ true)
      → Some c ≡ completion_ran (run_reply work w o) → Tells (account w.accounts c.server) c
  run_tells w None c ready e = cc
  run_tells w (Some s) c ready e = elim (cases_Bool (leb clock_end w.now)) [
    | inl t ↦ let k : Some c ≡ None = rw t at e in cc
    | inr f ↦
        let k : Some c ≡ completion_ran (unit_reply work (account w.accounts s) s) = rw f at e in
        let is = unit_is (account w.accounts s) s c k in
        rw is record { within = active_within (account w.accounts s) (ready s refl); result = refl }
  ]

  -- the reply to a submit has no completion
  submit_none : (w : World W) (s : ℕ) (job : W) (o : Option CoreError) → completion_in (submit_reply w s job o) ≡ None
  submit_none w s job None = refl
  submit_none w s job (Some e) = refl

  -- the reply to a close has no completion
  close_none : (o : Option CoreError) → completion_in {W = W} (close_reply o) ≡ None
  close_none None = refl
  close_none (Some e) = refl

  -- nor has the reply to a charge
  charge_none : (o : Option CoreError) → completion_in {W = W} (charge_reply o) ≡ None
  charge_none None = refl
  charge_none (Some e) = refl

  -- a reply of the rules gives a job's whole result, since only a run completes a job
  reply_tells : (M : History W) (x : Step W) (c : Completion) → Some c ≡ completion_in (reply_in work M x) → Tells (account_in work M c.server) c
  reply_tells M (Submit s job) c e = let n = submit_none (world_after work M) s job (submit_refusal M.setup.backlog (faces work (world_after work M)) s) in cc
  reply_tells M Run c e = run_tells (world_after work M) (chosen work (world_after work M)) c (chosen_is_ready work (world_after work M)) e
  reply_tells M (Advance n) c e = elim (cases_Bool (leb ((world_after work M).now + n) clock_end))
      [ inl t ↦ let k : Some c ≡ None = rw t at e in cc | inr f ↦ let k : Some c ≡ None = rw f at e in cc ]
  reply_tells M (Close s) c e = let n = close_none (close_refusal (faces work (world_after work M)) s) in cc
  reply_tells M (Charge s n) c e = let n = charge_none (charge_refusal (world_after work M) s n) in cc

  -- a reply that memory refused a submit has no completion
  lack_none : (r : Reply W) → is_lack r ≡ true → completion_in r ≡ None
  lack_none (reply.Ran q) e = cc
  lack_none _ e = refl

  -- so does each reply: a submit that memory refused completes no job
  pub answer_tells : (M : History W) (x : Step W) (r : Reply W) (c : Completion) → Answers work M x r → Some c ≡ completion_in r
      → Tells (account_in work M c.server) c
  answer_tells M x r c answers e = elim (cases_Bool (is_lack r)) [
    | inl t ↦ let n = lack_none r t in cc
    | inr f ↦ let same : r ≡ reply_in work M x = rw f at answers in reply_tells M x c (e ∙ ap completion_in same)
  ]

  -- one step more
  pub completes_more : (M : History W) (xs : List (Step W)) (rs : List (Reply W)) (x : Step W) (r : Reply W) (s : ℕ) → AnswersAll work M xs rs
      → Completes work (account_in work M s) (account_in work (grown_by M xs rs) s) (completions_of s rs)
      → Completes work (account_in work (grown_by M xs rs) s) (account_in work (grown (grown_by M xs rs) x r) s) (completion_of s (completion_in r))
      → Completes work (account_in work M s) (account_in work (grown_by M (xs ++ x ∷ []) (rs ++ r ∷ [])) s) (completions_of s (rs ++ r ∷ []))
  completes_more M xs rs x r s all before now =
      rw (grown_by-push work M xs rs x r all, completions_of-push s rs r)
      (Completes-append (account_in work M s) (account_in work (grown_by M xs rs) s) (account_in work (grown (grown_by M xs rs) x r) s)
      (completions_of s rs) (completion_of s (completion_in r)) before now)

  -- the replies to a list with one step more are those to the list, and then one
  replies_after-push : (M : History W) (xs : List (Step W)) (x : Step W)
      → replies_after work M (xs ++ x ∷ []) ≡ replies_after work M xs ++ reply_in work (M ⊕⊕ xs) x ∷ []
  replies_after-push M [] x = refl
  replies_after-push M (y ∷ xs) x = ap (λ rs. reply_in work M y ∷ rs) (replies_after-push (M ⊕ y) xs x)

  -- a history and a list of steps, and one more step
  pub after-push : (M : History W) (xs : List (Step W)) (x : Step W) → M ⊕⊕ (xs ++ x ∷ []) ≡ (M ⊕⊕ xs) ⊕ x
  after-push M [] x = refl
  after-push M (y ∷ xs) x = after-push (M ⊕ y) xs x

  -- the law over a list of steps, and over one step more
  pub steps_complete : (M : History W) (xs : List (Step W)) (x : Step W) (s : ℕ)
      → Completes work (account_in work M s) (account_in work (M ⊕⊕ xs) s) (completions_of s (replies_after work M xs))
      → Completes work (account_in work (M ⊕⊕ xs) s) (account_in work ((M ⊕⊕ xs) ⊕ x) s) (completion_of s (completion_in (reply_in work (M ⊕⊕ xs) x)))
      → Completes work (account_in work M s) (account_in work (M ⊕⊕ (xs ++ x ∷ [])) s) (completions_of s (replies_after work M (xs ++ x ∷ [])))
  steps_complete M xs x s before now =
      let N = M ⊕⊕ xs in
      rw (after-push M xs x, replies_after-push M xs x, completions_of-push s (replies_after work M xs) (reply_in work N x))
      (Completes-append (account_in work M s) (account_in work N s) (account_in work (N ⊕ x) s)
      (completions_of s (replies_after work M xs)) (completion_of s (completion_in (reply_in work N x))) before now)

module _ {W : Type 0} (work : Meaning W) where
  -- an account goes on by the completion in the reply to a step, if that is of its server and is numbered and counted
  -- so
  pub completes_told : (M : History W) (x : Step W) (r : Reply W) (s : ℕ) (c : Completion) → Some c ≡ completion_in r → Answers work M x r → c.server ≡ s
      → c.seq ≡ finished work (account_in work M s) → finished work (account_in work (grown M x r) s) ≡ finished work (account_in work M s) + 1
      → Completes work (account_in work M s) (account_in work (grown M x r) s) (c ∷ [])
  completes_told M x r s c is answers here seq count =
      let after = account_in work (grown M x r) s in
      let more = accepted_grown work M x r s in
      let told : Tells work (account_in work M s) c = subst (λ t. Tells work (account_in work M t) c) here (answer_tells work M x r c answers is) in
      let wholes : map (whole work) after.accepted ≡ map (whole work) (account_in work M s).accepted ++ map (whole work) more.0 =
      ap (map (whole work)) more.1 ∙ map-append (whole work) (account_in work M s).accepted more.0 in
      let within : c.seq < length (map (whole work) (account_in work M s).accepted) =
      let w = told.within in omega (arith, length-map (account_in work M s).accepted (whole work)) in
      let found : take 1 (drop c.seq (map (whole work) after.accepted)) ≡ c.result ∷ [] =
      rw wholes (part_of_more c.seq 1 (map (whole work) (account_in work M s).accepted) (map (whole work) more.0) (omega arith))
      ∙ part_of_one c.seq (map (whole work) (account_in work M s).accepted) within ∙ ap (λ k. k ∷ []) (sym told.result) in
      record {
        jobs = more;
        numbers = ap (λ k. k ∷ []) seq;
        results = sym (rw (← seq) found);
        finished = count;
      }
