-- Each step is answered the same, if each job is its units.
use Rattle.std.proofs.Common.{◌≡◌, ℕ, zero, suc, ◌+◌, ◌-◌, Bool, true, false, leb, eqb, List, [], ◌∷◌, map, get_or, Option, Some, None, refl, sym, ap, ◌∙◌}
use Rattle.std.specs.Prelude.{if◌then◌else◌}
use Rattle.std.proofs.lemmas.List.{length-map}
use Rattle.cbs_job.specs.Work.{Meaning, whole, output_after}
use Rattle.cbs_rules.specs.Rules.{clock_end}
use Rattle.cbs_steps.specs.Accounts.{Account, need, finished}
use Rattle.cbs_steps.specs.Faces.{submit_refusal, close_refusal}
use Rattle.cbs_steps.specs.History.{World, History, ◌⊕◌, account, faces, chosen, charge_refusal, unit_reply, run_reply, submit_reply, close_reply, charge_reply, reply_to, world_after, reply_in}
use Rattle.cbs_steps.specs.declared.error.CoreError.{CoreError}
use Rattle.cbs_steps.specs.declared.error.CoreError.TheVariants as error
use Rattle.cbs_steps.specs.declared.step.Step.{Step}
use Rattle.cbs_steps.specs.declared.step.Step.TheVariants.{Submit, Run, Advance, Close, Charge}
use Rattle.cbs_steps.specs.declared.reply.Ran.{Ran}
use Rattle.cbs_steps.specs.declared.reply.Ran.TheVariants as ran
use Rattle.cbs_steps.specs.declared.reply.Reply.{Reply}
use Rattle.cbs_steps.specs.declared.reply.Reply.TheVariants as reply
use Rattle.cbs_steps.specs.Laws.{replies_after}
use Rattle.cbs_units.specs.declared.count.CountJob.{CountJob}
use Rattle.cbs_units.specs.Counting.{counting, counted_ran, counted, counted_step, counted_history, counted_account, counted_world, counted_reply}
use Rattle.cbs_units.specs.Laws.{KeepsReplies}
use Rattle.cbs_units.proofs.Accounts.{need_same, finished_same, faces_same, chosen_same, account_same}
use Rattle.cbs_units.proofs.Worlds.{world_same, charge_refusal_same}

module _ {W : Type 0} (work : Meaning W) where
  -- the output of a job that is its units is 0
  pub no_output : (n : ℕ) (j : CountJob) → output_after counting n j ≡ 0
  no_output zero j = refl
  no_output (suc n) j = no_output n (record { units = j.units - 1 })

  -- so is the result of each job
  no_result : (jobs : List CountJob) (k : ℕ) → get_or (map (whole counting) jobs) k 0 ≡ 0
  no_result [] k = refl
  no_result (j ∷ jobs) zero = no_output j.units j
  no_result (j ∷ jobs) (suc k) = no_result jobs k

  -- the same by a test
  ran_if : (b : Bool) (s k r : ℕ) → (if b then ran.Done (record { server = s; seq = k; result = 0 }) else ran.Unit s k)
      ≡ counted_ran (if b then ran.Done (record { server = s; seq = k; result = r }) else ran.Unit s k)
  ran_if true s k r = refl
  ran_if false s k r = refl

  -- what a Run returns
  unit_same : (a : Account W) (s : ℕ) → unit_reply counting (counted_account work a) s ≡ counted_ran (unit_reply work a s)
  unit_same a s =
      rw (finished_same work a, need_same work a (finished work a + 1), no_result (map (counted work) a.accepted) (finished work a))
      (ran_if (eqb (need work a (finished work a + 1)) (a.got + 1)) s (finished work a) (get_or (map (whole work) a.accepted) (finished work a) 0))

  end_if : (b : Bool) (x : Ran) → (if b then ran.ClockEnd else counted_ran x) ≡ counted_ran (if b then ran.ClockEnd else x)
  end_if true x = refl
  end_if false x = refl

  run_reply_same : (w : World W) (o : Option ℕ) → run_reply counting (counted_world work w) o ≡ counted_ran (run_reply work w o)
  run_reply_same w None = refl
  run_reply_same w (Some s) = rw (account_same work w s, unit_same (account w.accounts s) s) (end_if (leb clock_end w.now) (unit_reply work (account w.accounts s) s))

  -- what each step is answered
  submit_reply_same : (w : World W) (s : ℕ) (job : W) (o : Option CoreError) → submit_reply (counted_world work w) s (counted work job) o ≡ counted_reply work (submit_reply w s job o)
  submit_reply_same w s job None = rw (account_same work w s, length-map (account w.accounts s).accepted (counted work)) refl
  submit_reply_same w s job (Some e) = refl

  close_reply_same : (o : Option CoreError) → close_reply {W = CountJob} o ≡ counted_reply work (close_reply o)
  close_reply_same None = refl
  close_reply_same (Some e) = refl

  charge_reply_same : (o : Option CoreError) → charge_reply {W = CountJob} o ≡ counted_reply work (charge_reply o)
  charge_reply_same None = refl
  charge_reply_same (Some e) = refl

  advance_reply_if : (b : Bool) (e : CoreError) → counted_reply work (if b then reply.Advanced else reply.Refused e) ≡ (if b then reply.Advanced else reply.Refused e)
  advance_reply_if true e = refl
  advance_reply_if false e = refl

  -- the answer to one step
  reply_to_same : (backlog : ℕ) (w : World W) (x : Step W) → reply_to counting backlog (counted_world work w) (counted_step work x) ≡ counted_reply work (reply_to work backlog w x)
  reply_to_same backlog w (Submit s job) = rw (faces_same work w) (submit_reply_same w s job (submit_refusal backlog (faces work w) s))
  reply_to_same backlog w Run = rw (chosen_same work w) (ap (λ (r : Ran). reply.Ran r) (run_reply_same w (chosen work w)))
  reply_to_same backlog w (Advance n) = sym (advance_reply_if (leb (w.now + n) clock_end) error.ClockEnd)
  reply_to_same backlog w (Close s) = rw (faces_same work w) (close_reply_same (close_refusal (faces work w) s))
  reply_to_same backlog w (Charge s n) = rw (charge_refusal_same work w s n) (charge_reply_same (charge_refusal w s n))

  pub reply_same : (M : History W) (x : Step W) → reply_in counting (counted_history work M) (counted_step work x) ≡ counted_reply work (reply_in work M x)
  reply_same M x = ap (λ (w : World CountJob). reply_to counting M.setup.backlog w (counted_step work x)) (world_same work M) ∙ (reply_to_same M.setup.backlog (world_after work M) x)

  -- the answers to all steps of a list
  pub replies_same : (M : History W) (xs : List (Step W)) → KeepsReplies work M xs
  replies_same M [] = refl
  replies_same M (x ∷ xs) =
      ap (λ (r : Reply CountJob). r ∷ replies_after counting (counted_history work (M ⊕ x)) (map (counted_step work) xs)) (reply_same M x)
      ∙ ap (λ (rs : List (Reply CountJob)). counted_reply work (reply_in work M x) ∷ rs) (replies_same (M ⊕ x) xs)
