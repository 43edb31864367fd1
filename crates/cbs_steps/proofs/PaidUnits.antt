-- No server gets more units than its accepted jobs need.
use Rattle.std.proofs.Common.{◌≡◌, ℕ, zero, suc, ◌+◌, ◌≤◌, ◌<◌, List, [], ◌∷◌, ◌++◌, length, map, arith, true}
use Rattle.std.proofs.lemmas.Bool.Decides.{nat_tests}
use Rattle.std.proofs.lemmas.List.{take_all}
use Rattle.std.proofs.lemmas.List.Sums.{sum_by-append}
use Rattle.std.specs.List.{sum_by}
use Rattle.cbs_job.specs.Work.{Meaning}
use Rattle.cbs_rules.specs.Rules.{Terms}
use Rattle.cbs_steps.specs.Faces.{is_ready}
use Rattle.cbs_steps.specs.Accounts.{Account, need, finished, face_of, new_account, account_with_job, account_with_unit}
use Rattle.cbs_steps.specs.History.{Setup, account, after}
use Rattle.cbs_steps.specs.declared.step.Step.{Step}
use Rattle.cbs_steps.proofs.FinishedJobs.{count_done_beyond, need-mono}
use Rattle.cbs_steps.proofs.Histories.{holds_after}

module _ {W : Type 0} (work : Meaning W) where
  -- no more units than the accepted jobs need
  abbrev pub IsPaid : Account W → Type 0
  IsPaid a = a.got ≤ need work a (length a.accepted)

  -- a job accepted keeps that no more units were run than the accepted jobs need
  paid_job : (now : ℕ) (job : W) (a : Account W) → IsPaid a → IsPaid (account_with_job work now job a)
  paid_job now job a h =
      let n = take_all (length a.accepted) a.accepted (omega arith) in
      let more = a.accepted ++ job ∷ [] in
      let m : need work (account_with_job work now job a) (length more) ≡ sum_by work.left more = rw (take_all (length more) more (omega arith)) in
      let k : need work a (length a.accepted) ≡ sum_by work.left a.accepted = rw n in
      omega (arith, sum_by-append work.left a.accepted (job ∷ []))

  -- so does a unit of a ready server
  paid_unit : (a : Account W) → is_ready (face_of work a) ≡ true → IsPaid a → IsPaid (account_with_unit a)
  paid_unit a ready h =
      let lt : finished work a < length a.accepted = grind (arith, nat_tests) in
      let b = count_done_beyond work.left a.accepted a.got lt in
      omega (arith, need-mono work.left a.accepted (finished work a + 1) (length a.accepted) (omega arith))

  -- at the start no server has got more units than its accepted jobs need
  paid_opened : (terms : List Terms) (s : ℕ) → IsPaid (account (map new_account terms) s)
  paid_opened [] s = omega arith
  paid_opened (t ∷ ts) zero = omega arith
  paid_opened (t ∷ ts) (suc s) = paid_opened ts s

  -- after every history
  pub paid_after : (setup : Setup) (M : List (Step W)) (s : ℕ) → IsPaid (account (after work setup M).accounts s)
  paid_after setup M s = holds_after work (λ now. IsPaid) (λ now. paid_unit) (λ now a h. h) (λ now a h. h) (λ now a h. h) paid_job (λ now n a some runs h. h) setup M s (paid_opened setup.servers s)
