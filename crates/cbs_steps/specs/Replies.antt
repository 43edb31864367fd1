-- What the calls return, as replies to steps.
use Rattle.std.specs.Prelude.{◌≡◌, ℕ, List, [], ◌∷◌, Bool, false, Result, Ok, Err, if◌then◌else◌}
use Rattle.std.specs.Bool.{MatchBool}
use Rattle.cbs_job.specs.Work.{Meaning}
use Rattle.cbs_steps.specs.declared.step.Step.{Step}
use Rattle.cbs_steps.specs.declared.step.Step.TheVariants as step
use Rattle.cbs_steps.specs.declared.reply.Reply.{Reply}
use Rattle.cbs_steps.specs.declared.reply.Reply.TheVariants as reply
use Rattle.cbs_steps.specs.declared.reply.SubmitRefused.{SubmitRefused}
use Rattle.cbs_steps.specs.declared.error.CoreError.{CoreError}
use Rattle.cbs_steps.specs.declared.error.CoreError.TheVariants as error
use Rattle.cbs_steps.specs.Errors.{is_out_of_memory}
use Rattle.cbs_steps.specs.History.{History, ◌⊕◌, reply_in}

module _ {W : Type 0} where
  -- the reply that stands for the result of a submit
  abbrev pub submitted : Result ℕ (SubmitRefused W) → Reply W
  submitted (Ok q) = reply.Accepted q
  submitted (Err e) = reply.NotAccepted e

  -- the reply that stands for the result of an advance
  abbrev pub advanced : Result (Unit {0}) CoreError → Reply W
  advanced (Ok _) = reply.Advanced
  advanced (Err e) = reply.Refused e

  -- the reply that stands for the result of a close
  abbrev pub closed : Result (Unit {0}) CoreError → Reply W
  closed (Ok _) = reply.Closed
  closed (Err e) = reply.Refused e

  -- the reply that stands for the result of a charge
  abbrev pub charged : Result (Unit {0}) CoreError → Reply W
  charged (Ok _) = reply.Charged
  charged (Err e) = reply.Refused e

  -- the reply accepts a submit
  abbrev pub IsAccepted : Reply W → Type 0
  IsAccepted r = (q : ℕ) × (r ≡ reply.Accepted q)

  -- whether a reply says that memory refused a submit
  abbrev pub is_lack : Reply W → Bool
  is_lack (reply.NotAccepted e) = is_out_of_memory e.error
  is_lack _ = false

  -- the reply r hands the job of the submit x back, because the executor is out of memory
  abbrev pub HandsBack : Step W → Reply W → Type 0
  HandsBack (step.Submit s job) r = r ≡ reply.NotAccepted (record { error = error.OutOfMemory; task = job })
  HandsBack _ r = ⊥

  -- the history M and the step x with reply r; a submit that memory refused is left out
  abbrev pub grown : History W → Step W → Reply W → History W
  grown M x r = if is_lack r then M else M ⊕ x

  -- r is the reply to x after M. Instead of an acceptance, and of nothing else, r may say that memory refused the
  -- submit
  abbrev pub Answers : Meaning W → History W → Step W → Reply W → Type 0
  Answers work M x r = MatchBool (is_lack r) (HandsBack x r × IsAccepted (reply_in work M x)) (r ≡ reply_in work M x)

  -- the history M and all the steps, except the submits that memory refused
  abbrev pub grown_by : History W → List (Step W) → List (Reply W) → History W
  grown_by M [] rs = M
  grown_by M (x ∷ xs) [] = M
  grown_by M (x ∷ xs) (r ∷ rs) = grown_by (grown M x r) xs rs

  -- one reply to each step, in order, each after M and the steps before it
  abbrev pub AnswersAll : Meaning W → History W → List (Step W) → List (Reply W) → Type 0
  AnswersAll work M [] [] = Unit {0}
  AnswersAll work M (x ∷ xs) (r ∷ rs) = Answers work M x r × AnswersAll work (grown M x r) xs rs
  AnswersAll work M _ _ = ⊥
