-- Laws for whole runs.
use Rattle.std.specs.Prelude.{◌≡◌, ℕ, ◌+◌, ◌*◌, ◌≤◌, ◌<◌, Bool, true, ◌||◌, eqb, if◌then◌else◌, List, [], ◌∷◌, ◌++◌, length, map, take, drop, Option}
use Rattle.std.specs.Prelude.{Some, None}
use Rattle.std.specs.List.{range_with_len}
use Rattle.cbs_job.specs.Work.{Meaning, whole}
use Rattle.cbs_job.specs.declared.completion.Completion.{Completion}
use Rattle.cbs_rules.specs.declared.mode.Mode.TheVariants.{Throttled}
use Rattle.cbs_steps.specs.Faces.{Face, is_ready}
use Rattle.cbs_steps.specs.Accounts.{Account, finished, taken}
use Rattle.cbs_steps.specs.History.{History, ◌⊕◌, account, world_after, reply_in}
use Rattle.cbs_steps.specs.Replies.{IsAccepted}
use Rattle.cbs_steps.specs.declared.step.Step.{Step}
use Rattle.cbs_steps.specs.declared.step.Step.TheVariants as step
use Rattle.cbs_steps.specs.declared.reply.Ran.{Ran}
use Rattle.cbs_steps.specs.declared.reply.Ran.TheVariants as ran
use Rattle.cbs_steps.specs.declared.reply.Reply.{Reply}
use Rattle.cbs_steps.specs.declared.reply.Reply.TheVariants as reply

-- the completion in the result of a Run, if there is one
abbrev pub completion_ran : Ran → Option Completion
completion_ran (ran.Done c) = Some c
completion_ran _ = None

-- the list of this completion if it is one of server s, else the empty list
abbrev pub completion_of : ℕ → Option Completion → List Completion
completion_of s None = []
completion_of s (Some c) = if eqb c.server s then c ∷ [] else []

module _ {W : Type 0} where
  -- what is known of server s after the history
  abbrev pub account_in : Meaning W → History W → ℕ → Account W
  account_in work M s = account (world_after work M).accounts s

  -- the completion in a reply, if there is one
  abbrev pub completion_in : Reply W → Option Completion
  completion_in (reply.Ran r) = completion_ran r
  completion_in _ = None

  -- the completions of server s among the replies, in order
  abbrev pub completions_of : ℕ → List (Reply W) → List Completion
  completions_of s [] = []
  completions_of s (r ∷ rs) = completion_of s (completion_in r) ++ completions_of s rs

  -- the replies to the steps, each after M and the steps before it
  abbrev pub replies_after : Meaning W → History W → List (Step W) → List (Reply W)
  replies_after work M [] = []
  replies_after work M (x ∷ xs) = reply_in work M x ∷ replies_after work (M ⊕ x) xs

  -- These are the completions of a server, from what was known of it before to what is known after. The accepted jobs
  -- stay, in order, and more may follow. The completions are numbered on from the finished jobs, without a gap or a
  -- repeat. Each has the whole result of the accepted job of its number. The jobs of the completions are exactly those
  -- finished since.
  pub record Completes (work : Meaning W) (before after : Account W) (completions : List Completion) : Type 0 where
    pub jobs : (more : List W) × (after.accepted ≡ before.accepted ++ more)
    pub numbers : map (λ c. c.seq) completions ≡ range_with_len (finished work before) (length completions)
    pub results : map (λ c. c.result) completions ≡ take (length completions) (drop (finished work before) (map (whole work) after.accepted))
    pub finished : finished work after ≡ finished work before + length completions

  -- once server s is closed, no submit to it is accepted by these replies to these steps. `closed` says whether s was
  -- closed before
  abbrev pub NoneAfterClose : ℕ → Bool → List (Step W) → List (Reply W) → Type 0
  NoneAfterClose s closed [] rs = Unit {0}
  NoneAfterClose s closed (x ∷ xs) [] = Unit {0}
  NoneAfterClose s closed (step.Submit t job ∷ xs) (r ∷ rs) = (closed ≡ true → t ≡ s → ¬ IsAccepted r) × NoneAfterClose s closed xs rs
  NoneAfterClose s closed (step.Close t ∷ xs) (r ∷ rs) = NoneAfterClose s (closed || eqb t s) xs rs
  NoneAfterClose s closed (x ∷ xs) (r ∷ rs) = NoneAfterClose s closed xs rs

  -- No server takes more than its share of the time that its deadline moves over. With Q ticks in every T, from before
  -- to after: (ticks taken since) + (budget - overrun) - (budget - overrun before) <= Q / T * (deadline - deadline
  -- before). Here both sides are taken T times, and each subtracted number stands on the other side. It is the
  -- bandwidth lemma of Abeni and Buttazzo 1998, with charges counted as taken.
  abbrev pub IsWithinShare : Account W → Account W → Type 0
  IsWithinShare before after =
      let r = before.terms.reservation in
      (taken after + after.state.budget + before.state.overrun) * r.period + before.state.deadline * r.budget
      ≤ (taken before + before.state.budget + after.state.overrun) * r.period + after.state.deadline * r.budget

  -- In any window from M to N, a server of throttled mode takes no more than the sum of four numbers. This holds if M
  -- leaves its deadline not past. The numbers are the budget that it starts with, its share of the window's ticks, one
  -- budget, and its greatest charge for one unit. With Q ticks in every T: (ticks taken since) <= (budget before) + Q /
  -- T * (ticks from M to N) + Q + (most charged for one unit), written as above.
  abbrev pub IsWithinCap : Meaning W → History W → History W → ℕ → Type 0
  IsWithinCap work M N s =
      let before = account_in work M s in
      let after = account_in work N s in
      let r = before.terms.reservation in
      before.terms.mode ≡ Throttled → (world_after work M).now ≤ before.state.deadline
      → taken after * r.period + (world_after work M).now * r.budget
      ≤ (taken before + before.state.budget + after.charges.most) * r.period + ((world_after work N).now + r.period) * r.budget

-- the budget of a server: never more than its reservation's, above 0 while it is ready, and 0 while it is throttled
pub record IsWithinBudget (f : Face) : Type 0 where
  pub capped : f.state.budget ≤ f.terms.reservation.budget
  pub ready : is_ready f ≡ true → 0 < f.state.budget
  pub throttled : f.state.throttled ≡ true → f.state.budget ≡ 0
