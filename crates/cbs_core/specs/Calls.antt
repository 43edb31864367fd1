-- What a call does to a core: one step, or a list of steps; and what a call returns of it.
use Rattle.std.specs.Prelude.{◌≡◌, ℕ, ◌<◌, false, List, length, Result}
use Rattle.std.specs.Bool.{MatchBool}
use Rattle.cbs_job.specs.Work.{Meaning}
use Rattle.cbs_rate.specs.Refusals.{RefusesByOrMemory}
use Rattle.cbs_steps.specs.Faces.{submit_refusal}
use Rattle.cbs_steps.specs.History.{History, Setup, ◌⊕◌, faces, reply_in, world_after}
use Rattle.cbs_steps.specs.Laws.{account_in, completions_of, Completes}
use Rattle.cbs_steps.specs.OnTime.{KeepsTime, KeepsTimeAll}
use Rattle.cbs_steps.specs.Paced.{KeepsPace, KeepsPaceAll}
use Rattle.cbs_steps.specs.Punctual.{IsPunctual}
use Rattle.cbs_steps.specs.Replies.{IsAccepted, is_lack, HandsBack, grown_by, AnswersAll}
use Rattle.cbs_steps.specs.declared.error.CoreError.{CoreError}
use Rattle.cbs_steps.specs.declared.error.CoreError.TheVariants.{OutOfMemory}
use Rattle.cbs_steps.specs.declared.reply.Reply.{Reply}
use Rattle.cbs_steps.specs.declared.step.Step.{Step}
use Rattle.cbs_steps.specs.declared.view.ServerView.{ServerView}
use Rattle.cbs_core.specs.Agreement.{Agrees}
use Rattle.cbs_core.specs.Held.{CoreHeld, KeepsBudgets}

module _ {W : Type 0} where
  -- The step x, with reply r, led from the old core to the new. For every history that the old core agrees with, r is
  -- the rules' reply to x after it. The new core agrees with that history and x. If all was on time, and x takes
  -- nobody's time, all stays on time. If all was paced, and x advances quietly, all stays paced, whatever x charges.
  -- The number of servers is the same, and each budget is at most the budget of its reservation.
  pub record Makes (work : Meaning W) (old new : CoreHeld W) (x : Step W) (r : Reply W) : Type 0 where
    pub reply : (M : History W) → Agrees work old M → r ≡ reply_in work M x
    pub state : (M : History W) → Agrees work old M → Agrees work new (M ⊕ x)
    pub on_time : (M : History W) → Agrees work old M → KeepsTime work M x
    pub paced : (M : History W) → Agrees work old M → KeepsPace work M x
    pub count : length new.faces ≡ length old.faces
    pub budgets : KeepsBudgets new

  -- memory refused the step x, which the rules would have accepted: its job comes back, and only room changed
  pub record Lacks (work : Meaning W) (old new : CoreHeld W) (x : Step W) (r : Reply W) : Type 0 where
    pub back : HandsBack x r
    pub accepted : (M : History W) → Agrees work old M → IsAccepted (reply_in work M x)
    pub same : new ≡ record old { rooms = new.rooms }
    pub budgets : KeepsBudgets new

  -- the step was made, or memory refused it
  abbrev pub Tries : Meaning W → CoreHeld W → CoreHeld W → Step W → Reply W → Type 0
  Tries work old new x r = MatchBool (is_lack r) (Lacks work old new x r) (Makes work old new x r)

  -- All the steps, with replies rs, led from the old core to the new, except the submits that memory refused. This is
  -- Makes for lists.
  pub record TriesAll (work : Meaning W) (old new : CoreHeld W) (xs : List (Step W)) (rs : List (Reply W)) : Type 0 where
    pub replies : (M : History W) → Agrees work old M → AnswersAll work M xs rs
    pub state : (M : History W) → Agrees work old M → Agrees work new (grown_by M xs rs)
    pub on_time : (M : History W) → Agrees work old M → KeepsTimeAll work M xs rs
    pub paced : (M : History W) → Agrees work old M → KeepsPaceAll work M xs rs
    pub count : length new.faces ≡ length old.faces
    pub budgets : KeepsBudgets new

  -- what the replies to the steps mean for each server: its completions go on by those of the replies
  abbrev pub CompletesSteps : Meaning W → CoreHeld W → List (Step W) → List (Reply W) → Type 0
  CompletesSteps work old xs rs = (M : History W) → Agrees work old M → (s : ℕ)
      → Completes work (account_in work M s) (account_in work (grown_by M xs rs) s) (completions_of s rs)

  -- the laws on time and on a server's share hold of every list of steps after this setup
  abbrev pub AllPunctual : Meaning W → Setup → Type 0
  AllPunctual work setup = (steps : List (Step W)) → IsPunctual work (record { setup = setup; steps = steps })

  -- the call refuses as a submit on this server would, or is out of memory, or succeeds
  abbrev pub RefusesAsSubmit : {T : Type 0} → Meaning W → CoreHeld W → ℕ → Result T CoreError → Type 0
  RefusesAsSubmit work core server result = (M : History W) → Agrees work core M
      → RefusesByOrMemory OutOfMemory result (submit_refusal M.setup.backlog (faces work (world_after work M)) server)

-- the view's server has no unfinished job, or is throttled, or it is still before this tick
abbrev pub IsBefore : ℕ → ServerView → ℕ → Type 0
IsBefore now view tick = view.finished < view.accepted → view.throttled ≡ false → now < tick
