-- What a list of steps leaves, and the reply to each step.
use Rattle.std.specs.Prelude.{ℕ, zero, suc, ◌+◌, eqb, leb, ltb, not, if◌then◌else◌, List, [], ◌∷◌, length, map, get_or, Option, Some, None}
use Rattle.cbs_job.specs.Work.{Meaning, whole}
use Rattle.cbs_rules.specs.Rules.{clock_end, Terms}
use Rattle.cbs_steps.specs.declared.error.CoreError.{CoreError}
use Rattle.cbs_steps.specs.declared.error.CoreError.TheVariants as error
use Rattle.cbs_steps.specs.declared.step.Step.{Step}
use Rattle.cbs_steps.specs.declared.step.Step.TheVariants.{Submit, Run, Advance, Close, Charge}
use Rattle.cbs_steps.specs.declared.reply.Ran.{Ran}
use Rattle.cbs_steps.specs.declared.reply.Ran.TheVariants as ran
use Rattle.cbs_steps.specs.declared.reply.Reply.{Reply}
use Rattle.cbs_steps.specs.declared.reply.Reply.TheVariants as reply
use Rattle.cbs_lists.specs.Lists.{changed_at}
use Rattle.cbs_steps.specs.Choice.{chosen_among}
use Rattle.cbs_steps.specs.Faces.{Face, ranks, submit_refusal, close_refusal}
use Rattle.cbs_steps.specs.Accounts.{Account, need, finished, face_of, new_account, no_account, account_with_job, account_with_unit}
use Rattle.cbs_steps.specs.Accounts.{account_with_charge, account_with_replenishment, account_with_close, account_let_go}

-- the clock, and what is known of each server
pub record World (W : Type 0) : Type 0 where
  pub now : ℕ
  pub accounts : List (Account W)

-- what an executor was given: the terms of its servers, and the greatest backlog of each
pub record Setup : Type 0 where
  pub servers : List Terms
  pub backlog : ℕ

module _ {W : Type 0} where
  -- the account of server s
  abbrev pub account : List (Account W) → ℕ → Account W
  account accounts s = get_or accounts s no_account

  -- what each server shows, without its jobs
  abbrev pub faces : Meaning W → World W → List Face
  faces work w = map (face_of work) w.accounts

  -- the chosen server
  abbrev pub chosen : Meaning W → World W → Option ℕ
  chosen work w = chosen_among (ranks (faces work w))

  -- one tick: the clock grows by one, and then each server that is due is replenished
  abbrev pub tick : World W → World W
  tick w = record { now = w.now + 1; accounts = map (account_with_replenishment (w.now + 1)) w.accounts }

  -- n ticks, one after the other
  unfoldable pub ticks : ℕ → World W → World W
  ticks zero w = w
  ticks (suc n) w = ticks n (tick w)

  -- the start: the clock is 0, and no server has a job
  abbrev pub start : Setup → World W
  start setup = record { now = 0; accounts = map new_account setup.servers }

  -- the server that a Run gives a unit to: the chosen one, if the clock is not at its end
  abbrev pub runner : Meaning W → World W → Option ℕ
  runner work w = if ltb w.now clock_end then chosen work w else None

  -- what a submit to s leaves, by why it is refused, if it is
  abbrev pub after_submit : Meaning W → World W → ℕ → W → Option CoreError → World W
  after_submit work w s job None = record w { accounts = changed_at (account_with_job work w.now job) w.accounts s }
  after_submit work w s job (Some e) = w

  -- no server runs any more, so that none can be charged
  abbrev pub let_go : World W → World W
  let_go w = record w { accounts = map account_let_go w.accounts }

  -- what a Run leaves, by the server that runs, if there is one: one unit, which takes one tick
  abbrev pub after_run : World W → Option ℕ → World W
  after_run w None = w
  after_run w (Some s) = tick (record w { accounts = changed_at account_with_unit (let_go w).accounts s })

  -- what an Advance by n ticks leaves
  abbrev pub after_advance : World W → ℕ → World W
  after_advance w zero = w
  after_advance w (suc n) = ticks (suc n) (let_go w)

  -- Why a charge of n ticks to server s is refused, if it is. Server s must be there and run, and the clock may not
  -- pass its end
  abbrev pub charge_refusal : World W → ℕ → ℕ → Option CoreError
  charge_refusal w s n =
      if leb (length w.accounts) s then Some error.NoSuchServer
      else if not (account w.accounts s).runs then Some error.NotRunning
      else if ltb clock_end (w.now + n) then Some error.ClockEnd
      else None

  -- what a Charge of n ticks to s leaves, by why it is refused, if it is: as many ticks pass. A charge of 0 ticks
  -- changes nothing
  abbrev pub after_charging : World W → ℕ → ℕ → Option CoreError → World W
  after_charging w s zero None = w
  after_charging w s (suc n) None = ticks (suc n) (record w { accounts = changed_at (account_with_charge (suc n)) w.accounts s })
  after_charging w s n (Some e) = w

  -- what a Close of s leaves, by why it is refused, if it is
  abbrev pub after_closing : World W → ℕ → Option CoreError → World W
  after_closing w s None = record w { accounts = changed_at account_with_close w.accounts s }
  after_closing w s (Some e) = w

  -- what one more step leaves
  abbrev pub next : Meaning W → ℕ → World W → Step W → World W
  next work backlog w (Submit s job) = after_submit work w s job (submit_refusal backlog (faces work w) s)
  next work backlog w Run = after_run w (runner work w)
  next work backlog w (Advance n) = if leb (w.now + n) clock_end then after_advance w n else w
  next work backlog w (Close s) = after_closing w s (close_refusal (faces work w) s)
  next work backlog w (Charge s n) = after_charging w s n (charge_refusal w s n)

  -- what a Run returns after a unit of server s: the job at the front got the unit, and is done if none is left
  abbrev pub unit_reply : Meaning W → Account W → ℕ → Ran
  unit_reply work a s =
      let k = finished work a in
      if eqb (need work a (k + 1)) (a.got + 1)
      then ran.Done (record { server = s; seq = k; result = get_or (map (whole work) a.accepted) k 0 })
      else ran.Unit s k

  -- what a Run returns, by the chosen server, if there is one
  abbrev pub run_reply : Meaning W → World W → Option ℕ → Ran
  run_reply work w None = ran.Idle
  run_reply work w (Some s) = if leb clock_end w.now then ran.ClockEnd else unit_reply work (account w.accounts s) s

  -- the reply to a Submit, by why it is refused, if it is: the job's number, or the job back
  abbrev pub submit_reply : World W → ℕ → W → Option CoreError → Reply W
  submit_reply w s job None = reply.Accepted (length (account w.accounts s).accepted)
  submit_reply w s job (Some e) = reply.NotAccepted (record { error = e; task = job })

  -- the reply to a Close, by why it is refused, if it is
  abbrev pub close_reply : Option CoreError → Reply W
  close_reply None = reply.Closed
  close_reply (Some e) = reply.Refused e

  -- the reply to a Charge, by why it is refused, if it is
  abbrev pub charge_reply : Option CoreError → Reply W
  charge_reply None = reply.Charged
  charge_reply (Some e) = reply.Refused e

  -- the reply to a step
  abbrev pub reply_to : Meaning W → ℕ → World W → Step W → Reply W
  reply_to work backlog w (Submit s job) = submit_reply w s job (submit_refusal backlog (faces work w) s)
  reply_to work backlog w Run = reply.Ran (run_reply work w (chosen work w))
  reply_to work backlog w (Advance n) = if leb (w.now + n) clock_end then reply.Advanced else reply.Refused error.ClockEnd
  reply_to work backlog w (Close s) = close_reply (close_refusal (faces work w) s)
  reply_to work backlog w (Charge s n) = charge_reply (charge_refusal w s n)

  -- what a list of steps leaves, the newest step first
  abbrev pub after : Meaning W → Setup → List (Step W) → World W
  after work setup [] = start setup
  after work setup (x ∷ M) = next work setup.backlog (after work setup M) x

-- a history: what an executor was given, and the steps since, the newest first. A submit that memory refused is no step
pub record History (W : Type 0) : Type 0 where
  pub setup : Setup
  pub steps : List (Step W)

module _ {W : Type 0} where
  infixl 60 ◌⊕◌
  -- the history M and one more step x
  abbrev pub ◌⊕◌ : History W → Step W → History W
  M ⊕ x = record M { steps = x ∷ M.steps }

  -- what the history leaves
  abbrev pub world_after : Meaning W → History W → World W
  world_after work M = after work M.setup M.steps

  -- the reply to x after the history
  abbrev pub reply_in : Meaning W → History W → Step W → Reply W
  reply_in work M x = reply_to work M.setup.backlog (world_after work M) x
