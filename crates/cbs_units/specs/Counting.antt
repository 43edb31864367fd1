-- Jobs, steps and worlds of which nothing is kept of a job but its number of units.
use Rattle.std.specs.Prelude.{◌-◌, map, refl}
use Rattle.cbs_job.specs.Work.{Meaning, Lowers}
use Rattle.cbs_steps.specs.Accounts.{Account}
use Rattle.cbs_steps.specs.History.{World, History}
use Rattle.cbs_steps.specs.declared.step.Step.{Step}
use Rattle.cbs_steps.specs.declared.step.Step.TheVariants.{Submit, Run, Advance, Close, Charge}
use Rattle.cbs_steps.specs.declared.reply.Ran.{Ran}
use Rattle.cbs_steps.specs.declared.reply.Ran.TheVariants as ran
use Rattle.cbs_steps.specs.declared.reply.Reply.{Reply}
use Rattle.cbs_steps.specs.declared.reply.Reply.TheVariants as reply
use Rattle.cbs_units.specs.declared.count.CountJob.{CountJob}

-- a job that is only its units: one less after each unit, and the output is 0
abbrev pub counting : Meaning CountJob
counting = record { left = λ j. j.units; output = λ j. 0; after = λ j. record { units = j.units - 1 } }

-- a unit lowers the number of units left by one
pub counting_lowers : Lowers counting
counting_lowers j some = refl

-- what a Run came to, with 0 as the result of a job
abbrev pub counted_ran : Ran → Ran
counted_ran ran.Idle = ran.Idle
counted_ran ran.ClockEnd = ran.ClockEnd
counted_ran (ran.Unit s q) = ran.Unit s q
counted_ran (ran.Done c) = ran.Done (record c { result = 0 })

module _ {W : Type 0} where
  -- the job as its units
  abbrev pub counted : Meaning W → W → CountJob
  counted work job = record { units = work.left job }

  -- the step, with the job of a submit as its units
  abbrev pub counted_step : Meaning W → Step W → Step CountJob
  counted_step work (Submit s job) = Submit s (counted work job)
  counted_step work Run = Run
  counted_step work (Advance n) = Advance n
  counted_step work (Close s) = Close s
  counted_step work (Charge s n) = Charge s n

  -- the history, with each job as its units
  abbrev pub counted_history : Meaning W → History W → History CountJob
  counted_history work M = record { setup = M.setup; steps = map (counted_step work) M.steps }

  -- what is known of a server, with each accepted job as its units: all else is the same
  abbrev pub counted_account : Meaning W → Account W → Account CountJob
  counted_account work a = record {
    terms = a.terms;
    accepted = map (counted work) a.accepted;
    got = a.got;
    state = a.state;
    charges = a.charges;
    latest = a.latest;
    runs = a.runs;
    closed = a.closed;
  }

  -- the world, with each accepted job as its units: all else is the same
  abbrev pub counted_world : Meaning W → World W → World CountJob
  counted_world work w = record { now = w.now; accounts = map (counted_account work) w.accounts }

  -- the reply, with 0 as the result of a job, and with a job that is handed back as its units
  abbrev pub counted_reply : Meaning W → Reply W → Reply CountJob
  counted_reply work (reply.Accepted q) = reply.Accepted q
  counted_reply work (reply.NotAccepted r) = reply.NotAccepted (record { error = r.error; task = counted work r.task })
  counted_reply work (reply.Ran r) = reply.Ran (counted_ran r)
  counted_reply work reply.Advanced = reply.Advanced
  counted_reply work reply.Closed = reply.Closed
  counted_reply work reply.Charged = reply.Charged
  counted_reply work (reply.Refused e) = reply.Refused e
