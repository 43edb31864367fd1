-- A bound on how late overruns can make the servers of a load.
use Rattle.std.specs.Prelude.{◌≡◌, ℕ, ◌+◌, ◌≤◌, ◌<◌, true, max, List, length, ◌∷◌, Some, None}
use Rattle.std.specs.List.{fold, range_with_len}
use Rattle.cbs_steps.specs.Setups.{history_of}
use Rattle.cbsrun_loads.specs.Loads.{LoadFile}
use Rattle.cbsrun_simulate.specs.Loading.{loading, job_of}
use Rattle.cbsrun_simulate.specs.declared.load_job.LoadJob.{LoadJob}
use Rattle.cbs_steps.specs.Accounts.{face_of}
use Rattle.cbs_steps.specs.Faces.{is_ready, submit_refusal}
use Rattle.cbs_steps.specs.History.{World, account, world_after, after, chosen, faces, run_reply, reply_in}
use Rattle.cbs_steps.specs.Quiet.{AdvanceQuietly}
use Rattle.cbs_steps.specs.declared.step.Step.{Step}
use Rattle.cbsrun_sizing.specs.ServerLoads.{most_charged, delay_of}
use Rattle.cbs_job.specs.declared.completion.Completion.{Completion}
use Rattle.cbs_rules.specs.Rules.{clock_end}
use Rattle.cbsrun_simulate.specs.Moves.{Move, submit, run, pass, charge, ran_in, Simulation, clock_of, after_move}
use Rattle.cbs_steps.specs.declared.reply.Ran.TheVariants as ran
use Rattle.cbs_steps.specs.declared.step.Step.TheVariants as step
use Rattle.cbs_guarantee.specs.Streams.{jobs_of}

-- the greatest of the delays of all servers by the others; 0 if there is no server
abbrev pub greatest_delay : LoadFile → ℕ
greatest_delay f = fold (λ most s. max most (delay_of f s)) 0 (range_with_len 0 (length f.plan.rates))

-- no server was charged more for one unit than its sources may overrun
abbrev pub IsChargedWithin : LoadFile → World LoadJob → Type 0
IsChargedWithin f w = (s : ℕ) → s < length w.accounts → (account w.accounts s).charges.most ≤ most_charged f.sources s

-- if a server is ready, the clock is less than n ticks after its deadline
abbrev pub AreLateByLess : ℕ → World LoadJob → Type 0
AreLateByLess n w = (s : ℕ) → s < length w.accounts → is_ready (face_of loading (account w.accounts s)) ≡ true
    → w.now < (account w.accounts s).state.deadline + n

-- Whatever steps the servers of a load make: each unit begins less than n ticks after the deadline of its server. The
-- premises are that each advance was quiet, and that no server was charged more for one unit than its sources may
-- overrun.
abbrev pub BoundsLateness : LoadFile → ℕ → Type 0
BoundsLateness f n = (steps : List (Step LoadJob)) → let N = history_of f.modes f.plan.rates f.backlog steps in
    AdvanceQuietly loading N.setup steps → IsChargedWithin f (world_after loading N) → AreLateByLess n (world_after loading N)

-- The charge follows a run of server s, which took a tick. If that finished a job, the charge ends at most `within` ticks after the job's
-- release
pub record IsKeptCharge (s : ℕ) (released : ℕ → ℕ) (within : ℕ) (sim : Simulation LoadJob) (ends : ℕ) : Type 0 where
  pub before : List (Step LoadJob)
  pub steps : sim.history.steps ≡ step.Run ∷ before
  pub server : chosen loading (after loading sim.history.setup before) ≡ Some s
  pub early : (after loading sim.history.setup before).now < clock_end
  pub soon : (c : Completion) → (let w = after loading sim.history.setup before in run_reply loading w (chosen loading w) ≡ ran.Done c)
      → ends ≤ released c.seq + within

-- What a move does to server s, if job q of it is released at the tick `released q`. A submit to s is accepted, and has a
-- unit. A unit of s that finishes a job ends at most `within` ticks after the job's release, with its charge
abbrev pub IsKeptMove : ℕ → (ℕ → ℕ) → ℕ → Simulation LoadJob → Move → Type 0
IsKeptMove s released within sim (submit r) = r.server ≡ s
    → (submit_refusal sim.history.setup.backlog (faces loading (world_after loading sim.history)) s ≡ None)
    × (released (jobs_of loading sim.history.setup s sim.history.steps) ≡ r.tick) × (0 < r.units)
IsKeptMove s released within sim run = (c : Completion) → ran_in (reply_in loading sim.history step.Run) ≡ ran.Done c → c.server ≡ s
    → clock_of loading job_of (after_move loading job_of sim run) ≤ released c.seq + within
IsKeptMove s released within sim (pass n) = Unit {0}
IsKeptMove s released within sim (charge t n) = t ≡ s → IsKeptCharge s released within sim (clock_of loading job_of (after_move loading job_of sim (charge t n)))
