-- Within how many ticks a load makes up what one unit overran: at the rate of what no server has reserved.
use Rattle.std.specs.Prelude.{◌≡◌, ℕ, ◌+◌, ◌-◌, ◌*◌, ◌≤◌, ◌<◌, true, eqb, if◌then◌else◌, max, List, [], ◌∷◌, ◌++◌, length, Option, Some, None}
use Rattle.std.specs.Int.{div_ceil}
use Rattle.std.specs.List.{fold}
use Rattle.cbs_rate.specs.Plan.{common_multiple}
use Rattle.cbs_rate.specs.Rate.{Rate}
use Rattle.cbs_recovery.specs.Recovery.{charged}
use Rattle.cbs_steps.specs.Accounts.{face_of}
use Rattle.cbs_steps.specs.Faces.{is_ready}
use Rattle.cbs_steps.specs.History.{account, after}
use Rattle.cbs_steps.specs.Quiet.{AdvanceQuietly}
use Rattle.cbs_steps.specs.declared.step.Step.{Step}
use Rattle.cbs_steps.specs.declared.step.Step.TheVariants.{Charge}
use Rattle.cbs_steps.specs.Setups.{history_of}
use Rattle.cbsrun_loads.specs.Loads.{LoadFile}
use Rattle.cbsrun_simulate.specs.Loading.{loading}
use Rattle.cbsrun_simulate.specs.declared.load_job.LoadJob.{LoadJob}
use Rattle.cbsrun_simulate.specs.declared.terms.SourceTerms.{SourceTerms}
use Rattle.cbsrun_sizing.specs.Budgets.{reserved}

-- the most ticks that any unit of these sources may overrun
abbrev pub greatest_overrun : List SourceTerms → ℕ
greatest_overrun sources = fold (λ most t. max most t.overrun.greatest) 0 sources

-- how many ticks are free, which no server has reserved, of as many as all periods come together after
abbrev pub free : List Rate → ℕ
free rates = common_multiple rates - reserved rates

-- the least time in which so many ticks are free, in ticks; none if every tick is reserved
abbrev pub free_within : List Rate → ℕ → Option ℕ
free_within rates ticks = if eqb (free rates) 0 then None else Some (div_ceil (ticks * common_multiple rates) (free rates))

-- within how many ticks what one unit overran is made up
abbrev pub recovery : LoadFile → Option ℕ
recovery f = free_within f.plan.rates (greatest_overrun f.sources)

-- Whatever steps the servers of a load make: a unit was charged, from the tick t on, at most what units of the load may
-- overrun, and nothing else was charged. Then no server is late whose deadline is at t + n or later. The premise is that
-- each advance was quiet.
abbrev pub IsMadeUpWithin : LoadFile → ℕ → Type 0
IsMadeUpWithin f n = (later earlier : List (Step LoadJob)) (c ticks s : ℕ) → ticks ≤ greatest_overrun f.sources
    → (let steps = later ++ Charge c ticks ∷ earlier in
    let N = history_of f.modes f.plan.rates f.backlog steps in
    let w = after loading N.setup steps in
    let d = (account w.accounts s).state.deadline in
    AdvanceQuietly loading N.setup steps → charged loading N.setup later (Charge c ticks ∷ earlier) ≡ 0 → charged loading N.setup earlier [] ≡ 0
    → s < length w.accounts → is_ready (face_of loading (account w.accounts s)) ≡ true → (after loading N.setup earlier).now + n ≤ d → w.now < d)
