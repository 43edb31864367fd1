-- How a delay is made up, if units take longer than a tick and their servers are charged for it. The argument is that of
-- the processor's demand (Baruah, Rosier and Howell, Real-Time Systems 1990), for a stretch of ticks.
use Rattle.std.specs.Prelude.{ℕ, ◌≡◌, ◌+◌, ◌-◌, ◌*◌, ◌≤◌, ◌<◌, true, ltb, if◌then◌else◌, List, [], ◌∷◌, ◌++◌, length}
use Rattle.std.specs.Option.{is_none}
use Rattle.cbs_job.specs.Work.{Meaning}
use Rattle.cbs_rate.specs.Rate.{Rate}
use Rattle.cbs_rate.specs.Plan.{all_periods, total_share}
use Rattle.cbs_rules.specs.Rules.{until}
use Rattle.cbs_steps.specs.Accounts.{face_of, account_with_charge}
use Rattle.cbs_steps.specs.Faces.{is_ready}
use Rattle.cbs_steps.specs.History.{Setup, History, account, after, charge_refusal, world_after}
use Rattle.cbs_steps.specs.Quiet.{AdvanceQuietly}
use Rattle.cbs_steps.specs.declared.step.Step.{Step}
use Rattle.cbs_steps.specs.declared.step.Step.TheVariants.{Charge}

module _ {W : Type 0} where
  -- the ticks that one more step after M charges: those of a charge that is granted
  abbrev pub charged_by : Meaning W → Setup → List (Step W) → Step W → ℕ
  charged_by work setup M (Charge s n) = if is_none (charge_refusal (after work setup M) s n) then n else 0
  charged_by work setup M _ = 0

  -- the ticks that the steps K after M charge, the newest first
  abbrev pub charged : Meaning W → Setup → List (Step W) → List (Step W) → ℕ
  charged work setup [] M = 0
  charged work setup (y ∷ K) M = charged work setup K M + charged_by work setup (K ++ M) y

  -- The ticks by which one more step after M holds up those that are due by tick x: those that it charges to a server
  -- that is due later than x once it is charged
  abbrev pub held_by : Meaning W → Setup → ℕ → List (Step W) → Step W → ℕ
  held_by work setup x M (Charge s n) =
      let a = account_with_charge n (account (after work setup M).accounts s) in
      if ltb x (until a.terms.reservation a.state) then charged_by work setup M (Charge s n) else 0
  held_by work setup x M _ = 0

  -- the same of the steps K after M
  abbrev pub held : Meaning W → Setup → ℕ → List (Step W) → List (Step W) → ℕ
  held work setup x [] M = 0
  held work setup x (y ∷ K) M = held work setup x K M + held_by work setup x (K ++ M) y

  -- The steps are K after M, and M left the clock at t. The deadline d of server s has passed by less than the ticks by
  -- which K held up those that are due by d, less what no server has reserved of the ticks from t to d. All is said in
  -- parts of a tick, of which there are as many as every period divides
  pub record MakesUp (work : Meaning W) (rates : List Rate) (N : History W) (s : ℕ) : Type 0 where
    pub later : List (Step W)
    pub earlier : List (Step W)
    pub split : N.steps ≡ later ++ earlier
    pub began : (after work N.setup earlier).now ≤ (account (world_after work N).accounts s).state.deadline
    pub by : let d = (account (world_after work N).accounts s).state.deadline in
        let parts = all_periods rates in
        (world_after work N).now * parts + (d - (after work N.setup earlier).now) * (parts - total_share rates)
        < (d + held work N.setup d later earlier) * parts

  -- if each advance was quiet, the delay of each ready server is made up so
  abbrev pub KeepsRecovery : Meaning W → List Rate → History W → Type 0
  KeepsRecovery work rates N = AdvanceQuietly work N.setup N.steps → (s : ℕ) → s < length (world_after work N).accounts
      → is_ready (face_of work (account (world_after work N).accounts s)) ≡ true → MakesUp work rates N s

  -- Let one charge of n ticks be made after M, which left the clock at t, and no other charge before or after it. If
  -- each advance was quiet, the deadline d of a ready server that is late has passed by less than n ticks, less what no
  -- server has reserved of the ticks from t to d. So nobody is late whose deadline is so late that this is n ticks
  abbrev pub KeepsOneRecovery : Meaning W → List Rate → Setup → Type 0
  KeepsOneRecovery work rates setup = (K M : List (Step W)) (c n s : ℕ)
      → (let N = K ++ Charge c n ∷ M in
      let w = after work setup N in
      let d = (account w.accounts s).state.deadline in
      let parts = all_periods rates in
      AdvanceQuietly work setup N → charged work setup K (Charge c n ∷ M) ≡ 0 → charged work setup M [] ≡ 0
      → s < length w.accounts → is_ready (face_of work (account w.accounts s)) ≡ true → d ≤ w.now
      → w.now * parts + (d - (after work setup M).now) * (parts - total_share rates) < (d + n) * parts)
