-- Paced: on time but for charges. But for what was charged, all servers together ask for no more than the time that is
-- left. A step keeps it, whatever it charges, if it advances quietly.
use Rattle.std.specs.Prelude.{ℕ, ◌+◌, ◌-◌, ◌*◌, ◌≤◌, ◌<◌, Bool, ◌||◌, ltb, if◌then◌else◌, List, map, length}
use Rattle.std.specs.Int.{div_ceil}
use Rattle.std.specs.List.{sum_by, AllByRecursion}
use Rattle.cbs_job.specs.Work.{Meaning}
use Rattle.cbs_rate.specs.Plan.{all_periods}
use Rattle.cbs_rules.specs.Rules.{until}
use Rattle.cbs_steps.specs.Accounts.{Account, face_of, finished}
use Rattle.cbs_steps.specs.Charged.{others_charges}
use Rattle.cbs_steps.specs.Continuations.{◌⊕⊕◌, EachAllowed}
use Rattle.cbs_steps.specs.Faces.{Face, is_active, reservations}
use Rattle.cbs_steps.specs.History.{World, History, ◌⊕◌, world_after}
use Rattle.cbs_steps.specs.Lateness.{IsLateByLess}
use Rattle.cbs_steps.specs.Laws.{account_in}
use Rattle.cbs_steps.specs.OnTime.{demand_of, IsAhead}
use Rattle.cbs_steps.specs.Promises.{owed, promised_tick}
use Rattle.cbs_steps.specs.Quiet.{IsQuietAdvanceAfter, AdvanceQuietly, EachAdvancesQuietly}
use Rattle.cbs_steps.specs.Replies.{grown_by}
use Rattle.cbs_steps.specs.declared.reply.Reply.{Reply}
use Rattle.cbs_steps.specs.declared.step.Step.{Step}

-- What pacing looks at in a server: what it shows, whether it runs, and the ticks by which charges of it may hold
-- others up. If it runs, these were charged for its last unit. Else they are the most that it was charged for one unit.
pub record Pace : Type 0 where
  pub face : Face
  pub runs : Bool
  pub holds : ℕ

-- what a server may ask for up to tick x; a server that runs counts as active, since it may be charged
abbrev pub asked : ℕ → ℕ → ℕ → Pace → ℕ
asked parts now x p = demand_of parts p.face.terms.reservation now x (p.runs || is_active p.face) p.face.state

-- the ticks by which a server may have held up those whose deadline is x: none if its own deadline is not later
abbrev pub held_up : ℕ → Pace → ℕ
held_up x p = if ltb x (until p.face.terms.reservation p.face.state) then p.holds else 0

-- What the servers together ask for up to a tick, if anything, is at most the time until then, plus the ticks by which
-- they may have been held up. A tick has so many parts. Each throttled server still waits for its deadline.
pub record IsPacedBy (parts now : ℕ) (ps : List Pace) : Type 0 where
  pub within : (x : ℕ) → 0 < sum_by (asked parts now x) ps → sum_by (asked parts now x) ps + now * parts ≤ (x + sum_by (held_up x) ps) * parts
  pub ahead : AllByRecursion (λ p. IsAhead now p.face) ps

-- paced: it is so with as many parts in a tick as every period divides
abbrev pub IsPaced : ℕ → List Pace → Type 0
IsPaced now ps = IsPacedBy (all_periods (reservations (map (λ p. p.face) ps))) now ps

module _ {W : Type 0} where
  -- what pacing looks at in an account
  abbrev pub pace_of : Meaning W → Account W → Pace
  pace_of work a = record { face = face_of work a; runs = a.runs; holds = if a.runs then a.latest else a.charges.most }

  -- a world that is paced
  abbrev pub IsWorldPaced : Meaning W → World W → Type 0
  IsWorldPaced work w = IsPaced w.now (map (pace_of work) w.accounts)

  -- if each advance was quiet, all is paced
  abbrev pub KeepsPaced : Meaning W → History W → Type 0
  KeepsPaced work M = AdvanceQuietly work M.setup M.steps → IsWorldPaced work (world_after work M)

  -- if all is paced, and the step x advances quietly, all stays paced
  abbrev pub KeepsPace : Meaning W → History W → Step W → Type 0
  KeepsPace work M x = IsQuietAdvanceAfter work M x → IsWorldPaced work (world_after work M) → IsWorldPaced work (world_after work (M ⊕ x))

  -- if all is paced, and each of the steps advances quietly, all stays paced; rs are the replies to the steps
  abbrev pub KeepsPaceAll : Meaning W → History W → List (Step W) → List (Reply W) → Type 0
  KeepsPaceAll work M xs rs = EachAdvancesQuietly work M xs rs → IsWorldPaced work (world_after work M)
      → IsWorldPaced work (world_after work (grown_by M xs rs))

  -- if all is paced, a ready server is late by less than those with later deadlines were charged, the most of each for
  -- one unit
  abbrev pub KeepsPacedLateness : Meaning W → History W → Type 0
  KeepsPacedLateness work M = IsWorldPaced work (world_after work M) → (s : ℕ) → IsLateByLess work (world_after work M) s

  -- each of the steps advances quietly at its place, after M and the steps before it
  abbrev pub AllAdvanceQuietly : Meaning W → History W → List (Step W) → Type 0
  AllAdvanceQuietly work M xs = EachAllowed (IsQuietAdvanceAfter work) M xs

  -- the ticks that server s was charged in N and not yet in M
  abbrev pub charged_since : Meaning W → History W → History W → ℕ → ℕ
  charged_since work M N s = (account_in work N s).charges.total - (account_in work M s).charges.total

  -- Each job that server s accepted in M is finished once the clock has come to the tick and what the others were
  -- charged, the most of each for one unit. The tick is told for the steps that followed, each of which advanced
  -- quietly.
  abbrev pub AllFinishedAfter : Meaning W → History W → ℕ → (History W → ℕ) → Type 0
  AllFinishedAfter work M s tick = (xs : List (Step W)) → AllAdvanceQuietly work M xs
      → (let N = M ⊕⊕ xs in
      let w = world_after work N in
      tick N + others_charges w.accounts s ≤ w.now → length (account_in work M s).accepted ≤ finished work (account_in work N s))

  -- If M leaves all paced, the jobs accepted so far are finished by the promised tick and what the others were charged.
  -- The ticks charged to their own server since count as units that it owes.
  abbrev pub KeepsPacedPromise : Meaning W → History W → Type 0
  KeepsPacedPromise work M = IsWorldPaced work (world_after work M) → (s : ℕ)
      → (let a = account_in work M s in
      AllFinishedAfter work M s (λ N. promised_tick a.terms.reservation a.state (owed work a + charged_since work M N s)))

  -- Each job that server s accepted in M is finished by the tick, whatever steps follow that advance quietly, but later
  -- by charges. For each budget's ticks that s is charged since, it is a period later. For the others it is later by
  -- the most that each was charged for one unit. This holds if M leaves all paced.
  abbrev pub AllFinishedLate : Meaning W → History W → ℕ → ℕ → Type 0
  AllFinishedLate work M s tick =
      let r = (account_in work M s).terms.reservation in
      AllFinishedAfter work M s (λ N. tick + div_ceil (charged_since work M N s) r.budget * r.period)
