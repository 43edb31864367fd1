-- One step more in the sums, and in the ticks that a server was throttled.
use Rattle.std.proofs.Common.{◌≡◌, ℕ, ◌+◌, Bool, true, false, if◌then◌else◌, List, [], ◌∷◌, Option, Some, None, arith, refl, inl, inr}
use Rattle.std.specs.Prelude.{◌-◌, ◌&&◌, ltb, min}
use Rattle.std.proofs.lemmas.Bool.{cases_Bool}
use Rattle.cbs_steps.specs.declared.reply.Ran.{Ran}
use Rattle.cbs_steps.specs.declared.reply.Ran.TheVariants as ran
use Rattle.cbs_steps.specs.declared.view.ServerView.{ServerView}
use Rattle.cbsrun_events.specs.Events.{begun}
use Rattle.cbsrun_events.specs.declared.seen.Event.{Event}
use Rattle.cbsrun_events.specs.declared.seen.Event.TheVariants as event
use Rattle.cbsrun_events.specs.declared.seen.Seen.{Seen}
use Rattle.cbsrun_figures.specs.Figures.{told, told_sum, is_used_up, throttled, waited}
use Rattle.cbsrun_figures.specs.Tallies.{sums_of, sums_after, sums_with, throttled_ticks_of, throttled_ticks_with, ticks_until, wait_of}
use Rattle.cbsrun_figures.specs.declared.sums.Sums.{Sums}

-- a sum as a report gives it, with one number more
pub told_more : (n m : ℕ) → told (told n + m) ≡ told (m + n)
told_more n m = omega arith

pub told_sum_more : (n m : ℕ) → told_sum (told_sum n + m) ≡ told_sum (m + n)
told_sum_more n m = omega arith

-- sums are the same if each of them is
same_sums : (a b : Sums) → a.refused ≡ b.refused → a.asked ≡ b.asked → a.run ≡ b.run → a.used_up ≡ b.used_up → a.charged ≡ b.charged
    → a.greatest_charge ≡ b.greatest_charge → a ≡ b
same_sums a b e f g h i j = rw (e, f, g, h, i, j) refl

-- the units that used the budget up, and those of a run more
used_up_more : (b : Bool) (n m : ℕ) → (if b then told (told n + m) else told n) ≡ told ((if b then m else 0) + n)
used_up_more true n m = omega arith
used_up_more false n m = omega arith

none_used_up : (b : Bool) (n : ℕ) → told n ≡ told ((if b then 0 else 0) + n)
none_used_up true n = omega arith
none_used_up false n = omega arith

-- a run more
run_step : (budget clock : ℕ) (r : Ran) (v : Option ServerView) (own : List Seen)
    → sums_with budget r v (sums_of budget own) ≡ sums_of budget (record { clock = clock; event = event.Ran r; view = v } ∷ own)
run_step budget clock ran.Idle v own =
    same_sums _ _ (omega arith) (omega arith) (omega arith) (none_used_up (is_used_up budget v) _) (omega arith) (omega arith)
run_step budget clock ran.ClockEnd v own =
    same_sums _ _ (omega arith) (omega arith) (omega arith) (none_used_up (is_used_up budget v) _) (omega arith) (omega arith)
run_step budget clock (ran.Unit s q) v own =
    same_sums _ _ (omega arith) (omega arith) (omega arith) (used_up_more (is_used_up budget v) _ 1) (omega arith) (omega arith)
run_step budget clock (ran.Done c) v own =
    same_sums _ _ (omega arith) (omega arith) (omega arith) (used_up_more (is_used_up budget v) _ 1) (omega arith) (omega arith)

-- the sums with one step more
sums_step : (budget clock : ℕ) (e : Event) (v : Option ServerView) (own : List Seen)
    → sums_after budget e v (sums_of budget own) ≡ sums_of budget (record { clock = clock; event = e; view = v } ∷ own)
sums_step budget clock (event.Accepted job number promised) v own =
    same_sums _ _ (omega arith) (omega arith) (omega arith) (omega arith) (omega arith) (omega arith)
sums_step budget clock (event.NotAccepted job error) v own =
    same_sums _ _ (omega arith) (omega arith) (omega arith) (omega arith) (omega arith) (omega arith)
sums_step budget clock (event.Ran r) v own = run_step budget clock r v own
sums_step budget clock (event.Advanced n) v own = same_sums _ _ (omega arith) (omega arith) (omega arith) (omega arith) (omega arith) (omega arith)
sums_step budget clock (event.NotAdvanced n error) v own =
    same_sums _ _ (omega arith) (omega arith) (omega arith) (omega arith) (omega arith) (omega arith)
sums_step budget clock (event.Closed s) v own = same_sums _ _ (omega arith) (omega arith) (omega arith) (omega arith) (omega arith) (omega arith)
sums_step budget clock (event.NotClosed s error) v own =
    same_sums _ _ (omega arith) (omega arith) (omega arith) (omega arith) (omega arith) (omega arith)
sums_step budget clock (event.Charged s n) v own = same_sums _ _ (omega arith) (omega arith) (omega arith) (omega arith) (omega arith) (omega arith)
sums_step budget clock (event.NotCharged s n error) v own =
    same_sums _ _ (omega arith) (omega arith) (omega arith) (omega arith) (omega arith) (omega arith)

pub sums_seen : (budget : ℕ) (o : Seen) (own : List Seen) → sums_after budget o.event o.view (sums_of budget own) ≡ sums_of budget (o ∷ own)
sums_seen budget o own = sums_step budget o.clock o.event o.view own

-- some ticks, with those that a server with this view waits
ticks_waited : (n clock to : ℕ) (v : Option ServerView) → ticks_until to (wait_of clock v) (told n) ≡ told (waited v clock to + n)
ticks_waited n clock to None = omega arith
ticks_waited n clock to (Some v) = elim (cases_Bool (v.throttled && ltb v.finished v.accepted)) [
  | inl t ↦ rw t (told_more n (min v.deadline to - clock))
  | inr f ↦ rw f (omega arith)
]

-- the ticks up to a tick in which a server was throttled with a job, from what is kept of them
pub throttled_ticks_until : (own : List Seen) (to : ℕ)
    → ticks_until to (throttled_ticks_of own).wait (throttled_ticks_of own).ticks ≡ told (throttled to own)
throttled_ticks_until [] to = refl
throttled_ticks_until (o ∷ own) to = ticks_waited (throttled (begun o) own) o.clock to o.view

-- the same with one step more
pub throttled_ticks_seen : (o : Seen) (own : List Seen) → throttled_ticks_with (begun o) o.clock o.view (throttled_ticks_of own) ≡ throttled_ticks_of (o ∷ own)
throttled_ticks_seen o own = rw (throttled_ticks_until own (begun o)) refl
