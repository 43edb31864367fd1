-- A house's clock is ahead of its time by a tick at most.
use Rattle.std.proofs.Common.{◌≡◌, ◌≤◌, ◌<◌, ◌+◌, ◌-◌, ◌*◌, ◌/◌, ℕ, min, zero, suc, Bool, true, false, List, [], ◌∷◌, length, Option, Some, None, refl, ap, ◌∙◌, arith, subst}
use Rattle.std.proofs.Math.Nat.{mul-le-mul_right}
use Rattle.cbs_job.specs.declared.work.Work.{Ghosts}
use Rattle.cbs_pace.specs.Paces.{Pacing, time_to, IsNotAhead, IsDue, IsPacing, unit_charge, carried_at, ticks_counted, behind_of, pacing_seen}
use Rattle.cbs_pace.specs.Units.{rounding_of}
use Rattle.cbs_pace.specs.declared.watch.Watch.{Watch}
use Rattle.cbs_steps.specs.declared.step.Step.{Step}
use Rattle.cbs_steps.specs.declared.step.Step.TheVariants as step
use Rattle.cbs_clients.specs.declared.house.House.{House}
use Rattle.cbs_clients.specs.Houses.{core_of, Made}
use Rattle.cbs_pacer.specs.declared.next.Next.{Next}
use Rattle.cbs_pacer.specs.declared.next.Next.TheVariants as next
use Rattle.cbs_pacer.specs.Paced.{Paced, payment, ticks_due, pace_paid, ticks_to_pass, AsksToSleep, Answers, Does, PaysUnit, Prepares, Paces}
use Rattle.cbs_pacer.proofs.Clocks.{core_now, polls_take, ticks_of_all}
use Rattle.cbs_pace.proofs.Units.{charge_within}

-- a clock that is moved by so many ticks counts at most so many more
counted_more : (first now next n : ℕ) → next ≤ now + n → next - first ≤ (now - first) + n
counted_more first now next n h = omega arith

-- after a charge of at most what was measured it is not ahead
pub ahead_charged : (tick n m c over took : ℕ) → n * tick + took ≤ over + tick → m ≤ n + c → c * tick ≤ took
    → m * tick ≤ over + tick
ahead_charged tick n m c over took h more within =
    let e : m * tick ≤ (n + c) * tick = mul-le-mul_right tick more in omega (arith, e)

-- after ticks that are over it is not ahead
pub ahead_passed : (tick n m c over slack : ℕ) → 0 < tick → n * tick ≤ over + slack → m ≤ n + c → c ≤ over / tick - n → m * tick ≤ over + slack
ahead_passed tick n m zero over slack long h more within =
    let e : m * tick ≤ n * tick = mul-le-mul_right tick (let q : m ≤ n = omega arith in q) in omega (arith, e)
ahead_passed tick n m (suc c) over slack long h more within =
    let q : m ≤ over / tick = omega arith in
    let e : m * tick ≤ over / tick * tick = mul-le-mul_right tick q in omega (arith, e)

-- after a unit whose tick had come it is not ahead
pub ahead_begun : (tick n m over : ℕ) → n * tick ≤ over → m ≤ n + 1 → m * tick ≤ over + tick
ahead_begun tick n m over due more =
    let e : m * tick ≤ (n + 1) * tick = mul-le-mul_right tick more in omega (arith, e)

-- what pays for a unit moves the clock by the ticks that are charged at most
payment_takes : (W : Type 0) (doing : Option ℕ) (n : ℕ) → ticks_of_all {W = W} (payment doing n) ≤ n
payment_takes W None n = omega arith
payment_takes W (Some s) zero = omega arith
payment_takes W (Some s) (suc n) = omega arith

-- no more time is charged than was measured
due_within : (doing : Option ℕ) (p : Pacing) (took now : ℕ) → IsPacing p → ticks_due doing p took now * p.tick ≤ took
due_within None p took now lawful = omega arith
due_within (Some s) p took now lawful =
    let h = charge_within (rounding_of p.carries) p.tick (carried_at p s) took lawful.long (lawful.less s) in
    let e : ticks_due (Some s) p took now * p.tick ≤ unit_charge p s took * p.tick = mul-le-mul_right p.tick (let q : ticks_due (Some s) p took now ≤ unit_charge p s took = omega arith in q) in
    omega (arith, h, e)

-- no more ticks pass than the clock is behind
passed_within : (span : Option ℕ) (behind ticks : ℕ) → ticks ≡ ticks_to_pass span behind → ticks ≤ behind
passed_within None behind ticks e = omega arith
passed_within (Some span) behind ticks e = omega arith

-- what is paid leaves the length of a tick, the beginning and the time
paid_watch : (doing : Option ℕ) (p : Pacing) (took ticks : ℕ) → (pace_paid doing p took ticks).watch ≡ p.watch
paid_watch None p took ticks = refl
paid_watch (Some s) p took ticks = refl

pub paid_tick : (doing : Option ℕ) (p : Pacing) (took ticks : ℕ) → (pace_paid doing p took ticks).tick ≡ p.tick
paid_tick None p took ticks = refl
paid_tick (Some s) p took ticks = refl

paid_first : (doing : Option ℕ) (p : Pacing) (took ticks : ℕ) → (pace_paid doing p took ticks).first ≡ p.first
paid_first None p took ticks = refl
paid_first (Some s) p took ticks = refl

module _ {W A : Type 0} {g : Ghosts W} where
  made_now : (a b : House W A g) (xs : List (Step W)) → Made g.meaning a b xs → (core_of b).clock ≤ (core_of a).clock + ticks_of_all xs
  made_now a b xs made = core_now g.meaning (core_of a) (core_of b) xs a.housed.history made.steps

  does_ahead : (q : Pacing) (heard hears : Bool) (count : ℕ) (old new : House W A g) (answer : Next) (later : Option ℕ) → Does g.meaning q heard count old answer new later hears → IsNotAhead q (core_of old).clock
      → IsNotAhead q (core_of new).clock
  does_ahead q heard hears count old new (next.Do told) later d h =
      let m = made_now old new (step.Run ∷ []) d.0.run.made in
      let more : ticks_counted q (core_of new).clock ≤ ticks_counted q (core_of old).clock + 1 = omega (arith, m) in
      ahead_begun q.tick (ticks_counted q (core_of old).clock) (ticks_counted q (core_of new).clock) q.watch.over d.0.due more
  does_ahead q heard hears count old new (next.SleepUntil t) later d h = rw d.1 h
  does_ahead q heard hears count old new next.Listen later d h = rw d.1 h
  does_ahead q heard hears count old new (next.WaitUntil t) later d h = rw d.1 h
  does_ahead q heard hears count old new next.Over later d h = rw d.1 h
  does_ahead q heard hears count old new next.ClockEnd later d h = rw d.1 h
  does_ahead q heard hears count old new next.OutOfMemory later d h = absurd d

  answers_ahead : (lacks : Bool) (q : Pacing) (heard hears : Bool) (count : ℕ) (old new : House W A g) (answer : Next) (later : Option ℕ)
      → Answers lacks g.meaning q heard count old answer new later hears → IsNotAhead q (core_of old).clock
      → IsNotAhead q (core_of new).clock
  answers_ahead true q heard hears count old new answer later d h = rw d.1 h
  answers_ahead false q heard hears count old new answer later d h = does_ahead q heard hears count old new answer later d h

  -- once a unit is paid for, the clock is not ahead
  paid_ahead : (took : ℕ) (doing : Option ℕ) (p q : Pacing) (old new : House W A g) → IsPacing p → PaysUnit g.meaning took doing p old new q
      → ((core_of old).clock - p.first) * p.tick + took ≤ p.watch.over + p.tick
      → ((core_of new).clock - p.first) * p.tick ≤ p.watch.over + p.tick
  paid_ahead took doing p q old new lawful pays start =
      let c0 = (core_of old).clock in
      let c1 = (core_of new).clock in
      let m1 = made_now old new (payment doing pays.ticks) pays.made in
      let t1 = payment_takes W doing pays.ticks in
      let due = due_within doing p took c0 lawful in
      let charged : pays.ticks * p.tick ≤ took =
      let e : pays.ticks * p.tick ≤ ticks_due doing p took c0 * p.tick = mul-le-mul_right p.tick pays.most in omega (arith, e, due) in
      let k1 : c1 - p.first ≤ (c0 - p.first) + pays.ticks = omega (arith, m1, t1) in
      ahead_charged p.tick (c0 - p.first) (c1 - p.first) pays.ticks p.watch.over took start k1 charged

  pub pays_ahead : (took : ℕ) (doing : Option ℕ) (p q : Pacing) (old new : House W A g) → IsPacing p → PaysUnit g.meaning took doing p old new q
      → ticks_counted p (core_of old).clock * p.tick + took ≤ p.watch.over + p.tick → IsNotAhead q (core_of new).clock
  pays_ahead took doing p q old new lawful pays start =
      let tick : q.tick ≡ p.tick = ap (λ (x : Pacing). x.tick) pays.pace ∙ paid_tick doing p took pays.ticks in
      let first : q.first ≡ p.first = ap (λ (x : Pacing). x.first) pays.pace ∙ paid_first doing p took pays.ticks in
      let over : q.watch.over ≡ p.watch.over =
      ap (λ (x : Pacing). x.watch.over) pays.pace ∙ ap (λ (w : Watch). w.over) (paid_watch doing p took pays.ticks) in
      let a : ((core_of new).clock - p.first) * p.tick ≤ p.watch.over + p.tick = paid_ahead took doing p q old new lawful pays start in
      rw (tick, first, over) a

  module _ (took : ℕ) (doing : Option ℕ) (p q : Pacing) (old new : House W A g) (count : ℕ) (lacks : Bool) (lawful : IsPacing p)
      (h : Prepares g.meaning took doing p old new q count lacks) where
    abbrev counted : House W A g → ℕ
    counted a = (core_of a).clock - p.first

    same_tick : q.tick ≡ p.tick
    same_tick = ap (λ (x : Pacing). x.tick) h.passes.pace ∙ (ap (λ (x : Pacing). x.tick) h.pays.pace ∙ paid_tick doing p took h.pays.ticks)

    same_first : q.first ≡ p.first
    same_first = ap (λ (x : Pacing). x.first) h.passes.pace ∙ (ap (λ (x : Pacing). x.first) h.pays.pace ∙ paid_first doing p took h.pays.ticks)

    same_over : q.watch.over ≡ p.watch.over
    same_over =
        ap (λ (x : Pacing). x.watch.over) h.passes.pace
        ∙ (ap (λ (x : Pacing). x.watch.over) h.pays.pace ∙ ap (λ (w : Watch). w.over) (paid_watch doing p took h.pays.ticks))

    -- once it is not ahead after the payment, but for some time, it is not ahead by more in the end
    rest_ahead : (slack : ℕ) → counted h.paid * p.tick ≤ p.watch.over + slack
        → ticks_counted q (core_of new).clock * q.tick ≤ q.watch.over + slack
    rest_ahead slack start =
        let a = h.after in
        let tick : a.tick ≡ p.tick = ap (λ (x : Pacing). x.tick) h.pays.pace ∙ paid_tick doing p took h.pays.ticks in
        let first : a.first ≡ p.first = ap (λ (x : Pacing). x.first) h.pays.pace ∙ paid_first doing p took h.pays.ticks in
        let over : a.watch.over ≡ p.watch.over =
        ap (λ (x : Pacing). x.watch.over) h.pays.pace ∙ ap (λ (w : Watch). w.over) (paid_watch doing p took h.pays.ticks) in
        let m2 = made_now h.paid h.caught_up (step.Advance h.passes.ticks ∷ []) h.passes.made in
        let m3 = made_now h.caught_up new h.polls.polls h.polls.made in
        let t3 = polls_take 0 (length (core_of h.caught_up).faces) h.polls.polls h.polls.each in
        let n1 = counted h.paid in
        let n2 = counted h.caught_up in
        let n3 = counted new in
        let k2 : n2 ≤ n1 + h.passes.ticks = omega (arith, m2) in
        let within = passed_within h.passes.span (behind_of a (core_of h.paid).clock) h.passes.ticks h.passes.passed in
        let b2 : h.passes.ticks ≤ p.watch.over / p.tick - n1 = rw (tick, first, over) at within in
        let a2 : n2 * p.tick ≤ p.watch.over + slack = ahead_passed p.tick n1 n2 h.passes.ticks p.watch.over slack lawful.long start k2 b2 in
        let k3 : n3 ≤ n2 = omega (arith, m3, t3) in
        let a3 : n3 * p.tick ≤ p.watch.over + slack = let e : n3 * p.tick ≤ n2 * p.tick = mul-le-mul_right p.tick k3 in omega (arith, e, a2) in
        rw (same_tick, same_first, same_over) a3

    -- the clock of a house that was not ahead, but for what the unit took, is not ahead after a call
    prepares_ahead : counted old * p.tick + took ≤ p.watch.over + p.tick → IsNotAhead q (core_of new).clock
    prepares_ahead start =
        let e = rest_ahead p.tick (paid_ahead took doing p h.after old h.paid lawful h.pays start) in let t = same_tick in omega (arith, e, t)

  -- a tick that has come is still the house's next tick, or an earlier one, after a call that had no unit to charge
  prepares_due : (took : ℕ) (p q : Pacing) (old new : House W A g) (count : ℕ) (lacks : Bool) → IsPacing p
      → Prepares g.meaning took None p old new q count lacks → IsDue p (core_of old).clock → IsDue q (core_of new).clock
  prepares_due took p q old new count lacks lawful h start =
      let m1 = made_now old h.paid [] h.pays.made in
      let n0 = (core_of old).clock - p.first in
      let n1 = (core_of h.paid).clock - p.first in
      let k1 : n1 ≤ n0 = omega (arith, m1) in
      let a1 : n1 * p.tick ≤ p.watch.over + 0 = let e : n1 * p.tick ≤ n0 * p.tick = mul-le-mul_right p.tick k1 in omega (arith, e, start) in
      let e = rest_ahead took None p q old new count lacks lawful h 0 a1 in omega (arith, e)

  pub paces_ahead : (took : ℕ) (p q : Paced) (old new : House W A g) (answer : Next) → IsPacing p.pace
      → Paces g.meaning took p old answer new q → ticks_counted p.pace (core_of old).clock * p.pace.tick + took ≤ p.pace.watch.over + p.pace.tick
      → IsNotAhead q.pace (core_of new).clock
  paces_ahead took p q old new answer lawful h start =
      answers_ahead h.out_of_memory q.pace p.listens q.listens q.taken h.between new answer q.doing h.answers
      (prepares_ahead took p.doing p.pace q.pace old h.between q.taken h.out_of_memory lawful h.prepares start)

  does_awake : (q : Pacing) (heard hears : Bool) (count : ℕ) (old new : House W A g) (answer : Next) (later : Option ℕ) → Does g.meaning q heard count old answer new later hears → IsDue q (core_of old).clock
      → ¬ AsksToSleep answer
  does_awake q heard hears count old new (next.Do told) later d due asks = asks
  does_awake q heard hears count old new (next.SleepUntil t) later d due asks = d.0.early due
  does_awake q heard hears count old new next.Listen later d due asks = asks
  does_awake q heard hears count old new (next.WaitUntil t) later d due asks = asks
  does_awake q heard hears count old new next.Over later d due asks = asks
  does_awake q heard hears count old new next.ClockEnd later d due asks = asks
  does_awake q heard hears count old new next.OutOfMemory later d due asks = asks

  answers_awake : (lacks : Bool) (q : Pacing) (heard hears : Bool) (count : ℕ) (old new : House W A g) (answer : Next) (later : Option ℕ)
      → Answers lacks g.meaning q heard count old answer new later hears → IsDue q (core_of old).clock → ¬ AsksToSleep answer
  answers_awake true q heard hears count old new answer later d due asks = rw d.0 at asks
  answers_awake false q heard hears count old new answer later d due asks = does_awake q heard hears count old new answer later d due asks

  -- so nobody is told to sleep for a tick that has come
  pub paces_awake : (took : ℕ) (p q : Paced) (old new : House W A g) (answer : Next) → IsPacing p.pace → p.doing ≡ None
      → Paces g.meaning took p old answer new q → IsDue p.pace (core_of old).clock → ¬ AsksToSleep answer
  paces_awake took p q old new answer lawful none h due =
      answers_awake h.out_of_memory q.pace p.listens q.listens q.taken h.between new answer q.doing h.answers
      (prepares_due took p.pace q.pace old h.between q.taken h.out_of_memory lawful
      (subst (λ (o : Option ℕ). Prepares g.meaning took o p.pace old h.between q.pace q.taken h.out_of_memory) none h.prepares) due)

-- a pace stays lawful at one more reading
pub seen_lawful : (reading : ℕ) (p : Pacing) → IsPacing p → IsPacing (pacing_seen reading p)
seen_lawful reading p lawful = record { long = lawful.long; servers = lawful.servers; less = lawful.less }

-- a house's clock that was not ahead is not ahead at one more reading, but for the time since the last one
pub seen_ahead : (reading took time now : ℕ) (p : Pacing) → p.watch.over + time ≡ (pacing_seen reading p).watch.over → took ≤ time
    → IsNotAhead p now → ticks_counted p now * p.tick + took ≤ (pacing_seen reading p).watch.over + p.tick
seen_ahead reading took time now p over within h = omega (arith, over, within, h)

-- time that is measured otherwise is charged as far as the clock saw it pass: without a measure, all of it
pub whole_time : (reading : ℕ) (p : Pacing) → min 18446744073709551615 (time_to reading p) ≡ time_to reading p
whole_time reading p = omega arith
