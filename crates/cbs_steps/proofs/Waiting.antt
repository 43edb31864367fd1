-- How long servers wait to be replenished, as servers change.
use Rattle.std.proofs.Common.{◌≡◌, ℕ, zero, suc, ◌<◌, ◌≤◌, ◌&&◌, true, false, leb, List, [], ◌∷◌, length, map, get_or, set, take, refl, ap, ap₂, inl, inr, arith}
use Rattle.std.specs.Prelude.{min}
use Rattle.std.proofs.lemmas.Bool.{cases_Bool}
use Rattle.std.proofs.lemmas.Bool.Decides.{nat_tests}
use Rattle.std.proofs.Math.Bool.{and-false}
use Rattle.cbs_lists.proofs.Lists.{AllByRecursion-weaker}
use Rattle.cbs_steps.proofs.Faces.{runnable}
use Rattle.cbs_steps.specs.Faces.{Face, is_active, is_ready, with_replenishment}
use Rattle.cbs_steps.specs.Waiting.{most, IsNotDueBefore, NoneDueBefore, wake, wake_of}

-- nobody is due before an earlier tick
pub due_earlier : (tick earlier : ℕ) (fs : List Face) → earlier ≤ tick → NoneDueBefore tick fs → NoneDueBefore earlier fs
due_earlier tick earlier fs le all = AllByRecursion-weaker (IsNotDueBefore tick) (IsNotDueBefore earlier) fs all (λ f h t. let d = h t in omega arith)

-- a ready server is not due
pub due_ready : (tick : ℕ) (f : Face) → is_ready f ≡ true → IsNotDueBefore tick f
due_ready tick f h t = let free = (runnable f h).free in cc

-- a server that is not due stays as it is
replenished_early : (tick now : ℕ) (f : Face) → IsNotDueBefore tick f → now < tick → with_replenishment now f ≡ f
replenished_early tick now f h lt = elim (cases_Bool f.state.throttled) [
  | inl t ↦ let d = h t in let late : leb f.state.deadline now ≡ false = grind (arith, nat_tests) in rw (t, late) refl
  | inr n ↦ rw n refl
]

-- if no server is due, a replenishment changes nothing
pub none_replenished : (tick now : ℕ) (fs : List Face) → NoneDueBefore tick fs → now < tick → map (with_replenishment now) fs ≡ fs
none_replenished tick now [] all lt = refl
none_replenished tick now (f ∷ fs) all lt = ap₂ ◌∷◌ (replenished_early tick now f all.0 lt) (none_replenished tick now fs all.1 lt)

-- no server is kept with a later tick than the greatest
pub wake_most : (f : Face) → wake f ≤ most
wake_most f = elim (cases_Bool (f.state.throttled && is_active f)) [ inl t ↦ rw t (omega arith) | inr n ↦ rw n (omega arith) ]

-- nor is the least of the ticks
pub wakes_most : (fs : List Face) → wake_of fs ≤ most
wakes_most [] = omega arith
wakes_most (f ∷ fs) = let le = wakes_most fs in omega arith

-- each server waits as long as the least of the ticks says
pub wake_least : (fs : List Face) (i : ℕ) (x : Face) → i < length fs → x ≡ get_or fs i x → wake_of fs ≤ wake x
wake_least [] i x lt read = absurd (omega arith)
wake_least (f ∷ fs) zero x lt read = let same : wake x ≡ wake f = ap wake read in omega arith
wake_least (f ∷ fs) (suc i) x lt read = let le = wake_least fs i x (omega arith) read in omega arith

-- a ready server does not wait
pub wake_ready : (f : Face) → is_ready f ≡ true → wake f ≡ most
wake_ready f h = rw (runnable f h).free refl

-- nor does one that is not throttled
pub wake_free : (f : Face) → f.state.throttled ≡ false → wake f ≡ most
wake_free f h = rw h refl

-- a server with no job does not wait
pub wake_idle : (f : Face) → is_active f ≡ false → wake f ≡ most
wake_idle f h = rw (h, and-false f.state.throttled) refl

-- if one server waits no later than before, the least of the ticks is its own or the one before
pub wake_set : (fs : List Face) (i : ℕ) (x y : Face) → i < length fs → x ≡ get_or fs i x → wake y ≤ wake x → wake_of (set fs i y) ≡ min (wake_of fs) (wake y)
wake_set [] i x y lt read le = absurd (omega arith)
wake_set (f ∷ fs) zero x y lt read le = let same : wake x ≡ wake f = ap wake read in omega arith
wake_set (f ∷ fs) (suc i) x y lt read le = let rest = wake_set fs i x y (omega arith) read le in omega arith

-- one more server is seen, which has changed
pub wake_more : (fs : List Face) (i : ℕ) (f : Face) → i < length fs → wake_of (take (suc i) (set fs i f)) ≡ min (wake_of (take i fs)) (wake f)
wake_more [] i f lt = absurd (omega arith)
wake_more (g ∷ fs) zero f lt = let le = wake_most f in omega arith
wake_more (g ∷ fs) (suc i) f lt = let rest = wake_more fs i f (omega arith) in omega arith
