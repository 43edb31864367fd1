-- Stretches of one kind do not touch.
use Rattle.std.proofs.Common.{◌≡◌, ℕ, false, ltb, List, [], ◌∷◌, ◌++◌, Option, Some, None, refl, inl, inr}
use Rattle.std.specs.Prelude.{max, min}
use Rattle.std.specs.Option.{option_to_list}
use Rattle.std.proofs.lemmas.Bool.{cases_Bool}
use Rattle.cbsrun_events.specs.Events.{begun}
use Rattle.cbsrun_events.specs.declared.seen.Seen.{Seen}
use Rattle.cbsrun_chart.specs.Rows.{came_of, last_of, resting_stretch, spans_seen, spans_until, step_stretch, throttled_stretch, waiting_stretch}
use Rattle.cbsrun_window.specs.Stretches.{AreApart, Joined, all_of, clipped, joins, joined_with, nothing_joined, with_stretch}
use Rattle.cbsrun_window.specs.declared.stretch.Stretch.{Stretch}
use Rattle.cbsrun_chart.specs.declared.waits.Last.{Last}
use Rattle.cbsrun_window.specs.declared.window.Window.{Window}

-- the last one may grow
apart_last : (xs : List Stretch) (q r : Stretch) → r.kind ≡ q.kind → r.from ≡ q.from → AreApart (xs ++ q ∷ []) → AreApart (xs ++ r ∷ [])
apart_last [] q r k f h = tt
apart_last (x ∷ []) q r k f h = (rw (k, f) h.0, tt)
apart_last (x ∷ y ∷ ys) q r k f h = (h.0, apart_last (y ∷ ys) q r k f h.1)

-- one more that does not join the last one
apart_push : (xs : List Stretch) (q p : Stretch) → AreApart (xs ++ q ∷ []) → joins q p ≡ false → AreApart ((xs ++ q ∷ []) ++ p ∷ [])
apart_push [] q p h j = (j, tt)
apart_push (x ∷ []) q p h j = (h.0, (j, tt))
apart_push (x ∷ y ∷ ys) q p h j = (h.0, apart_push (y ∷ ys) q p h.1 j)

-- if there is no last stretch, there is no stretch at all
abbrev HasLast : List Stretch → Option Stretch → Type 0
HasLast done None = done ≡ []
HasLast done (Some q) = Unit {0}

pub record IsApart (j : Joined) : Type 0 where
  pub apart : AreApart (all_of j)
  pub last : HasLast j.done j.last

apart_joined : (p : Stretch) (done : List Stretch) (last : Option Stretch) → AreApart (done ++ option_to_list last) → HasLast done last
    → IsApart (joined_with p done last)
apart_joined p done None h none = record { apart = rw none tt; last = tt }
apart_joined p done (Some q) h some = elim (cases_Bool (joins q p)) [
  | inl y ↦ rw y (record { apart = apart_last done q (record { kind = q.kind; from = q.from; to = max q.to p.to }) refl refl h; last = tt })
  | inr n ↦ rw n (record { apart = apart_push done q p h n; last = tt })
]

-- one more, of which the window may show something
apart_with : (w : Window) (p : Stretch) (j : Joined) → IsApart j → IsApart (with_stretch w p j)
apart_with w p j h = elim (cases_Bool (ltb (max p.from w.from) (min p.to w.to))) [
  | inl y ↦ rw y (apart_joined (clipped w p) j.done j.last h.apart h.last)
  | inr n ↦ rw n h
]

apart_none : IsApart nothing_joined
apart_none = record { apart = tt; last = refl }

apart_until : (w : Window) (last : Option Last) (came : Option ℕ) (to : ℕ) (j : Joined) → IsApart j → IsApart (spans_until w last came to j)
apart_until w None came to j h = h
apart_until w (Some l) came to j h =
    let rests = with_stretch w (resting_stretch l came to) j in
    let throttled = with_stretch w (throttled_stretch l came to) rests in
    apart_with w (waiting_stretch l came to) throttled
    (apart_with w (throttled_stretch l came to) rests (apart_with w (resting_stretch l came to) j h))

-- the stretches of a server are apart
apart_seen : (w : Window) (own : List Seen) → IsApart (spans_seen w own)
apart_seen w [] = apart_none
apart_seen w (o ∷ own) =
    apart_with w (step_stretch o) (spans_until w (last_of own) (came_of o.event) (begun o) (spans_seen w own))
    (apart_until w (last_of own) (came_of o.event) (begun o) (spans_seen w own) (apart_seen w own))

-- they are apart also after its last step
pub apart_at_end : (w : Window) (end : ℕ) (own : List Seen) → AreApart (all_of (spans_until w (last_of own) None end (spans_seen w own)))
apart_at_end w end own = let h = apart_until w (last_of own) None end (spans_seen w own) (apart_seen w own) in h.apart
