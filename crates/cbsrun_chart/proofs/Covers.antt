-- Which ticks stretches cover, as they are joined.
use Rattle.std.proofs.Common.{◌≡◌, ◌∙◌, ℕ, ◌+◌, ◌<◌, ◌≤◌, Bool, true, false, ◌&&◌, ◌||◌, leb, ltb, List, []}
use Rattle.std.proofs.Common.{◌∷◌, ◌++◌, length, map, take, Option, Some, None, arith, refl, sym, ap, inl, inr}
use Rattle.std.specs.Prelude.{get_or, max, min}
use Rattle.std.specs.List.{list_any}
use Rattle.std.proofs.lemmas.Bool.{cases_Bool}
use Rattle.std.proofs.lemmas.Bool.Decides.{nat_tests}
use Rattle.std.proofs.lemmas.List.Folds.{list_any-append, list_any_more}
use Rattle.cbsrun_chart.specs.Jobs.{late_stretch}
use Rattle.cbsrun_window.specs.Stretches.{Joined, all_of, clipped, is_covered, joins, joined_with, same_kind, shows, takes, with_stretch}
use Rattle.cbsrun_chart.specs.declared.jobs.ChartJob.{ChartJob}
use Rattle.cbsrun_window.specs.declared.stretch.Kind.{Kind}
use Rattle.cbsrun_window.specs.declared.stretch.Kind.TheVariants as kind
use Rattle.cbsrun_window.specs.declared.stretch.Stretch.{Stretch}
use Rattle.cbsrun_window.specs.declared.window.Window.{Window}

-- a thing of the same kind as one thing is of the same kind as another, if these two are
same_kinds : (a b k : Kind) → same_kind a b ≡ true → same_kind a k ≡ same_kind b k
same_kinds (kind.Runs i) (kind.Runs j) k e = let s : i ≡ j = grind (arith, nat_tests) in ap (λ n. same_kind (kind.Runs n) k) s
same_kinds kind.Charged kind.Charged k e = refl
same_kinds kind.Waits kind.Waits k e = refl
same_kinds kind.Throttled kind.Throttled k e = refl
same_kinds kind.Resting kind.Resting k e = refl
same_kinds kind.Refused kind.Refused k e = refl
same_kinds kind.Late kind.Late k e = refl
same_kinds kind.Idle kind.Idle k e = refl
same_kinds _ _ k e = absurd cc

-- both parts of a test
both_left : (a b : Bool) → (a && b) ≡ true → a ≡ true
both_left true b e = refl
both_left false b e = e

both_right : (a b : Bool) → (a && b) ≡ true → b ≡ true
both_right true b e = e
both_right false b e = absurd cc

-- two ranges of ticks touch or overlap: the range over both takes exactly the ticks that one of them takes
range_of_both : (a b c d t : ℕ) → a ≤ c → c ≤ b → (leb a t && ltb t (max b d)) ≡ ((leb a t && ltb t b) || (leb c t && ltb t d))
range_of_both a b c d t h g = elim (cases_Bool (leb a t)) [
  | inl x ↦ elim (cases_Bool (ltb t b)) [
    | inl y ↦ rw (x, y) (grind (arith, nat_tests))
    | inr y ↦ elim (cases_Bool (ltb t d)) [
      | inl z ↦ grind (arith, nat_tests)
      | inr z ↦ grind (arith, nat_tests)
    ]
  ]
  | inr x ↦ grind (arith, nat_tests)
]

-- a test before each of two
test_of_both : (a b c : Bool) → (a && (b || c)) ≡ ((a && b) || (a && c))
test_of_both true b c = refl
test_of_both false b c = refl

-- a stretch that another one joined covers the ticks of both
joined_shows : (k : Kind) (t : ℕ) (q p : Stretch) → joins q p ≡ true
    → shows k t (record { kind = q.kind; from = q.from; to = max q.to p.to }) ≡ (shows k t q || shows k t p)
joined_shows k t q p j =
    let same = both_left (same_kind q.kind p.kind) (leb q.from p.from && leb p.from q.to) j in
    let near = both_right (same_kind q.kind p.kind) (leb q.from p.from && leb p.from q.to) j in
    let a : q.from ≤ p.from = let x = both_left (leb q.from p.from) (leb p.from q.to) near in grind (arith, nat_tests) in
    let b : p.from ≤ q.to = let x = both_right (leb q.from p.from) (leb p.from q.to) near in grind (arith, nat_tests) in
    let e = same_kinds q.kind p.kind k same in
    ap (λ x. same_kind q.kind k && x) (range_of_both q.from q.to p.from p.to t a b)
    ∙ (test_of_both (same_kind q.kind k) (takes t q) (takes t p) ∙ ap (λ x. (same_kind q.kind k && takes t q) || (x && takes t p)) e)

-- tests in another order
no_more : (x y : Bool) → (x || (y || false)) ≡ ((x || false) || y)
no_more true y = refl
no_more false true = refl
no_more false false = refl

both_last : (x y : Bool) → (x || ((y || false))) ≡ (x || y)
both_last true y = refl
both_last false true = refl
both_last false false = refl

joined_last : (x a b m : Bool) → m ≡ (a || b) → (x || (m || false)) ≡ ((x || (a || false)) || b)
joined_last true a b m e = refl
joined_last false true b m e = rw e refl
joined_last false false true m e = rw e refl
joined_last false false false m e = rw e refl

-- one more covers its ticks, and changes no others
covered_joined : (k : Kind) (t : ℕ) (p : Stretch) (done : List Stretch) (last : Option Stretch)
    → is_covered k t (all_of (joined_with p done last)) ≡ (is_covered k t (all_of (record { done = done; last = last })) || shows k t p)
covered_joined k t p done None =
    list_any-append (shows k t) done (p ∷ []) ∙ (no_more (is_covered k t done) (shows k t p)
    ∙ ap (λ x. x || shows k t p) (sym (list_any-append (shows k t) done [])))
covered_joined k t p done (Some q) = elim (cases_Bool (joins q p)) [
  | inl y ↦
      rw y (list_any-append (shows k t) done (record { kind = q.kind; from = q.from; to = max q.to p.to } ∷ [])
      ∙ (joined_last (is_covered k t done) (shows k t q) (shows k t p) _ (joined_shows k t q p y)
      ∙ ap (λ x. x || shows k t p) (sym (list_any-append (shows k t) done (q ∷ [])))))
  | inr n ↦
      rw n (list_any-append (shows k t) (done ++ q ∷ []) (p ∷ [])
      ∙ both_last (is_covered k t (done ++ q ∷ [])) (shows k t p))
]

-- within a window, the part of a stretch within the window takes the same ticks as the stretch
clipped_shows : (w : Window) (k : Kind) (t : ℕ) (p : Stretch) → w.from ≤ t → t < w.to → shows k t (clipped w p) ≡ shows k t p
clipped_shows w k t p a b = ap (λ x. same_kind p.kind k && x) (clipped_takes w t p a b)
  where
    clipped_takes : (w : Window) (t : ℕ) (p : Stretch) → w.from ≤ t → t < w.to → takes t (clipped w p) ≡ takes t p
    clipped_takes w t p a b = grind (arith, nat_tests)

-- a stretch with no part within the window takes none of its ticks
nothing_shown : (w : Window) (k : Kind) (t : ℕ) (p : Stretch) → w.from ≤ t → t < w.to → ltb (max p.from w.from) (min p.to w.to) ≡ false → shows k t p ≡ false
nothing_shown w k t p a b e = elim (cases_Bool (same_kind p.kind k)) [
  | inl y ↦ rw y (grind (arith, nat_tests))
  | inr n ↦ rw n refl
]

or_false : (x : Bool) → x ≡ (x || false)
or_false true = refl
or_false false = refl

-- one more stretch, which the window may show in part, covers its ticks of the window, and changes no others
pub with_covers : (w : Window) (k : Kind) (t : ℕ) (p : Stretch) (j : Joined) → w.from ≤ t → t < w.to
    → is_covered k t (all_of (with_stretch w p j)) ≡ (is_covered k t (all_of j) || shows k t p)
with_covers w k t p j a b = elim (cases_Bool (ltb (max p.from w.from) (min p.to w.to))) [
  | inl y ↦ rw y (covered_joined k t (clipped w p) j.done j.last ∙ ap (λ x. is_covered k t (all_of j) || x) (clipped_shows w k t p a b))
  | inr n ↦ rw n (or_false (is_covered k t (all_of j)) ∙ ap (λ x. is_covered k t (all_of j) || x) (sym (nothing_shown w k t p a b n)))
]

-- the ticks of one more of a list are covered
pub cover_more : (w : Window) (k : Kind) (t : ℕ) (ps : List Stretch) (i : ℕ) (d : Stretch) (j : Joined) → w.from ≤ t → t < w.to → i < length ps
    → is_covered k t (all_of j) ≡ list_any (shows k t) (take i ps)
    → is_covered k t (all_of (with_stretch w (get_or ps i d) j)) ≡ list_any (shows k t) (take (i + 1) ps)
cover_more w k t ps i d j a b lt h =
    with_covers w k t (get_or ps i d) j a b ∙ (ap (λ x. x || shows k t (get_or ps i d)) h ∙ sym (list_any_more (shows k t) ps i d lt))

-- the late ticks of jobs cover a tick exactly if one of the jobs is late in it
pub late_of_jobs : (end t : ℕ) (jobs : List ChartJob)
    → list_any (shows kind.Late t) (map (late_stretch end) jobs) ≡ list_any (λ job. takes t (late_stretch end job)) jobs
late_of_jobs end t [] = refl
late_of_jobs end t (job ∷ jobs) = ap (λ x. takes t (late_stretch end job) || x) (late_of_jobs end t jobs)
