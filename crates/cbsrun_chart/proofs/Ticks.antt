-- Each tick is covered by what the server does in it, and by nothing else.
use Rattle.std.proofs.Common.{◌≡◌, ◌∙◌, ℕ, ◌<◌, ◌≤◌, Bool, true, false, ◌&&◌, ◌||◌, not, leb, ltb, List, [], ◌∷◌, Option, Some, None, arith, refl, ap, inl, inr}
use Rattle.std.specs.Prelude.{if◌then◌else◌, max, min}
use Rattle.std.proofs.Math.Bool.{or_assoc}
use Rattle.std.proofs.lemmas.Bool.{cases_Bool}
use Rattle.std.proofs.lemmas.Bool.Decides.{nat_tests}
use Rattle.cbsrun_events.specs.Events.{begun}
use Rattle.cbsrun_events.specs.declared.seen.Seen.{Seen}
use Rattle.cbs_steps.specs.declared.view.ServerView.{ServerView}
use Rattle.cbsrun_window.specs.Stretches.{Joined, all_of, is_covered, nothing_joined, same_kind, shows, takes, with_stretch}
use Rattle.cbsrun_window.specs.declared.stretch.Kind.{Kind}
use Rattle.cbsrun_window.specs.declared.stretch.Kind.TheVariants as kind
use Rattle.cbsrun_window.specs.declared.window.Window.{Window}
use Rattle.cbsrun_chart.specs.Rows.{at_start, came_of, has_job, job_from, kind_of, last_of, last_seen, resting_stretch, spans_seen, spans_until, step_stretch}
use Rattle.cbsrun_chart.specs.Rows.{throttled_stretch, throttled_until, waiting_stretch}
use Rattle.cbsrun_chart.specs.Ticks.{has_come, kind_shown, kind_between, kind_before, is_kind, AreInTurn}
use Rattle.cbsrun_chart.specs.declared.waits.Last.{Last}
use Rattle.cbsrun_chart.proofs.Covers.{with_covers}

-- a server has a job from the tick on at which its job came
job_come : (t to clock : ℕ) (v : ServerView) (came : Option ℕ) → clock ≤ t → t < to
    → leb (job_from (record { clock = clock; view = v }) came to) t ≡ (has_job v || has_come came t)
job_come t to clock v None here early = elim (cases_Bool (has_job v)) [
  | inl y ↦ rw y (grind (arith, nat_tests))
  | inr n ↦ rw n (grind (arith, nat_tests))
]
job_come t to clock v (Some c) here early = elim (cases_Bool (has_job v)) [
  | inl y ↦ rw y (grind (arith, nat_tests))
  | inr n ↦ rw n (grind (arith, nat_tests))
]

-- it is throttled until its deadline
until_deadline : (t to clock : ℕ) (v : ServerView) → clock ≤ t → t < to → ltb t (throttled_until v clock to) ≡ (v.throttled && ltb t v.deadline)
until_deadline t to clock v here early = elim (cases_Bool v.throttled) [
  | inl y ↦ rw y (grind (arith, nat_tests))
  | inr n ↦ rw n (grind (arith, nat_tests))
]

-- a tick before the lesser of two ticks, and one after the greater
before_both : (t a b : ℕ) → ltb t (min a b) ≡ (ltb t a && not (leb b t))
before_both t a b = elim (cases_Bool (leb b t)) [
  | inl y ↦ rw y (grind (arith, nat_tests))
  | inr n ↦ rw n (grind (arith, nat_tests))
]

after_both : (t a b : ℕ) → leb (max a b) t ≡ (not (ltb t a) && leb b t)
after_both t a b = elim (cases_Bool (ltb t a)) [
  | inl y ↦ rw y (grind (arith, nat_tests))
  | inr n ↦ rw n (grind (arith, nat_tests))
]

-- nothing holds with what is false
and_none : (x : Bool) → (x && false) ≡ false
and_none true = refl
and_none false = refl

-- none of three
none_of : (r h w : Bool) → (((r && false) || (h && false)) || (w && false)) ≡ false
none_of true true true = refl
none_of true true false = refl
none_of true false true = refl
none_of true false false = refl
none_of false true true = refl
none_of false true false = refl
none_of false false true = refl
none_of false false false = refl

-- of three kinds, a server is of one: throttled or not, with a job or with none
one_of : (k : Kind) (throttled job : Bool)
    → (((same_kind kind.Resting k && (throttled && not job)) || (same_kind kind.Throttled k && (job && throttled)))
    || (same_kind kind.Waits k && ((not throttled && job) && true)))
    ≡ is_kind k (if throttled then Some (if job then kind.Throttled else kind.Resting) else if job then Some kind.Waits else None)
one_of k true true = only_second (same_kind kind.Resting k) (same_kind kind.Throttled k) (same_kind kind.Waits k)
  where
    only_second : (r h w : Bool) → (((r && false) || (h && true)) || (w && false)) ≡ h
    only_second true true true = refl
    only_second true true false = refl
    only_second true false true = refl
    only_second true false false = refl
    only_second false true true = refl
    only_second false true false = refl
    only_second false false true = refl
    only_second false false false = refl
one_of k true false = only_first (same_kind kind.Resting k) (same_kind kind.Throttled k) (same_kind kind.Waits k)
  where
    only_first : (r h w : Bool) → (((r && true) || (h && false)) || (w && false)) ≡ r
    only_first true true true = refl
    only_first true true false = refl
    only_first true false true = refl
    only_first true false false = refl
    only_first false true true = refl
    only_first false true false = refl
    only_first false false true = refl
    only_first false false false = refl
one_of k false true = only_third (same_kind kind.Resting k) (same_kind kind.Throttled k) (same_kind kind.Waits k)
  where
    only_third : (r h w : Bool) → (((r && false) || (h && false)) || (w && true)) ≡ w
    only_third true true true = refl
    only_third true true false = refl
    only_third true false true = refl
    only_third true false false = refl
    only_third false true true = refl
    only_third false true false = refl
    only_third false false true = refl
    only_third false false false = refl
one_of k false false = none_of (same_kind kind.Resting k) (same_kind kind.Throttled k) (same_kind kind.Waits k)

-- from its last step on, a server does what it shows
module _ (k : Kind) (t to clock : ℕ) (v : ServerView) (came : Option ℕ) (here : clock ≤ t) (le : clock ≤ to) where
  abbrev last : Last
  last = record { clock = clock; view = v }

  abbrev shown : Bool
  shown = (shows k t (resting_stretch last came to) || shows k t (throttled_stretch last came to)) || shows k t (waiting_stretch last came to)

  -- before its next step
  shown_before : t < to → shown ≡ is_kind k (kind_shown v came t)
  shown_before early =
      let throttled = v.throttled && ltb t v.deadline in
      let job = has_job v || has_come came t in
      let until = throttled_until v clock to in
      let j : leb (job_from last came to) t ≡ job = job_come t to clock v came here early in
      let u : ltb t until ≡ throttled = until_deadline t to clock v here early in
      let begun : leb clock t ≡ true = grind (arith, nat_tests) in
      let before : ltb t to ≡ true = grind (arith, nat_tests) in
      let rests : takes t (resting_stretch last came to) ≡ (throttled && not job) = rw (begun, before_both t until (job_from last came to), u, j) refl in
      let held : takes t (throttled_stretch last came to) ≡ (job && throttled) = rw (u, j) refl in
      let waits : takes t (waiting_stretch last came to) ≡ ((not throttled && job) && true) =
      rw (before, after_both t until (job_from last came to), u, j) refl in
      rw (rests, held, waits) (one_of k throttled job)

  -- not from then on
  shown_after : to ≤ t → shown ≡ false
  shown_after past =
      let before : ltb t to ≡ false = grind (arith, nat_tests) in
      let until : ltb t (throttled_until v clock to) ≡ false = elim (cases_Bool v.throttled) [
        | inl y ↦ rw y (grind (arith, nat_tests))
        | inr n ↦ rw n (grind (arith, nat_tests))
      ] in
      let rests : takes t (resting_stretch last came to) ≡ false =
      rw (before_both t (throttled_until v clock to) (job_from last came to), until) (and_none (leb clock t)) in
      let held : takes t (throttled_stretch last came to) ≡ false = rw until (and_none (leb (job_from last came to) t)) in
      let waits : takes t (waiting_stretch last came to) ≡ false =
      rw before (and_none (leb (max (throttled_until v clock to) (job_from last came to)) t)) in
      rw (rests, held, waits) (none_of (same_kind kind.Resting k) (same_kind kind.Throttled k) (same_kind kind.Waits k))

  shown_takes : shown ≡ (ltb t to && is_kind k (kind_shown v came t))
  shown_takes = elim (cases_Bool (ltb t to)) [
    | inl y ↦ let early : t < to = grind (arith, nat_tests) in shown_before early ∙ rw y refl
    | inr n ↦ let past : to ≤ t = grind (arith, nat_tests) in shown_after past ∙ rw n refl
  ]

or_nothing : (x b : Bool) → x ≡ (x || (b && false))
or_nothing true true = refl
or_nothing true false = refl
or_nothing false true = refl
or_nothing false false = refl

or_false : (x : Bool) → (x || false) ≡ x
or_false true = refl
or_false false = refl

-- what a server shows after its last step, beside other stretches
module _ (w : Window) (k : Kind) (t to clock : ℕ) (came : Option ℕ) (a : w.from ≤ t) (b : t < w.to) (le : clock ≤ to) where
  -- each of its stretches covers its ticks
  all_cover : (l : Last) (j : Joined)
      → is_covered k t (all_of (spans_until w (Some l) came to j))
      ≡ (is_covered k t (all_of j)
      || ((shows k t (resting_stretch l came to) || shows k t (throttled_stretch l came to)) || shows k t (waiting_stretch l came to)))
  all_cover l j =
      let x = is_covered k t (all_of j) in
      let p = shows k t (resting_stretch l came to) in
      let q = shows k t (throttled_stretch l came to) in
      let r = shows k t (waiting_stretch l came to) in
      let rests = with_stretch w (resting_stretch l came to) j in
      let throttled = with_stretch w (throttled_stretch l came to) rests in
      with_covers w k t (waiting_stretch l came to) throttled a b
      ∙ (ap (λ y. y || r) (with_covers w k t (throttled_stretch l came to) rests a b)
      ∙ (ap (λ y. (y || q) || r) (with_covers w k t (resting_stretch l came to) j a b)
      ∙ (ap (λ y. y || r) (or_assoc x p q) ∙ or_assoc x (p || q) r)))

  -- from then on, it is what covers the ticks
  between_takes : (view : Option ServerView) (j : Joined) → clock ≤ t
      → is_covered k t (all_of (spans_until w (last_seen clock view) came to j))
      ≡ (is_covered k t (all_of j) || (ltb t to && is_kind k (kind_between view came t)))
  between_takes None j here = or_nothing (is_covered k t (all_of j)) (ltb t to)
  between_takes (Some v) j here =
      all_cover (record { clock = clock; view = v }) j ∙ ap (λ x. is_covered k t (all_of j) || x) (shown_takes k t to clock v came here le)

  -- before, it covers none
  before_takes : (view : Option ServerView) (j : Joined) → t < clock
      → is_covered k t (all_of (spans_until w (last_seen clock view) came to j)) ≡ is_covered k t (all_of j)
  before_takes None j gone = refl
  before_takes (Some v) j gone =
      let l : Last = record { clock = clock; view = v } in
      let job : leb (job_from l came to) t ≡ false = elim (cases_Bool (has_job v)) [
        | inl y ↦ rw y (grind (arith, nat_tests))
        | inr n ↦ rw n (grind (arith, nat_tests))
      ] in
      let rests : takes t (resting_stretch l came to) ≡ false = grind (arith, nat_tests) in
      let held : takes t (throttled_stretch l came to) ≡ false = rw job refl in
      let waits : takes t (waiting_stretch l came to) ≡ false =
      rw (after_both t (throttled_until v clock to) (job_from l came to), job)
      (neither_half (not (ltb t (throttled_until v clock to))) (ltb t to)) in
      all_cover l j
      ∙ (ap (λ x. is_covered k t (all_of j) || x)
      (rw (rests, held, waits) (none_of (same_kind kind.Resting k) (same_kind kind.Throttled k) (same_kind kind.Waits k)))
      ∙ or_false (is_covered k t (all_of j)))
    where
      neither_half : (x y : Bool) → ((x && false) && y) ≡ false
      neither_half true y = refl
      neither_half false y = refl

-- a server that has made no step yet
at_first : (w : Window) (k : Kind) (t to : ℕ) (came : Option ℕ) → w.from ≤ t → t < w.to
    → is_covered k t (all_of (spans_until w (Some at_start) came to nothing_joined)) ≡ (ltb t to && is_kind k (kind_shown at_start.view came t))
at_first w k t to came a b = between_takes w k t to 0 came a b (omega arith) (Some at_start.view) nothing_joined (omega arith)

-- a step takes its ticks
step_taken : (x same c d : Bool) → c ≡ true → d ≡ true → ((false && x) || (same && (c && d))) ≡ same
step_taken x true c d e f = rw (e, f) refl
step_taken x false c d e f = refl

step_not_taken : (x same c : Bool) → c ≡ false → (x || (same && c)) ≡ x
step_not_taken true same c e = refl
step_not_taken false true c e = e
step_not_taken false false c e = refl

-- up to a tick, each tick is covered by what the server does in it, and by nothing else
pub ticks_covered : (w : Window) (k : Kind) (t : ℕ) (came : Option ℕ) (to : ℕ) (own : List Seen) → w.from ≤ t → t < w.to → AreInTurn to own
    → is_covered k t (all_of (spans_until w (last_of own) came to (spans_seen w own))) ≡ (ltb t to && is_kind k (kind_before came t own))
ticks_covered w k t came to [] a b turn = at_first w k t to came a b
ticks_covered w k t came to (o ∷ own) a b turn =
    let le = turn.1 in
    let comes = came_of o.event in
    let before = spans_until w (last_of own) comes (begun o) (spans_seen w own) in
    let j = with_stretch w (step_stretch o) before in
    let same = same_kind (kind_of o.event) k in
    let x = is_kind k (kind_before comes t own) in
    let began : begun o ≤ o.clock = omega arith in
    let covered : is_covered k t (all_of j) ≡ ((ltb t (begun o) && x) || shows k t (step_stretch o)) =
    with_covers w k t (step_stretch o) before a b ∙ ap (λ c. c || shows k t (step_stretch o)) (ticks_covered w k t comes (begun o) own a b turn.0) in
    elim (cases_Bool (ltb t (begun o))) [
      | inl y ↦
          let gone : t < o.clock = grind (arith, nat_tests) in
          let in_time : ltb t to ≡ true = grind (arith, nat_tests) in
          let none : takes t (step_stretch o) ≡ false = grind (arith, nat_tests) in
          before_takes w k t to o.clock came a b le o.view j gone ∙ (covered ∙ rw (y, in_time) (step_not_taken x same (takes t (step_stretch o)) none))
      | inr n ↦ elim (cases_Bool (ltb t o.clock)) [
        | inl y ↦
            let gone : t < o.clock = grind (arith, nat_tests) in
            let in_time : ltb t to ≡ true = grind (arith, nat_tests) in
            let here : leb (begun o) t ≡ true = grind (arith, nat_tests) in
            before_takes w k t to o.clock came a b le o.view j gone ∙ (covered ∙ rw (n, y, in_time) (step_taken x same (leb (begun o) t) true here refl))
        | inr m ↦
            let here : o.clock ≤ t = grind (arith, nat_tests) in
            let none : takes t (step_stretch o) ≡ false = grind (arith, nat_tests) in
            let nothing : is_covered k t (all_of j) ≡ false = covered ∙ rw n (step_not_taken false same (takes t (step_stretch o)) none) in
            between_takes w k t to o.clock came a b le o.view j here ∙ rw (nothing, n, m) refl
      ]
    ]
