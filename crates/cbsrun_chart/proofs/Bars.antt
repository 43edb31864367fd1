-- Bars cover exactly the ticks of units.
use Rattle.std.proofs.Common.{◌≡◌, ◌∙◌, ℕ, ◌<◌, ◌≤◌, Bool, true, false, ◌&&◌, ◌||◌, eqb, ltb, List, [], ◌∷◌, length, Option, Some, None, arith, refl, sym}
use Rattle.std.proofs.Common.{ap, subst, inl, inr}
use Rattle.std.specs.Prelude.{set, slice_get}
use Rattle.std.proofs.lemmas.Bool.{cases_Bool}
use Rattle.std.proofs.lemmas.Bool.Decides.{nat_tests}
use Rattle.std.proofs.lemmas.List.{get_or-map, get_or-set_same, get_or-set_other, length-map, length-set}
use Rattle.cbs_rate.specs.Rate.{Rate}
use Rattle.cbsrun_figures.specs.Figures.{is_server, steps_of}
use Rattle.cbs_steps.specs.declared.reply.Ran.TheVariants as unit
use Rattle.cbsrun_events.specs.Events.{server_of, begun}
use Rattle.cbsrun_events.specs.declared.seen.Event.{Event}
use Rattle.cbsrun_events.specs.declared.seen.Event.TheVariants as event
use Rattle.cbsrun_events.specs.declared.seen.Seen.{Seen}
use Rattle.cbsrun_chart.specs.Charts.{IsChart, IsServerChart, Kept, idle_seen, kept_seen, kept_with, new_kept, new_row, no_row, ran, rate_at, row_after, row_at}
use Rattle.cbsrun_chart.specs.Charts.{row_seen, runs_unit_of, took, IsRowChart}
use Rattle.cbsrun_chart.specs.Courses.{course_until}
use Rattle.cbsrun_chart.specs.Marks.{deadlines_until}
use Rattle.cbsrun_chart.specs.Jobs.{all_jobs}
use Rattle.cbsrun_chart.specs.Rows.{came_of, kind_of, last_of, resting_stretch, spans_seen, spans_until, step_stretch, throttled_stretch, waiting_stretch}
use Rattle.cbsrun_window.specs.Stretches.{Joined, all_of, is_covered, same_kind, shows, with_stretch}
use Rattle.cbsrun_chart.specs.declared.chart.Chart.{Chart}
use Rattle.cbsrun_chart.specs.declared.chart.ServerChart.{ServerChart}
use Rattle.cbsrun_window.specs.declared.stretch.Kind.TheVariants as kind
use Rattle.cbsrun_chart.specs.declared.waits.Last.{Last}
use Rattle.cbsrun_window.specs.declared.window.Window.{Window}
use Rattle.cbsrun_chart.proofs.Apart.{apart_at_end}
use Rattle.cbsrun_chart.proofs.Covers.{with_covers}
use Rattle.cbsrun_chart.proofs.Rows.{AreRowCharts, charts_count, chart_at}
use Rattle.cbsrun_chart.proofs.Ticks.{ticks_covered}

-- until a step of its own, a server runs no unit, so its bars stay as they were
three_none : (x a b c : Bool) → a ≡ false → b ≡ false → c ≡ false → (((x || a) || b) || c) ≡ x
three_none true a b c e f g = refl
three_none false a b c e f g = rw (e, f, g) refl

bars_until : (w : Window) (j t : ℕ) (last : Option Last) (came : Option ℕ) (to : ℕ) (s : Joined) → w.from ≤ t → t < w.to
    → is_covered (kind.Runs j) t (all_of (spans_until w last came to s)) ≡ is_covered (kind.Runs j) t (all_of s)
bars_until w j t None came to s a b = refl
bars_until w j t (Some l) came to s a b =
    let k = kind.Runs j in
    let rests = with_stretch w (resting_stretch l came to) s in
    let throttled = with_stretch w (throttled_stretch l came to) rests in
    with_covers w k t (waiting_stretch l came to) throttled a b
    ∙ (ap (λ x. x || shows k t (waiting_stretch l came to)) (with_covers w k t (throttled_stretch l came to) rests a b)
    ∙ (ap (λ x. (x || shows k t (throttled_stretch l came to)) || shows k t (waiting_stretch l came to)) (with_covers w k t (resting_stretch l came to) s a b)
    ∙ three_none (is_covered k t (all_of s)) (shows k t (resting_stretch l came to)) (shows k t (throttled_stretch l came to))
    (shows k t (waiting_stretch l came to)) refl refl refl))

and_true : (a b : Bool) → a ≡ true → b ≡ (a && b)
and_true true b e = refl
and_true false b e = absurd cc

and_false : (a b : Bool) → a ≡ false → (a && b) ≡ false
and_false true b e = absurd cc
and_false false b e = refl

-- a step of server s is of kind 'runs job j' exactly if it ran a unit of job j of s
own_unit : (s j : ℕ) (e : Event) → is_server s (server_of e) ≡ true → same_kind (kind_of e) (kind.Runs j) ≡ runs_unit_of s j e
own_unit s j (event.Ran (unit.Unit k q)) h = and_true (eqb k s) (eqb q j) h
own_unit s j (event.Ran (unit.Done c)) h = and_true (eqb c.server s) (eqb c.seq j) h
own_unit s j (event.Ran unit.Idle) h = refl
own_unit s j (event.Ran unit.ClockEnd) h = refl
own_unit s j (event.Accepted job number promised) h = refl
own_unit s j (event.NotAccepted job error) h = refl
own_unit s j (event.Advanced n) h = refl
own_unit s j (event.NotAdvanced n error) h = refl
own_unit s j (event.Closed k) h = refl
own_unit s j (event.NotClosed k error) h = refl
own_unit s j (event.Charged k n) h = refl
own_unit s j (event.NotCharged k n error) h = refl

-- a step of another server ran no unit of server s
other_unit : (s j : ℕ) (e : Event) → is_server s (server_of e) ≡ false → runs_unit_of s j e ≡ false
other_unit s j (event.Ran (unit.Unit k q)) h = and_false (eqb k s) (eqb q j) h
other_unit s j (event.Ran (unit.Done c)) h = and_false (eqb c.server s) (eqb c.seq j) h
other_unit s j (event.Ran unit.Idle) h = refl
other_unit s j (event.Ran unit.ClockEnd) h = refl
other_unit s j (event.Accepted job number promised) h = refl
other_unit s j (event.NotAccepted job error) h = refl
other_unit s j (event.Advanced n) h = refl
other_unit s j (event.NotAdvanced n error) h = refl
other_unit s j (event.Closed k) h = refl
other_unit s j (event.NotClosed k error) h = refl
other_unit s j (event.Charged k n) h = refl
other_unit s j (event.NotCharged k n error) h = refl

swapped : (x y : Bool) → (x || y) ≡ (y || x)
swapped true true = refl
swapped true false = refl
swapped false true = refl
swapped false false = refl

-- the bars of server s cover exactly the ticks of its units
pub bars_seen : (w : Window) (s j t : ℕ) (seen : List Seen) → w.from ≤ t → t < w.to
    → is_covered (kind.Runs j) t (all_of (spans_seen w (steps_of s seen))) ≡ ran s j t seen
bars_seen w s j t [] a b = refl
bars_seen w s j t (o ∷ seen) a b = elim (cases_Bool (is_server s (server_of o.event))) [
  | inl y ↦
      let own = steps_of s seen in
      let before = spans_seen w own in
      let unit : same_kind (kind_of o.event) (kind.Runs j) ≡ runs_unit_of s j o.event = own_unit s j o.event y in
      let came = came_of o.event in
      rw y (with_covers w (kind.Runs j) t (step_stretch o) (spans_until w (last_of own) came (begun o) before) a b
      ∙ (ap (λ x. x || shows (kind.Runs j) t (step_stretch o)) (bars_until w j t (last_of own) came (begun o) before a b ∙ bars_seen w s j t seen a b)
      ∙ (ap (λ x. ran s j t seen || (x && took t o)) unit ∙ swapped (ran s j t seen) (runs_unit_of s j o.event && took t o))))
  | inr n ↦
      rw n (bars_seen w s j t seen a b ∙ ap (λ x. x || ran s j t seen) (sym (and_false (runs_unit_of s j o.event) (took t o) (other_unit s j o.event n))))
]

-- the same with what comes after its last step
pub bars_at_end : (w : Window) (s j t end : ℕ) (seen : List Seen) → w.from ≤ t → t < w.to
    → is_covered (kind.Runs j) t (all_of (spans_until w (last_of (steps_of s seen)) None end (spans_seen w (steps_of s seen)))) ≡ ran s j t seen
bars_at_end w s j t end seen a b =
    let own = steps_of s seen in bars_until w j t (last_of own) None end (spans_seen w own) a b ∙ bars_seen w s j t seen a b

-- what is collected of servers with these reservations, from the steps that were seen
pub record AreRows (w : Window) (rates : List Rate) (seen : List Seen) (k : Kept) : Type 0 where
  pub window : k.window ≡ w
  pub count : length k.rows ≡ length rates
  pub rows : (s : ℕ) → s < length rates → row_at k.rows s ≡ row_seen w (rate_at rates s) (steps_of s seen)
  pub idle : k.idle ≡ idle_seen w seen

-- a step of the server
own_step : (s : ℕ) (o : Seen) (seen : List Seen) → is_server s (server_of o.event) ≡ true → steps_of s (o ∷ seen) ≡ o ∷ steps_of s seen
own_step s o seen t = rw t refl

same_server : (s : ℕ) (so : Option ℕ) → so ≡ Some s → is_server s so ≡ true
same_server s so e = rw e (grind (arith, nat_tests))

-- the row of the server that a step is of
row_there : (w : Window) (rates : List Rate) (seen : List Seen) (o : Seen) (k : Kept) (i : ℕ) → server_of o.event ≡ Some i → i < length k.rows
    → i < length rates → AreRows w rates seen k
    → row_at (set k.rows i (row_after k.window o (row_at k.rows i))) i ≡ row_seen w (rate_at rates i) (steps_of i (o ∷ seen))
row_there w rates seen o k i is there inside was =
    get_or-set_same k.rows i (row_after k.window o (row_at k.rows i)) no_row there
    ∙ (ap (λ r. row_after k.window o r) (was.rows i inside)
    ∙ (ap (λ v. row_after v o (row_seen w (rate_at rates i) (steps_of i seen))) was.window
    ∙ ap (λ own. row_seen w (rate_at rates i) own) (sym (own_step i o seen (same_server i (server_of o.event) is)))))

-- one step more, that is of server k or of none
rows_after : (w : Window) (rates : List Rate) (seen : List Seen) (o : Seen) (k : Kept) (so : Option ℕ) → server_of o.event ≡ so → AreRows w rates seen k
    → AreRows w rates (o ∷ seen) (kept_with so o k)
rows_after w rates seen o k None is was = record {
  window = was.window;
  count = was.count;
  rows = λ s lt. rw is (was.rows s lt);
  idle = rw (is, was.window, was.idle) refl;
}
rows_after w rates seen o k (Some i) is was = elim (cases_Bool (ltb i (length k.rows))) [
  | inl y ↦
      let there : i < length k.rows = grind (arith, nat_tests) in
      rw y (record {
        window = was.window;
        count = length-set k.rows i (row_after k.window o (row_at k.rows i)) ∙ was.count;
        rows = λ s lt. elim (cases_Bool (eqb i s)) [
          | inl t ↦
              let same : i ≡ s = grind (arith, nat_tests) in
              let inside : i < length rates = omega arith in
              subst (λ x. row_at (set k.rows i (row_after k.window o (row_at k.rows i))) x ≡ row_seen w (rate_at rates x) (steps_of x (o ∷ seen))) same
              (row_there w rates seen o k i is there inside was)
          | inr f ↦
              let ne : s ≡ i → ⊥ = λ e. grind (arith, nat_tests) in
              let other : is_server s (server_of o.event) ≡ false = rw is f in
              rw other (get_or-set_other k.rows i s (row_after k.window o (row_at k.rows i)) no_row ne ∙ was.rows s lt)
        ];
        idle = rw is was.idle;
      })
  | inr n ↦
      let gone : length k.rows ≤ i = grind (arith, nat_tests) in
      rw n (record {
        window = was.window;
        count = was.count;
        rows = λ s lt.
            let ne : eqb i s ≡ false = let c = was.count in grind (arith, nat_tests) in
            let other : is_server s (server_of o.event) ≡ false = rw is ne in
            rw other (was.rows s lt);
        idle = rw is was.idle;
      })
]

-- what is collected after all steps
pub rows_seen : (w : Window) (rates : List Rate) (seen : List Seen) → AreRows w rates seen (kept_seen (new_kept w rates) seen)
rows_seen w rates [] = record {
  window = refl;
  count = length-map rates new_row;
  rows = λ s lt. get_or-map new_row rates s (record { budget = 0; period = 0 }) no_row lt;
  idle = refl;
}
rows_seen w rates (o ∷ seen) = rows_after w rates seen o (kept_seen (new_kept w rates) seen) (server_of o.event) refl (rows_seen w rates seen)

-- the charts that are made of what was collected show what was seen
pub chart_seen : (w : Window) (rates : List Rate) (end : ℕ) (seen : List Seen) (k : Kept) (c : Chart) → k ≡ kept_seen (new_kept w rates) seen → c.window ≡ w
    → c.idle.items ≡ all_of k.idle → AreRowCharts w end k.rows c.servers.items → IsChart rates end seen c
chart_seen w rates end seen k c is window idle charts =
    let rows : AreRows w rates seen k = subst (AreRows w rates seen) (sym is) (rows_seen w rates seen) in
    let spans = spans_of w rates end seen k c.servers.items rows charts in
    rw window (record {
      idle = idle ∙ ap all_of rows.idle;
      count = charts_count w end k.rows c.servers.items charts ∙ rows.count;
      each = λ s server e. server_chart w rates end seen k s server rows (chart_at w end k.rows c.servers.items s server charts e);
      bars = λ s j t server e a b. ap (is_covered (kind.Runs j) t) (spans s server e) ∙ bars_at_end w s j t end seen a b;
      ticks = λ s t server e turn a b early does.
          let before : ltb t end ≡ true = grind (arith, nat_tests) in
          ap (is_covered does t) (spans s server e) ∙ (ticks_covered w does t None end (steps_of s seen) a b turn ∙ rw before refl);
      apart = λ s server e. rw (spans s server e) (apart_at_end w end (steps_of s seen));
    })
  where
    spans_of : (w : Window) (rates : List Rate) (end : ℕ) (seen : List Seen) (k : Kept) (cs : List ServerChart) → AreRows w rates seen k
        → AreRowCharts w end k.rows cs → (s : ℕ) (server : ServerChart) → slice_get cs s ≡ Some server
        → server.spans.items ≡ all_of (spans_until w (last_of (steps_of s seen)) None end (spans_seen w (steps_of s seen)))
    spans_of w rates end seen k cs rows charts s server e =
        let at = chart_at w end k.rows cs s server charts e in
        let lt : s < length rates = let h = at.0 in omega (arith, rows.count) in
        at.1.spans ∙ ap (λ r. all_of (spans_until w r.last None end r.spans)) (rows.rows s lt)

    server_chart : (w : Window) (rates : List Rate) (end : ℕ) (seen : List Seen) (k : Kept) (s : ℕ) (server : ServerChart) → AreRows w rates seen k
        → (s < length k.rows) × IsRowChart w end (row_at k.rows s) server → IsServerChart w (rate_at rates s) end (steps_of s seen) server
    server_chart w rates end seen k s server rows at =
        let lt : s < length rates = let h = at.0 in omega (arith, rows.count) in
        let row = rows.rows s lt in
        record {
          spans = at.1.spans ∙ ap (λ r. all_of (spans_until w r.last None end r.spans)) row;
          refused = at.1.refused ∙ ap (λ r. all_of r.refused) row;
          refusals = at.1.refusals ∙ ap (λ r. r.refusals) row;
          arrivals = at.1.arrivals ∙ ap (λ r. r.arrivals) row;
          completions = at.1.completions;
          jobs = at.1.jobs ∙ ap (λ r. all_jobs w r.jobs) row;
          late = at.1.late;
          deadlines = at.1.deadlines ∙ ap (λ r. deadlines_until w r.reservation r.last end r.deadlines) row;
          course = at.1.course ∙ ap (λ r. course_until w r.reservation r.last end r.course) row;
        }
