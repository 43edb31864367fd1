-- Counts of the ticks in a cell that stretches take.
use Rattle.std.specs.Prelude.{ℕ, ◌-◌, ◌+◌, Bool, true, false, if◌then◌else◌, max, min, List, sum_by}
use Rattle.cbsrun_window.specs.declared.counts.Counts.{Counts}
use Rattle.cbsrun_window.specs.declared.stretch.Kind.{Kind}
use Rattle.cbsrun_window.specs.declared.stretch.Kind.TheVariants as kind
use Rattle.cbsrun_window.specs.declared.stretch.Stretch.{Stretch}

-- how many ticks of a stretch are at the tick `from` or later, and before the tick `to`
abbrev pub overlap : ℕ → ℕ → Stretch → ℕ
overlap from to p = min p.to to - max p.from from

-- a count as a chart gives it: at most 2^64 - 1
abbrev pub told : ℕ → ℕ
told n = min n 18446744073709551615

-- the number of ticks if the condition holds, else 0
abbrev pub ticks_if : Bool → ℕ → ℕ
ticks_if b n = if b then n else 0

-- how many ticks of a cell, which goes from one tick up to another, are taken by stretches whose kind passes the test
abbrev pub counted : (Kind → Bool) → ℕ → ℕ → List Stretch → ℕ
counted is from to ps = sum_by (λ p. ticks_if (is p.kind) (overlap from to p)) ps

abbrev pub is_runs : Kind → Bool
is_runs (kind.Runs j) = true
is_runs _ = false

abbrev pub is_charged : Kind → Bool
is_charged kind.Charged = true
is_charged _ = false

abbrev pub is_throttled : Kind → Bool
is_throttled kind.Throttled = true
is_throttled _ = false

abbrev pub is_waits : Kind → Bool
is_waits kind.Waits = true
is_waits _ = false

abbrev pub is_refused : Kind → Bool
is_refused kind.Refused = true
is_refused _ = false

abbrev pub is_late : Kind → Bool
is_late kind.Late = true
is_late _ = false

abbrev pub is_idle : Kind → Bool
is_idle kind.Idle = true
is_idle _ = false

-- the counts of a cell
abbrev pub counts_of : ℕ → ℕ → List Stretch → Counts
counts_of from to ps = record {
  runs = told (counted is_runs from to ps);
  charged = told (counted is_charged from to ps);
  throttled = told (counted is_throttled from to ps);
  waits = told (counted is_waits from to ps);
  refused = told (counted is_refused from to ps);
  late = told (counted is_late from to ps);
  idle = told (counted is_idle from to ps);
}

-- the counts with this many more ticks of a kind
abbrev pub counts_with : Kind → ℕ → Counts → Counts
counts_with k n c = record {
  runs = told (c.runs + ticks_if (is_runs k) n);
  charged = told (c.charged + ticks_if (is_charged k) n);
  throttled = told (c.throttled + ticks_if (is_throttled k) n);
  waits = told (c.waits + ticks_if (is_waits k) n);
  refused = told (c.refused + ticks_if (is_refused k) n);
  late = told (c.late + ticks_if (is_late k) n);
  idle = told (c.idle + ticks_if (is_idle k) n);
}
