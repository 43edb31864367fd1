-- Time by the readings of a clock, and when a tick comes. Times and readings are in nanoseconds.
use Rattle.std.specs.Prelude.{ℕ, ◌+◌, ◌-◌, ◌*◌, ◌/◌, ◌^◌, ◌≤◌, min}
use Rattle.cbs_pace.specs.declared.watch.Watch.{Watch}

-- the latest time and the latest reading
abbrev pub most : ℕ
most = 2 ^ 64 - 1

-- a watch that begins at a reading
abbrev pub begun_at : ℕ → Watch
begun_at reading = record { seen = reading; over = 0 }

-- a watch after one more reading: a step back counts as no time
abbrev pub seen_at : ℕ → Watch → Watch
seen_at reading w = record { seen = reading; over = min (w.over + (reading - w.seen)) most }

-- what the clock will show when so much time is over, if it goes on from what it showed last
abbrev pub shown_at : Watch → ℕ → ℕ
shown_at w time = min (w.seen + (time - w.over)) most

-- a tick has come: so many ticks are over
abbrev pub HasCome : ℕ → ℕ → Watch → Type 0
HasCome tick n w = n * tick ≤ w.over

-- by how many whole ticks a clock that stands at tick n is behind
abbrev pub ticks_behind : ℕ → ℕ → Watch → ℕ
ticks_behind tick n w = w.over / tick - n
