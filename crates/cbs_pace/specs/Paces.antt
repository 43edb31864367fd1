-- The pace of a house: the length of its tick, its time, and what its servers carry.
use Rattle.std.specs.Prelude.{Bool, ℕ, ◌≡◌, ◌+◌, ◌-◌, ◌*◌, ◌≤◌, ◌<◌, max, min, List, replicate, length, slice_index, slice_set}
use Rattle.cbs_pace.specs.declared.rounding.Rounding.{Rounding}
use Rattle.cbs_pace.specs.declared.watch.Watch.{Watch}
use Rattle.cbs_pace.specs.declared.counts.Counts.{Counts}
use Rattle.cbs_pace.specs.Times.{begun_at, seen_at, HasCome, ticks_behind, most}
use Rattle.cbs_pace.specs.Units.{charge_of, carried_of, rounding_of, carries_of}

-- The length of a tick in nanoseconds, and whether what is less than one is carried. The tick at
-- which the house's clock stood when its time began. The time, what each server carries to its next
-- unit in nanoseconds, and what was seen
pub record Pacing : Type 0 where
  pub tick : ℕ
  pub carries : Bool
  pub first : ℕ
  pub watch : Watch
  pub carried : List ℕ
  pub counts : Counts

-- nothing was seen yet
abbrev pub no_counts : Counts
no_counts = record {
  units = 0;
  overruns = 0;
  longest = 0;
  charged = 0;
  behind = 0;
  most_behind = 0;
}

-- the pace of a house whose clock stands at `now`, and whose time begins at a reading
abbrev pub pacing_begun : ℕ → Rounding → ℕ → ℕ → Pacing
pacing_begun tick r now reading = record {
  tick = tick;
  carries = carries_of r;
  first = now;
  watch = begun_at reading;
  carried = replicate 64 0;
  counts = no_counts;
}

-- what server s carries
abbrev pub carried_at : Pacing → ℕ → ℕ
carried_at p s = slice_index p.carried s

-- how many ticks of the house's clock are counted, if it stands at `now`
abbrev pub ticks_counted : Pacing → ℕ → ℕ
ticks_counted p now = now - p.first

-- The house's tick `now` has come: the ticks that are counted are over. A house whose clock stands
-- at `now` may begin its next unit
abbrev pub IsDue : Pacing → ℕ → Type 0
IsDue p now = HasCome p.tick (ticks_counted p now) p.watch

-- by how many whole ticks the house's clock is behind, if it stands at `now`
abbrev pub behind_of : Pacing → ℕ → ℕ
behind_of p now = ticks_behind p.tick (ticks_counted p now) p.watch

-- the house's clock, which stands at `now`, is ahead by a tick at most
abbrev pub IsNotAhead : Pacing → ℕ → Type 0
IsNotAhead p now = ticks_counted p now * p.tick ≤ p.watch.over + p.tick

-- the ticks that a unit of server s is charged that took so long
abbrev pub unit_charge : Pacing → ℕ → ℕ → ℕ
unit_charge p s took = charge_of (rounding_of p.carries) p.tick (carried_at p s) took

-- the counts after one more unit
abbrev pub counts_with : Pacing → ℕ → Counts
counts_with p took = record p.counts {
  units = min (p.counts.units + 1) most;
  overruns = min (p.counts.overruns + min 1 (took - p.tick)) most;
  longest = max p.counts.longest took;
}

-- the pace after a unit of server s that took so long
abbrev pub pacing_with_unit : Pacing → ℕ → ℕ → Pacing
pacing_with_unit p s took = record p {
  carried = slice_set p.carried s (carried_of (rounding_of p.carries) p.tick (carried_at p s) took);
  counts = counts_with p took;
}

-- the pace after so many ticks were charged for a unit
abbrev pub pacing_with_charge : ℕ → Pacing → Pacing
pacing_with_charge ticks p = record p {
  counts = record p.counts { charged = min (p.counts.charged + ticks) most };
}

-- the pace after the house's clock was seen to be so many whole ticks behind
abbrev pub pacing_with_behind : ℕ → Pacing → Pacing
pacing_with_behind ticks p = record p {
  counts = record p.counts { behind = ticks; most_behind = max p.counts.most_behind ticks };
}

-- the pace after one more reading
abbrev pub pacing_seen : ℕ → Pacing → Pacing
pacing_seen reading p = record p { watch = seen_at reading p.watch }

-- the time from the last reading to this one
abbrev pub time_to : ℕ → Pacing → ℕ
time_to reading p = (seen_at reading p.watch).over - p.watch.over

-- the time that a unit took by its own measure, and no more than there was since the last reading
abbrev pub measured : ℕ → ℕ → Pacing → ℕ
measured took reading p = min took (time_to reading p)

-- what every pace keeps: a tick has a length, and no server carries as much as a tick
pub record IsPacing (p : Pacing) : Type 0 where
  pub long : 0 < p.tick
  pub servers : length p.carried ≡ 64
  pub less : (s : ℕ) → carried_at p s < p.tick
