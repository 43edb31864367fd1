-- The limits that the crates share, each defined once. The code of each crate has its own constant for them.
use Rattle.std.specs.Prelude.{ℕ}

-- the greatest number of servers
abbrev pub most_servers : ℕ
most_servers = 64

-- the longest period, in ticks
abbrev pub longest_period : ℕ
longest_period = 1_000_000_000

-- the greatest denominator of a bound
abbrev pub greatest_denominator : ℕ
greatest_denominator = 1_000_000

-- the greatest least common multiple of a plan's periods
abbrev pub greatest_common_multiple : ℕ
greatest_common_multiple = 1_000_000_000_000_000_000

-- the greatest number of units of a job
abbrev pub most_units : ℕ
most_units = 1_000_000

-- the greatest number that a job adds or compares
abbrev pub greatest_number : ℕ
greatest_number = 4_294_967_295

-- the greatest number of unfinished jobs of a server
abbrev pub most_backlog : ℕ
most_backlog = 4096

-- the greatest number of messages for which a ring may be opened
abbrev pub most_ring : ℕ
most_ring = 1024
