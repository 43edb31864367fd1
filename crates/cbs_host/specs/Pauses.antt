-- How a side of a round rests.
use Rattle.std.specs.Prelude.{ℕ, ◌+◌, ◌-◌, ◌*◌, ◌/◌, ◌%◌, ◌^◌, min, nat_le, nat_lt, if◌then◌else◌}
use Rattle.cbs_host.specs.declared.pause.Rest.{Rest}
use Rattle.cbs_host.specs.declared.pause.Rest.TheVariants.{GoOn, Yield, Sleep}

-- for how many microseconds a side sleeps
abbrev pub slept : Rest → ℕ
slept GoOn = 0
slept Yield = 0
slept (Sleep micros) = micros

-- how long a side has stood still: how many turns in a row moved no message; and its longest sleep, in microseconds
pub record Stillness : Type 0 where
  pub still : ℕ
  pub longest : ℕ

-- one turn more, up to the greatest number of 64 bits
abbrev pub one_more : ℕ → ℕ
one_more turns = min (turns + 1) (2 ^ 64 - 1)

-- How a side rests after so many turns in a row that moved no message. The first 64 of them end with a yield. Each
-- 128th after these ends with a sleep, and the others with no rest. Each sleep is 20 microseconds longer than the one
-- before it, up to the longest.
abbrev pub rest_after : ℕ → ℕ → Rest
rest_after turns longest =
    let further = turns - 64 in
    if nat_le turns 64 then Yield else (if nat_lt 0 (further % 128) then GoOn else Sleep (min longest (further / 128 * 20)))
