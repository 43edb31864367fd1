-- What C gets of what the host of a house does next.
use Rattle.std.specs.Prelude.{ℕ}
use Rattle.cbs_pacer.specs.declared.next.Next.{Next}
use Rattle.cbs_pacer.specs.declared.next.Next.TheVariants as next
use Rattle.cbs_pacer.specs.Paced.{ran_next}
use Rattle.cbs_embed.specs.declared.told.Asked.{Asked}
use Rattle.cbs_c.specs.Values.{ran_shown}
use Rattle.cbs_c.specs.declared.pace.Next as shown

-- the number of what the host does next
abbrev pub next_kind : Next → ℕ
next_kind (next.Do told) = 0
next_kind (next.SleepUntil until) = 1
next_kind next.Listen = 2
next_kind (next.WaitUntil until) = 3
next_kind next.Over = 4
next_kind next.ClockEnd = 5
next_kind next.OutOfMemory = 6

-- until when it sleeps or waits, and 0 if it does neither
abbrev pub next_until : Next → ℕ
next_until (next.SleepUntil until) = until
next_until (next.WaitUntil until) = until
next_until _ = 0

-- what the host does next, for C
abbrev pub next_shown : Asked → shown.Next
next_shown a = record {
  kind = next_kind a.next;
  taken = a.taken;
  until = next_until a.next;
  unit = ran_shown (ran_next a.next) a.token;
}
