use Rattle.std.proofs.Common.{◌≡◌, ◌-◌, length}
use Rattle.cbs_tape.specs.Reading.{told_in, told}
use Rattle.cbs_tape.proofs.Cuts.{after_entries}
use Rattle.cbs_tape.proofs.reading.read_all.Given as goal

abbrev pub invariant-loop : goal.invariant-loop
invariant-loop g l = after_entries l.entries.items (told_in (length l.bytes - l.counter) l.rest) ≡ told l.bytes
