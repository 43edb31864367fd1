-- A worked example of a tape, computed from the definitions.
use Rattle.std.proofs.Common.{◌≡◌, List, [], ◌∷◌, take, refl}
use Rattle.cbs_steps.specs.declared.step.Step.TheVariants as step
use Rattle.cbs_tape.specs.declared.entry.Entry.{Entry}
use Rattle.cbs_tape.specs.declared.entry.Entry.TheVariants.{Accepted, Units, Advanced, Charged, Closed}
use Rattle.cbs_tape.specs.declared.entry.Ending.TheVariants.{Marked, Cut, Unknown}
use Rattle.cbs_tape.specs.Spelling.{entry, spelling}
use Rattle.cbs_tape.specs.Reading.{entry_at, plain_at, told_in, told}
use Rattle.cbs_tape.specs.Tapes.{all_steps}

-- a job of 3 units for server 0 and its units, 17 ticks, a job of 300 units for server 1, and a unit of it that is charged
-- 5 ticks
abbrev six : List Entry
six = Accepted 0 3 ∷ Units 3 ∷ Advanced 17 ∷ Accepted 1 300 ∷ Units 1 ∷ Charged 1 5 ∷ []

-- 13 bytes
spelled : spelling six ≡ 64 ∷ 3 ∷ 194 ∷ 2 ∷ 17 ∷ 65 ∷ 253 ∷ 44 ∷ 1 ∷ 192 ∷ 129 ∷ 5 ∷ 4 ∷ []
spelled = refl

-- they are read again
read_again : told (spelling six) ≡ record { entries = six; ending = Marked }
unfolding told_in entry_at plain_at
read_again = refl

-- of the first 8 bytes the last two are of an entry that is cut
cut : told (take 8 (spelling six)) ≡ record { entries = Accepted 0 3 ∷ Units 3 ∷ Advanced 17 ∷ []; ending = Cut }
unfolding told_in entry_at plain_at
cut = refl

-- a byte of 5 to 63 begins no entry
unknown : told (3 ∷ 9 ∷ 5 ∷ 4 ∷ []) ≡ record { entries = Closed 9 ∷ []; ending = Unknown }
unfolding told_in entry_at plain_at
unknown = refl

-- a row of 64 units is one byte, and one of 65 is two
longest_short_row : entry (Units 64) ≡ 255 ∷ []
longest_short_row = refl

shortest_long_row : entry (Units 65) ≡ 1 ∷ 65 ∷ []
shortest_long_row = refl

-- the steps of the first four entries
steps : all_steps (take 4 six)
    ≡ step.Submit 0 (record { units = 3 }) ∷ step.Run ∷ step.Run ∷ step.Run ∷ step.Advance 17 ∷ step.Submit 1 (record { units = 300 }) ∷ []
steps = refl
