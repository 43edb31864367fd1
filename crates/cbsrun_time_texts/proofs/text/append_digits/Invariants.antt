use Rattle.std.proofs.Common.{◌≡◌, ◌++◌, string_bytes, drop}
use Rattle.cbsrun_time_texts.specs.Texts.{part_digits, places}
use Rattle.cbsrun_time_texts.proofs.text.append_digits.Given as goal

-- the digits so far and those of what is left are those of the part
abbrev pub invariant-loop-place : goal.invariant-loop-place
invariant-loop-place l = record {
  items : l.place-items ≡ places;
  digits : string_bytes l.text ++ part_digits (drop l.place-index places) l.left ≡ string_bytes l.fn.text ++ part_digits places l.fn.part;
}
