use Rattle.std.proofs.Common.{◌≡◌, ◌++◌, string_bytes}
use Rattle.std.specs.List.{flat_map, range_with_len}
use Rattle.cbsrun_timeline.specs.Timelines.{number_text}
use Rattle.cbsrun_timeline.proofs.ruler.append_numbers.Given as goal

abbrev pub invariant-loop-place : goal.invariant-loop-place
invariant-loop-place l = string_bytes l.text ≡ string_bytes l.fn.text ++ flat_map (number_text l.grid l.first) (range_with_len 0 l.place)
