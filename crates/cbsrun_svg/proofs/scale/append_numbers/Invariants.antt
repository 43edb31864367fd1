use Rattle.std.proofs.Common.{◌≡◌, ◌++◌, take, string_bytes}
use Rattle.std.specs.Prelude.{flat_map}
use Rattle.cbsrun_svg.specs.Heads.{number_text}
use Rattle.cbsrun_svg.proofs.scale.append_numbers.Given as goal

abbrev pub invariant-loop-tick : goal.invariant-loop-tick
invariant-loop-tick l = string_bytes l.text ≡ string_bytes l.fn.text ++ flat_map (number_text l.nanoseconds l.axis l.y) (take l.tick-index l.ticks)
