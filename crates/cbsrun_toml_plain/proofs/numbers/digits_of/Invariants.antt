use Rattle.std.proofs.Common.{◌≡◌, ◌<◌, ◌^◌, ◌++◌, length}
use denote.Text.{Utf8}
use denote.Shadow.{shadow}
use Rattle.std.specs.Fmt.{decimal}
use Rattle.cbsrun_toml_plain.proofs.numbers.digits_of.Given as goal

-- the digits so far spell the number
abbrev pub invariant-digits : goal.invariant-digits
invariant-digits l = shadow (Utf8 l.rest) × (l.number < 10 ^ 18) × (l.fn.s ≡ decimal l.number ++ l.rest)

abbrev pub decreases-digits : goal.decreases-digits
decreases-digits l = length l.rest
