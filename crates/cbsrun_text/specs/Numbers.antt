-- Numbers as text.
use Rattle.std.specs.Prelude.{ℕ, ◌/◌, ◌%◌, List, ◌++◌, codes, decimal, length, min, Option, Some, None}
use Rattle.cbs_rules.specs.declared.mode.Mode.{Mode}
use Rattle.cbs_rules.specs.declared.mode.Mode.TheVariants.{Soft, Throttled}

-- how many digits a number has: at most 20
abbrev pub digits_of : ℕ → ℕ
digits_of n = min 20 (length (decimal n))

-- a number, or - if there is none
abbrev pub number_text : Option ℕ → List ℕ
number_text None = codes "-"
number_text (Some n) = decimal n

-- a number of tenths, with one decimal
abbrev pub tenths_text : ℕ → List ℕ
tenths_text tenths = decimal (tenths / 10) ++ codes "." ++ decimal (tenths % 10)

-- the word for a mode
abbrev pub mode_word : Mode → List ℕ
mode_word Soft = codes "soft"
mode_word Throttled = codes "throttled"
