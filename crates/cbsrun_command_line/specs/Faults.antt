-- The faults of the words.
use Rattle.std.specs.Prelude.{◌≡◌, ◌⊎◌, ℕ, List, [], ◌∷◌, codes}
use Rattle.clap.specs.Words.{Kinds}
use Rattle.clap.specs.declared.error.kind.ErrorKind.{ErrorKind}
use Rattle.clap.specs.declared.error.kind.ErrorKind.TheVariants as kind
use Rattle.cbsrun_command_line.specs.declared.fault.WordsFault.{WordsFault}
use Rattle.cbsrun_command_line.specs.declared.fault.WordsFault.TheVariants.{Usage, Help, OutOfMemory}

-- the number of each fault of the words
abbrev pub words_fault_number : WordsFault → ℕ
words_fault_number (Usage text) = 1
words_fault_number (Help text) = 2
words_fault_number OutOfMemory = 3

-- the name of each fault of the words
abbrev pub words_fault_name : WordsFault → List ℕ
words_fault_name (Usage text) = codes "Usage"
words_fault_name (Help text) = codes "Help"
words_fault_name OutOfMemory = codes "OutOfMemory"

-- the number of the fault that a refusal of `clap` becomes: help and the version are asked for, other words are wrong
abbrev pub number_of : ErrorKind → ℕ
number_of kind.OutOfMemory = 3
number_of kind.DisplayHelp = 2
number_of kind.DisplayVersion = 2
number_of _ = 1

-- a fault has the number of one of these kinds
abbrev pub HasNumberOf : Kinds → WordsFault → Type 0
HasNumberOf [] w = ⊥
HasNumberOf (k ∷ ks) w = (words_fault_number w ≡ number_of k) ⊎ HasNumberOf ks w

-- a fault tells what `clap` refuses at words whose error has one of these kinds. If `clap` takes the words, which is no
-- kind, their options are wrong
abbrev pub TellsOfKinds : Kinds → WordsFault → Type 0
TellsOfKinds [] w = words_fault_number w ≡ 1
TellsOfKinds (k ∷ ks) w = HasNumberOf (k ∷ ks) w
