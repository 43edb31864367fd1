-- What is told of the faults of a load after its first one.
use Rattle.std.specs.Prelude.{◌≡◌, ℕ, zero, suc, ◌-◌, List, [], ◌++◌, codes, decimal, drop, flat_map, length, take, Result, Ok, Err}
use Rattle.toml.specs.Data.{Members}
use Rattle.cbsrun_toml_tables.specs.declared.fault.FileFault.{FileFault}
use Rattle.cbsrun_toml_tables.specs.declared.fault.FileKind.{FileKind}
use Rattle.cbsrun_toml_tables.specs.Documents.{document}
use Rattle.cbsrun_loads.specs.Faults.{load_faults}

-- texts, each after an empty line
abbrev pub each_below : List (List ℕ) → List ℕ
each_below = flat_map (λ text. codes "\n" ++ text)

-- so many texts
pub record TellsEach (count : ℕ) (text : List ℕ) : Type 0 where
  pub texts : List (List ℕ)
  pub for_each : length texts ≡ count
  pub bytes : text ≡ each_below texts

-- the line that says how many more faults there are, after an empty line; nothing if there are no more
unfoldable pub more_line : ℕ → List ℕ
more_line zero = []
more_line (suc n) = codes "\nand " ++ decimal (suc n) ++ codes " more\n"

-- at most so many of these faults are told, and the first stands above: a text for each of the others, and how many more
-- there are
pub record TellsOthers (most : ℕ) (faults : List FileFault) (text : List ℕ) : Type 0 where
  pub texts : List (List ℕ)
  pub for_each : length texts ≡ length (drop 1 (take most faults))
  pub bytes : text ≡ each_below texts ++ more_line (length faults - most)

-- the faults of the load that a document spells, and none if there is no document
abbrev pub faults_in : Result Members FileKind → List FileFault
faults_in (Ok top) = load_faults top
faults_in (Err kind) = []

-- the text tells the faults of the load that the bytes spell after the first one
abbrev pub TellsOthersOf : ℕ → List ℕ → List ℕ → Type 0
TellsOthersOf most bytes = TellsOthers most (faults_in (document bytes))
