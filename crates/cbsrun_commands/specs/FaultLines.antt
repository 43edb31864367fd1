-- The lines of faults.
use Rattle.cbsrun_records.specs.Kinds.{begins_record}
use Rattle.cbsrun_records.specs.Parts.{text_of}
use Rattle.std.specs.Prelude.{ℕ, if◌then◌else◌, List, ◌⊎◌, ◌++◌, codes, decimal, ◌≡◌, [], ◌∷◌, Result, Ok, Err}
use Rattle.cbsrun_toml_tables.specs.Faults.{file_kind_number, file_kind_name, place_text}
use Rattle.cbsrun_io.specs.Reads.{read_error_number, read_error_name}
use Rattle.cbsrun_lines.specs.Writers.{run_error_number, run_error_name, Writer, IsUntouched, Writes, FailsToWrite, TriesToWrite}
use Rattle.cbsrun_toml_tables.specs.declared.fault.FileFault.{FileFault}
use Rattle.cbsrun_io.specs.declared.input.ReadError.{ReadError}
use Rattle.cbsrun_lines.specs.declared.run_error.RunError.{RunError}
use Rattle.cbsrun_other_faults.specs.Others.{TellsOthersOf}
use Rattle.cbsrun_fault_texts.specs.Explanations.{ExplainsRefusal}
use Rattle.cbsrun_lines.specs.declared.run_error.RunError.TheVariants.{OutOfMemory, WriteFault, ClockEnd, Stalled}

-- the line of a read fault: its number and its name
unfoldable pub read_line : ReadError → List ℕ
read_line e = codes "cbsrun: read fault " ++ (decimal (read_error_number e) ++ (codes " " ++ (read_error_name e ++ codes "\n")))

-- the line of a file's fault: its number, its name and its place
unfoldable pub file_line : FileFault → List ℕ
file_line f = codes "cbsrun: file fault " ++ (decimal (file_kind_number f.kind)
    ++ (codes " " ++ (file_kind_name f.kind ++ (codes " at " ++ (place_text f.place ++ codes "\n")))))

-- the line of a run fault: its number and its name
unfoldable pub run_line : RunError → List ℕ
run_line e = codes "cbsrun: run fault " ++ (decimal (run_error_number e) ++ (codes " " ++ (run_error_name e ++ codes "\n")))

-- the line of a run that has none of the ticks to show: the first of these ticks, and the end of the run
unfoldable pub nothing_shown_line : ℕ → ℕ → List ℕ
nothing_shown_line from end = codes "error: there is no tick to show from " ++
    (decimal from ++ (codes " on: the run ends at tick " ++ (decimal end ++ codes "\n")))

-- what a command that prints a text left at an error. If out of memory, that is what `short` says. If a write failed, a
-- prefix of the text is left. There is no other cause
abbrev pub StopsPrinting : (List ℕ → Type 0) → (Writer → Writer → Type 0) → RunError → Writer → Writer → Type 0
StopsPrinting is short OutOfMemory old new = short old new
StopsPrinting is short WriteFault old new = (text : List ℕ) × is text × FailsToWrite old new text
StopsPrinting is short ClockEnd old new = ⊥
StopsPrinting is short Stalled old new = ⊥

-- what a command that prints a text left, by its result: at Ok the whole text. If out of memory, nothing is left, since
-- the text is made before it is written
abbrev pub Prints : {A : Type 0} → (List ℕ → Type 0) → Result A RunError → Writer → Writer → Type 0
Prints is (Ok x) old new = (text : List ℕ) × is text × Writes old new text
Prints is (Err error) old new = StopsPrinting is IsUntouched error old new

-- the TOML document of a file: all of it, but of a record what stands before its tape
abbrev pub document_of : List ℕ → List ℕ
document_of bytes = if begins_record bytes then text_of bytes else bytes

-- what stands below the line of a fault in the file with this name and these bytes: nothing, or an empty line and then
-- a text that explains the fault
abbrev pub StandsBelow : List ℕ → List ℕ → FileFault → List ℕ → Type 0
StandsBelow name bytes fault [] = Unit {0}
StandsBelow name bytes fault (byte ∷ text) = (byte ≡ 10) × ExplainsRefusal name (document_of bytes) fault text

-- the line of a fault was written, and what stands below it; or a call failed, and a prefix of both was written
abbrev pub Explains : List ℕ → List ℕ → FileFault → Writer → Writer → Type 0
Explains name bytes fault old new = (below : List ℕ) × StandsBelow name bytes fault below × TriesToWrite old new (file_line fault ++ below)

-- how many faults of a file `check` explains
abbrev pub most_explained : ℕ
most_explained = 10

-- what `check` writes below that text: nothing, or what is told of the other faults
abbrev pub StandsLast : List ℕ → List ℕ → Type 0
StandsLast bytes others = (others ≡ []) ⊎ TellsOthersOf most_explained bytes others

-- what `check` writes below the line of a fault: nothing, or an empty line, a text that explains the fault, and the others
abbrev pub StandAllBelow : List ℕ → List ℕ → FileFault → List ℕ → Type 0
StandAllBelow name bytes fault [] = Unit {0}
StandAllBelow name bytes fault (byte ∷ texts) =
    (byte ≡ 10) × (text : List ℕ) × (others : List ℕ) × ExplainsRefusal name (document_of bytes) fault text × StandsLast bytes others × (texts ≡ text ++ others)

-- the line of a fault was written, and what `check` writes below it; or a call failed, and a prefix of both was written
abbrev pub ExplainsAll : List ℕ → List ℕ → FileFault → Writer → Writer → Type 0
ExplainsAll name bytes fault old new =
    (below : List ℕ) × StandAllBelow name bytes fault below × TriesToWrite old new (file_line fault ++ below)

-- the line of a fault and the text that explains it were written
abbrev pub WritesExplained : List ℕ → List ℕ → FileFault → Writer → Writer → Type 0
WritesExplained name bytes fault old new =
    (text : List ℕ) × ExplainsRefusal name (document_of bytes) fault text × Writes old new (file_line fault ++ (10 ∷ text))
