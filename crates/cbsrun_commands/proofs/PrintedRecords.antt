-- A record that a command prints, or has not.
use Rattle.std.proofs.Common.{◌≡◌, List, ℕ, Option, Some, None, Result, Ok, Err, subst}
use Rattle.cbsrun_toml_tables.specs.declared.fault.FileFault.{FileFault}
use Rattle.cbsrun_lines.specs.Writers.{Writer, IsUntouched}
use Rattle.cbsrun_lines.specs.declared.run_error.RunError.{RunError}
use Rattle.cbsrun_run_records.specs.Recorded.{IsRecorded}
use Rattle.cbsrun_runs.specs.Runs.{Shown}
use Rattle.cbsrun_commands.specs.Commands.{DoesOrLacks, printing_command}
use Rattle.cbsrun_commands.specs.Records.{IsNotRecorded, PrintsRecord}
use Rattle.cbsrun_commands.specs.declared.ending.Stopped.TheVariants.{Run}
use Rattle.cbsrun_commands.proofs.Endings.{stops_as}

-- of the same names and the same run
same_record : {A : Type 0} (names names' : List (List ℕ)) (run run' : Shown) (r : Result (Option A) RunError) (old new : Writer)
    → names' ≡ names → run' ≡ run → PrintsRecord names' run' r old new → PrintsRecord names run r old new
same_record names names' run run' r old new named same h =
    subst (λ (ns : List (List ℕ)). PrintsRecord ns run r old new) named (subst (λ (s : Shown). PrintsRecord names' s r old new) same h)

-- it is printed, or is not there
does_record : {F A : Type 0} (read : List ℕ → Result F FileFault) (prints : F → List ℕ → Type 0) (bytes : List ℕ) (f : F) (names : List (List ℕ)) (run : Shown)
    → read bytes ≡ Ok f → ((t : List ℕ) → IsRecorded names run t → prints f t) → (found : Option A) (old new : Writer)
    → PrintsRecord names run (Ok found) old new → DoesOrLacks (printing_command read prints) IsNotRecorded bytes (Ok found) old new
does_record read prints bytes f names run is all None old new h = (f, h.0, is, all h.0 h.1, h.2)
does_record read prints bytes f names run is all (Some why) old new h = (f, is, tt, h)

-- the run ended early
stops_record : {F : Type 0} (A : Type 0) (read : List ℕ → Result F FileFault) (prints : F → List ℕ → Type 0) (bytes : List ℕ) (f : F)
    (names : List (List ℕ)) (run : Shown) → read bytes ≡ Ok f → ((t : List ℕ) → IsRecorded names run t → prints f t) → (error : RunError) (old new : Writer)
    → PrintsRecord {A = A} names run (Err error) old new → DoesOrLacks {A = A} (printing_command read prints) IsNotRecorded bytes (Err (Run error)) old new
stops_record A read prints bytes f names run is all error old new h =
    (f, is, stops_as (IsRecorded names run) (prints f) all IsUntouched error old new h)

-- what a command did that printed a record, by what it was told of that
pub printed_record : {F A : Type 0} (read : List ℕ → Result F FileFault) (prints : F → List ℕ → Type 0) (bytes : List ℕ) (f : F)
    (names names' : List (List ℕ)) (run run' : Shown) → read bytes ≡ Ok f → ((t : List ℕ) → IsRecorded names run t → prints f t)
    → (r : Result (Option A) RunError) (old new : Writer) → names' ≡ names → run' ≡ run → PrintsRecord names' run' r old new
    → (found : Option A) → r ≡ Ok found → DoesOrLacks (printing_command read prints) IsNotRecorded bytes (Ok found) old new
printed_record {A = A} read prints bytes f names names' run run' is all r old new named same h found was =
    does_record read prints bytes f names run is all found old new
    (subst (λ (x : Result (Option A) RunError). PrintsRecord names run x old new) was (same_record names names' run run' r old new named same h))

pub stopped_record : {F A : Type 0} (read : List ℕ → Result F FileFault) (prints : F → List ℕ → Type 0) (bytes : List ℕ) (f : F)
    (names names' : List (List ℕ)) (run run' : Shown) → read bytes ≡ Ok f → ((t : List ℕ) → IsRecorded names run t → prints f t)
    → (r : Result (Option A) RunError) (old new : Writer) → names' ≡ names → run' ≡ run → PrintsRecord names' run' r old new
    → (error : RunError) → r ≡ Err error → DoesOrLacks {A = A} (printing_command read prints) IsNotRecorded bytes (Err (Run error)) old new
stopped_record {A = A} read prints bytes f names names' run run' is all r old new named same h error was =
    stops_record A read prints bytes f names run is all error old new
    (subst (λ (x : Result (Option A) RunError). PrintsRecord names run x old new) was (same_record names names' run run' r old new named same h))
