-- What is told of the first fault of a file.
use Rattle.std.specs.Prelude.{◌≡◌, ℕ, List, Some, IsUtf8, ◌⊎◌}
use Rattle.toml.specs.Data.{Members}
use Rattle.toml.specs.Parse.{parse_document}
use Rattle.cbsrun_toml_tables.specs.declared.fault.FileFault.{FileFault}
use Rattle.cbsrun_toml_tables.specs.declared.fault.FileKind.TheVariants.{NotAdmitted}
use Rattle.cbsrun_toml_tables.specs.declared.fault.Place.TheVariants.{Server}
use Rattle.cbsrun_faults.specs.Documents.{servers_of}
use Rattle.cbsrun_faults.specs.Spots.{server_label}
use Rattle.cbsrun_refusal_texts.specs.Pages.{PageText}
use Rattle.cbsrun_refusal_texts.specs.Refusals.{AppendsRefusal, IsNotRefusedAt, IsPlaceLine, TellsRefusal}

-- the line of the place of a server, in a file with this name and this top table
abbrev pub IsServerLine : List ℕ → Members → ℕ → List ℕ → Type 0
IsServerLine file top server = IsPlaceLine file (Server server) (server_label top server)

-- if the fault is that a server is not admitted, so it is of that server
abbrev pub AppendsWhy : List ℕ → Members → FileFault → PageText → PageText → Type 0
AppendsWhy file top fault old new =
    (server : ℕ) → fault.kind ≡ NotAdmitted → fault.place ≡ Server server → AppendsRefusal (IsServerLine file top server) top (servers_of top) server old new

-- If the fault is that a server is not admitted, the text tells why. Or the plan of the servers before does not refuse it
abbrev pub TellsWhy : List ℕ → Members → FileFault → List ℕ → Type 0
TellsWhy file top fault text =
    (server : ℕ) → fault.kind ≡ NotAdmitted → fault.place ≡ Server server
    → IsNotRefusedAt top (servers_of top) server ⊎ TellsRefusal (IsServerLine file top server) top (servers_of top) server text

-- if the bytes spell a document, the text tells why, by that document
abbrev pub ExplainsRefusal : List ℕ → List ℕ → FileFault → List ℕ → Type 0
ExplainsRefusal file bytes fault text = (top : Members) → IsUtf8 bytes → parse_document bytes ≡ Some top → TellsWhy file top fault text
