-- The text of a page that was finished.
use Rattle.std.proofs.Common.{◌≡◌, ℕ, false, List, [], ◌++◌, Some, Result, Ok, Err, String, Global, ◌⊎◌, inl, inr, ap, ◌∙◌}
use Rattle.std.specs.Prelude.{string_bytes, IfOk, IsUtf8}
use Rattle.std.specs.declared.alloc.AllocError.{AllocError}
use Rattle.toml.specs.Data.{Members}
use Rattle.toml.specs.Parse.{parse_document}
use Rattle.cbsrun_toml_tables.specs.declared.fault.FileFault.{FileFault}
use Rattle.cbsrun_faults.specs.Documents.{IsDocument, servers_of}
use Rattle.cbsrun_faults.specs.declared.document.Document.{Document}
use Rattle.cbsrun_refusal_texts.specs.Pages.{PageText}
use Rattle.cbsrun_refusal_texts.specs.Refusals.{AppendsRefusal, IsNotRefusedAt, TellsRefusal}
use Rattle.cbsrun_fault_texts.specs.Explanations.{AppendsWhy, IsServerLine, TellsWhy, ExplainsRefusal}

-- the top table that was read
pub same_top : (a b : Members) → Some a ≡ Some b → a ≡ b
same_top a b e = cc

-- what was appended to an empty page is the text
told_why : (file : List ℕ) (top : Members) (fault : FileFault) (old new : PageText) (text : List ℕ) → old.text ≡ [] → new.failed ≡ false → text ≡ new.text
    → AppendsWhy file top fault old new → TellsWhy file top fault text
told_why file top fault old new text empty free is appended = λ server kind place. by server (appended server kind place)
  where
    by : (server : ℕ) → AppendsRefusal (IsServerLine file top server) top (servers_of top) server old new
        → IsNotRefusedAt top (servers_of top) server ⊎ TellsRefusal (IsServerLine file top server) top (servers_of top) server text
    by server (inl not) = inl not
    by server (inr appends) =
        let t = appends free in
        let e : text ≡ t.0 = is ∙ (t.3 ∙ ap (λ x. x ++ t.0) empty) in
        inr (rw e t.1)

-- .. about a document
pub explained_in : (document : Document) (fault : FileFault) (old new : PageText) (made : Result (String Global) AllocError) → old.text ≡ []
    → ((file : List ℕ) (top : Members) → IsDocument file top document → AppendsWhy file top fault old new)
    → IfOk made (λ text. (new.failed ≡ false) × (string_bytes text ≡ new.text))
    → IfOk made (λ text. (file : List ℕ) (top : Members) → IsDocument file top document → TellsWhy file top fault (string_bytes text))
explained_in document fault old new (Err e) empty appended finished = tt
explained_in document fault old new (Ok text) empty appended finished =
    λ file top is. told_why file top fault old new (string_bytes text) empty finished.0 finished.1 (appended file top is)

-- .. about bytes
pub explained : (file bytes : List ℕ) (fault : FileFault) (old new : PageText) (made : Result (String Global) AllocError) → old.text ≡ []
    → ((top : Members) → IsUtf8 bytes → parse_document bytes ≡ Some top → AppendsWhy file top fault old new)
    → IfOk made (λ text. (new.failed ≡ false) × (string_bytes text ≡ new.text)) → IfOk made (λ text. ExplainsRefusal file bytes fault (string_bytes text))
explained file bytes fault old new (Err e) empty appended finished = tt
explained file bytes fault old new (Ok text) empty appended finished =
    λ top utf8 read. told_why file top fault old new (string_bytes text) empty finished.0 finished.1 (appended top utf8 read)
