-- Errors that a `?` passes on.
use Rattle.std.proofs.Common.{◌≡◌, Option, None, Result, Ok, Err, sym, ◌∙◌}
use Rattle.std.specs.Result.{IsErrAnd}
use Rattle.toml.specs.Data.{Members}
use Rattle.cbsrun_toml_tokens.specs.declared.stop.Stop.{Stop}
use Rattle.cbsrun_toml_tokens.specs.declared.stop.Stop.TheVariants.{NotToml}
use Rattle.cbsrun_tasks.specs.declared.stream.Document.{Document as Doc}
use Rattle.cbsrun_tasks.specs.Streams.{ReadsDocument}

-- an error that a `?` passes on
pub document_err : (r : Result Doc Stop) (expected : Option Members) (e : Stop) (Q : Stop → Type 0)
    → IsErrAnd r Q → ((y : Stop) → Q y → y ≡ e) → (e ≡ NotToml → expected ≡ None) → ReadsDocument r expected
document_err (Ok a) expected e Q h same refused = absurd h
document_err (Err y) expected e Q h same refused = λ n. refused (sym (same y h) ∙ n)
