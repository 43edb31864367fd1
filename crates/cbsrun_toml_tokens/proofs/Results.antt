-- Errors that a `?` passes on.
use Rattle.std.proofs.Common.{◌≡◌, Option, None, Result, Ok, Err, sym, ◌∙◌}
use Rattle.std.specs.Prelude.{MatchResult}
use Rattle.std.specs.Result.{IsErrAnd}
use Rattle.cbsrun_toml_tokens.specs.declared.stop.Stop.{Stop}
use Rattle.cbsrun_toml_tokens.specs.declared.stop.Stop.TheVariants.{NotToml}
use Rattle.cbsrun_toml_tokens.specs.Tokens.{Gives}

-- an error that is handed on says what it said
pub gives_err : {A B : Type 0} (f : A → B) (r : Result A Stop) (expected : Option B) (e : Stop) (Q : Stop → Type 0)
    → IsErrAnd r Q → ((y : Stop) → Q y → y ≡ e) → (e ≡ NotToml → expected ≡ None) → Gives f r expected
gives_err f (Ok a) expected e Q h same refused = absurd h
gives_err f (Err y) expected e Q h same refused = λ n. refused (sym (same y h) ∙ n)

-- the same, whatever holds for a value
pub stops_by : {A : Type 0} (P : A → Type 0) (N : Type 0) (r : Result A Stop) (e : Stop) (Q : Stop → Type 0)
    → IsErrAnd r Q → ((y : Stop) → Q y → y ≡ e) → (e ≡ NotToml → N) → MatchResult r P (λ y. y ≡ NotToml → N)
stops_by P N (Ok a) e Q h same refused = absurd h
stops_by P N (Err y) e Q h same refused = λ n. refused (sym (same y h) ∙ n)
