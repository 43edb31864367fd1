-- How the result of a reader relates to what the grammar gives.
use Rattle.std.specs.Prelude.{◌≡◌, ℕ, ◌<◌, List, length, Option, Some, None, Result, MatchResult, IfOk}
use Rattle.std.specs.Borrow.{Bor}
use Rattle.toml_parser.specs.Lexical.{Read}
use Rattle.toml_parser.specs.declared.error.ParseError.{ParseError}
use Rattle.toml_parser.specs.declared.error.ParseError.TheVariants as error
use Rattle.cbsrun_toml_tokens.specs.declared.stop.Stop.{Stop}
use Rattle.cbsrun_toml_tokens.specs.declared.stop.Stop.TheVariants.{NotToml, OutOfMemory}

-- why reading stops at an error of the tokens
abbrev pub stop_of : ParseError → Stop
stop_of error.OutOfMemory = OutOfMemory
stop_of (error.At _ _ _) = NotToml

-- a successful result is what the grammar gives, seen through f. The stop NotToml means that the grammar refuses; other
-- stops say nothing
abbrev pub Gives : {A B : Type 0} → (A → B) → Result A Stop → Option B → Type 0
Gives f r expected = MatchResult r (λ a. expected ≡ Some (f a)) (λ e. e ≡ NotToml → expected ≡ None)

-- the same for a value and the text after it
abbrev pub Reads : {A B : Type 0} → (A → B) → Result (A × Bor (List ℕ)) Stop → Read B → Type 0
Reads f r expected = Gives (λ p. (f p.0, p.1.now)) r expected

-- after a success, less text is left than before
abbrev pub Shortens : {A : Type 0} → List ℕ → Result (A × Bor (List ℕ)) Stop → Type 0
Shortens text r = IfOk r (λ p. length p.1.now < length text)
