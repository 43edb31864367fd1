-- Texts that are appended.
use Rattle.std.proofs.Common.{◌≡◌, ◌∙◌, List, ℕ, ◌++◌, Result, Ok, Err}
use Rattle.std.specs.Prelude.{if◌then◌else◌}
use Rattle.std.specs.Result.{OnOk, is_ok}
use Rattle.std.specs.declared.alloc.AllocError.{AllocError}

-- what a text is after a last word is pushed
pub pushed : (r : Result (Unit {0}) AllocError) (new old word whole : List ℕ) → new ≡ (if is_ok r then old ++ word else old) → old ++ word ≡ whole
    → OnOk r (new ≡ whole)
pushed (Ok x) new old word whole e f = e ∙ f
pushed (Err x) new old word whole e f = tt

-- what a text is after a last part is appended
pub appended : (r : Result (Unit {0}) AllocError) (new old part whole : List ℕ) → OnOk r (new ≡ old ++ part) → old ++ part ≡ whole
    → OnOk r (new ≡ whole)
appended (Ok x) new old part whole e f = e ∙ f
appended (Err x) new old part whole e f = tt
