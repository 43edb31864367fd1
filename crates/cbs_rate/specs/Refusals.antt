-- The result of a call that may refuse, by the refusal that applies, if there is one.
use Rattle.std.specs.Prelude.{◌≡◌, ◌⊎◌, Option, Some, None, Result}
use Rattle.std.specs.Result.{MatchResult}

-- the call succeeds with this value exactly if no refusal applies; otherwise it refuses by the one that applies
abbrev pub AnswersBy : {T E : Type 0} → Result T E → Option E → T → Type 0
AnswersBy r refusal value = MatchResult r (λ x. (refusal ≡ None) × (x ≡ value)) (λ e. refusal ≡ Some e)

-- the call succeeds exactly if no refusal applies; otherwise it refuses by the one that applies and hands something
-- back
abbrev pub HandsBackBy : {T R E : Type 0} → (R → E) → Result T R → Option E → Type 0
HandsBackBy error r refusal = MatchResult r (λ _. refusal ≡ None) (λ back. refusal ≡ Some (error back))

-- the call refuses by the refusal that applies; if none applies, it succeeds or is out of memory
abbrev pub RefusesByOrMemory : {T E : Type 0} → E → Result T E → Option E → Type 0
RefusesByOrMemory memory r refusal = MatchResult r (λ _. refusal ≡ None) (λ e. (refusal ≡ Some e) ⊎ ((refusal ≡ None) × (e ≡ memory)))

-- the same of a call that hands something back with its error
abbrev pub HandsBackByOrMemory : {T R E : Type 0} → (R → E) → E → Result T R → Option E → Type 0
HandsBackByOrMemory error memory r refusal =
    MatchResult r (λ _. refusal ≡ None) (λ back. (refusal ≡ Some (error back)) ⊎ ((refusal ≡ None) × (error back ≡ memory)))
