-- Lists that are the same at each place, and plans.
use Rattle.std.proofs.Common.{◌≡◌, ◌∙◌, ℕ, ◌<◌, List, Option, length, ap, sym}
use Rattle.std.specs.Prelude.{slice_get, unwrap_or}
use Rattle.std.proofs.lemmas.List.{ext_get_or}
use Rattle.cbs_rate.specs.Bound.{Fraction}
use Rattle.cbs_rate.specs.Plan.{Planned}
use Rattle.cbs_rate.specs.Rate.{Rate}
use Rattle.std.proofs.lemmas.Option.{unwrap_or-slice_get}

-- two lists of the same length are the same if they are at each place
pub same_at_each : {A : Type 0} (d : A) (xs ys : List A) → length xs ≡ length ys → ((i : ℕ) → i < length xs → slice_get xs i ≡ slice_get ys i) → xs ≡ ys
same_at_each {A} d xs ys count same =
    ext_get_or d xs ys count (λ i lt. sym (unwrap_or-slice_get xs i d) ∙ ap (λ (o : Option A). unwrap_or o d) (same i lt) ∙ unwrap_or-slice_get ys i d)

-- a plan is its bound and its reservations
pub same_plan : (p q : Planned) → p.bound ≡ q.bound → p.rates ≡ q.rates → p ≡ q
same_plan p q bound rates =
    ap (λ (b : Fraction). record { bound = b; rates = p.rates }) bound ∙ ap (λ (rs : List Rate). record { bound = q.bound; rates = rs }) rates
