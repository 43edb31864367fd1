-- One server more, and the widest name.
use Rattle.std.proofs.Common.{◌≡◌, ◌∙◌, ℕ, ◌+◌, ◌<◌, List, length, take, refl, ap, string_bytes}
use Rattle.std.specs.Prelude.{get_or, max}
use Rattle.std.proofs.lemmas.List.{take_more}
use Rattle.std.proofs.lemmas.List.Recursion.{max_push}
use Rattle.cbsrun_chart.specs.declared.picture.Drawn.{Drawn}
use Rattle.cbsrun_timeline.specs.Signs.{width_of}

-- the widest of the first names, with the next one
pub width_next : (ds : List Drawn) (i : ℕ) (d : Drawn) → i < length ds
    → width_of (take (i + 1) ds) ≡ max (width_of (take i ds)) (length (string_bytes (get_or ds i d).name))
width_next ds i d lt =
    ap width_of (take_more ds i d lt)
    ∙ max_push width_of (λ (x : Drawn). length (string_bytes x.name)) refl (λ _ _. refl) (take i ds) (get_or ds i d)
