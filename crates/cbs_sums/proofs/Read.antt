-- What is read of blocks, one after another.
use Rattle.std.proofs.Common.{◌≡◌, ℕ, suc, List, [], ◌∷◌, ◌++◌, Ok, Err, ap, sym, ◌∙◌, append_assoc, refl}
use Rattle.std.proofs.lemmas.List.{append-nil}
use Rattle.cbs_sums.specs.Blocks.{Block, block_at, stopped, tape_in}
use Rattle.cbs_sums.specs.declared.reading.Stop.{Stop}

pub step : (n r : ℕ) (bytes : List ℕ) (b : Block) → block_at r bytes ≡ Ok b → tape_in (suc n) r bytes ≡ b.content ++ tape_in n b.register b.rest
unfolding tape_in
step n r bytes b e = rw (e, tape_in) refl

pub stop : (n r : ℕ) (bytes : List ℕ) (s : Stop) → block_at r bytes ≡ Err s → tape_in (suc n) r bytes ≡ stopped s
unfolding tape_in
stop n r bytes s e = rw (e, tape_in) refl

-- one more block
pub one_more : (so_far : List ℕ) (n r : ℕ) (bytes : List ℕ) (b : Block) (all : List ℕ) → block_at r bytes ≡ Ok b
    → so_far ++ tape_in (suc n) r bytes ≡ all → (so_far ++ b.content) ++ tape_in n b.register b.rest ≡ all
one_more so_far n r bytes b all e h =
    append_assoc so_far b.content (tape_in n b.register b.rest) ∙ ap (λ (xs : List ℕ). so_far ++ xs) (sym (step n r bytes b e)) ∙ h

-- no block
pub no_more : (so_far : List ℕ) (n r : ℕ) (bytes : List ℕ) (s : Stop) (all : List ℕ) → block_at r bytes ≡ Err s
    → so_far ++ tape_in (suc n) r bytes ≡ all → so_far ++ stopped s ≡ all
no_more so_far n r bytes s all e h = ap (λ (xs : List ℕ). so_far ++ xs) (sym (stop n r bytes s e)) ∙ h

-- as many blocks as there are bytes
pub at_last : (so_far : List ℕ) (n r : ℕ) (bytes all : List ℕ) → n ≡ 0 → so_far ++ tape_in n r bytes ≡ all → so_far ≡ all
unfolding tape_in
at_last so_far n r bytes all none h = sym (append-nil so_far) ∙ (rw none at h)
