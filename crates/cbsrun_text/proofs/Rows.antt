-- Rows of cells, cell by cell, for the crates that make them.
use Rattle.std.proofs.Common.{◌≡◌, List, ◌∷◌, Result, IfOk, refl}
use Rattle.std.specs.Prelude.{Vec}
use Rattle.std.specs.declared.alloc.AllocError.{AllocError}
use Rattle.cbsrun_text.specs.Columns.{CellText}

-- two rows are equal if their first cells are, and all others
pub consed : {A : Type 0} {x y : A} {xs ys : List A} → x ≡ y → xs ≡ ys → x ∷ xs ≡ y ∷ ys
consed e f = rw (e, f) refl

-- a row whose cells are these is the row of the same cells
pub row_is : {A : Type 0} (r : Result (Vec CellText A) AllocError) (xs ys : List CellText) → IfOk r (λ row. row.items ≡ xs) → xs ≡ ys
    → IfOk r (λ row. row.items ≡ ys)
row_is r xs ys ok e = rw (← e) ok
