-- A list with a free slot among its elements.
use Rattle.std.proofs.Common.{◌≡◌, ℕ, zero, suc, ◌+◌, ◌-◌, ◌<◌, ◌≤◌, List, [], ◌∷◌, ◌++◌, length, drop, take, get_or, set, refl, ap, arith}
use Rattle.std.proofs.lemmas.List.Edits.{get_or-insert_below}
use Rattle.std.specs.List.{insert, copy_within}

module _ {X : Type 0} where
  -- a list is the list without its last element, and that element after it
  pub last_behind : (xs : List X) → 0 < length xs → (free : X) × (xs ≡ insert (take (length xs - 1) xs) (length xs - 1) free)
  last_behind [] some = absurd (omega arith)
  last_behind (x ∷ []) some = (x, refl)
  last_behind (x ∷ y ∷ ys) some =
      let h = last_behind (y ∷ ys) (omega arith) in
      let n : suc (suc (length ys)) - 1 ≡ suc (suc (length ys) - 1) = omega arith in
      (h.0, rw n (ap (λ zs. x ∷ zs) h.1))

  -- an element is written into the free slot
  pub written_free : (xs : List X) (n : ℕ) (free x : X) → n ≤ length xs → set (insert xs n free) n x ≡ insert xs n x
  written_free xs zero free x le = refl
  written_free [] (suc n) free x le = absurd (omega arith)
  written_free (y ∷ ys) (suc n) free x le = ap (λ zs. y ∷ zs) (written_free ys n free x (omega arith))

  -- one element moves up into the free slot, and leaves its own free
  one_moved : (xs : List X) (n : ℕ) (free d : X) → n < length xs → set (insert xs (suc n) free) (suc n) (get_or xs n d) ≡ insert xs n (get_or xs n d)
  one_moved [] n free d lt = absurd (omega arith)
  one_moved (x ∷ xs) zero free d lt = refl
  one_moved (x ∷ xs) (suc n) free d lt = ap (λ zs. x ∷ zs) (one_moved xs n free d (omega arith))

  -- the same of slots with a free one at a place
  pub moved_down : (xs slots : List X) (n place : ℕ) (free d : X) → place ≡ suc n → place ≤ length xs → slots ≡ insert xs place free
      → set slots place (get_or slots n d) ≡ insert xs n (get_or xs n d)
  moved_down xs slots n place free d next within is =
      rw (is, next, get_or-insert_below xs (suc n) free d n (omega arith) (omega arith)) (one_moved xs n free d (omega arith))

  -- four elements move up over the free slot, and leave that of their first free
  four_moved : (xs : List X) (n : ℕ) (free d : X) → n + 4 ≤ length xs
      → take (n + 1) (insert xs (n + 4) free) ++ take 4 (drop n (insert xs (n + 4) free)) ++ drop (n + 5) (insert xs (n + 4) free) ≡ insert xs n (get_or xs n d)
  four_moved [] n free d le = absurd (omega arith)
  four_moved (a ∷ []) zero free d le = absurd (omega arith)
  four_moved (a ∷ b ∷ []) zero free d le = absurd (omega arith)
  four_moved (a ∷ b ∷ c ∷ []) zero free d le = absurd (omega arith)
  four_moved (a ∷ b ∷ c ∷ e ∷ xs) zero free d le = refl
  four_moved (x ∷ xs) (suc n) free d le =
      let one : suc n + 1 ≡ suc (n + 1) = omega arith in
      let four : suc n + 4 ≡ suc (n + 4) = omega arith in
      let five : suc n + 5 ≡ suc (n + 5) = omega arith in
      rw (one, four, five) (ap (λ zs. x ∷ zs) (four_moved xs n free d (omega arith)))

  -- the same of slots with a free one at a place
  pub far_moved : (xs slots : List X) (n place : ℕ) (free d : X) → place ≡ n + 4 → place ≤ length xs → slots ≡ insert xs place free
      → copy_within slots n place (place - 3) ≡ insert xs n (get_or xs n d)
  far_moved xs slots n place free d four within is =
      let one : place - 3 ≡ n + 1 = omega arith in
      let many : place - n ≡ 4 = omega arith in
      let five : n + 1 + 4 ≡ n + 5 = omega arith in
      rw (is, one, many, five, four) (four_moved xs n free d (omega arith))
