-- What is read of blocks that were written.
use Rattle.std.proofs.Common.{◌≡◌, ℕ, zero, suc, ◌+◌, ◌*◌, ◌/◌, ◌%◌, ◌^◌, ◌≤◌, ◌<◌, true, false, ltb, eqb, List, [], ◌∷◌, ◌++◌, length, take, drop, Result, Ok, Err, refl, ap, ◌∙◌, append_assoc, arith, le-ltb, eq-eqb, inl, inr, lit<}
use Rattle.std.specs.Prelude.{bit_and, bit_xor}
use Rattle.std.specs.Int.{w32, from_le_bytes, to_le_bytes}
use Rattle.std.proofs.lemmas.List.{take_at, drop_at, length-append}
use Rattle.std.proofs.lemmas.Bool.{cases_Bool}
use Rattle.std.proofs.lemmas.Nat.{from_le_bytes-to_le_bytes_4, div-add-mod', xor_of_32, and_le_r}
use Rattle.cbs_sums.specs.Sums.{shifted, shifts, share_of, updated, after, initial, sum_of}
use Rattle.cbs_sums.specs.Blocks.{check_of, framed, register_after, block, blocks, joined, length_of, length_at, rest_at, ◌>>=◌, block_at, tape_in, tape_after}
use Rattle.cbs_sums.specs.declared.reading.Stop.TheVariants.{Cut}
use Rattle.cbs_sums.specs.declared.reading.Stop.{Stop}
use Rattle.cbs_sums.proofs.Read.{step, stop}

-- bytes, and more after them
pub after-append : (r : ℕ) (xs ys : List ℕ) → after r (xs ++ ys) ≡ after (after r xs) ys
after-append r [] ys = refl
after-append r (x ∷ xs) ys = after-append (updated r x) xs ys

-- a length is read again
length_again : (n : ℕ) → length_of (n % 256) (n / 256 % 256) (n / 256 / 256) (check_of (n % 256) (n / 256 % 256) (n / 256 / 256)) ≡ Ok n
length_again n =
    let same = eq-eqb (check_of (n % 256) (n / 256 % 256) (n / 256 / 256)) _ refl in
    let number : n % 256 + 256 * (n / 256 % 256) + 65536 * (n / 256 / 256) ≡ n = omega (arith, div-add-mod' n 256, div-add-mod' (n / 256) 256) in
    rw (same, number) refl

-- a sum is read again
sum_read : (r : ℕ) (s rest : List ℕ) → length s ≡ 4 → from_le_bytes w32 s ≡ sum_of r → rest_at r (s ++ rest) ≡ Ok rest
sum_read r s rest len same =
    let long : ltb (length (s ++ rest)) 4 ≡ false = le-ltb _ _ (omega (arith, len, length-append s rest)) in
    let right : eqb (from_le_bytes w32 s) (sum_of r) ≡ true = eq-eqb _ _ same in
    rw (long, take_at s rest 4 len, drop_at s rest 4 len, right) refl

sum_again : (r : ℕ) (rest : List ℕ) → sum_of r < 2 ^ 32 → rest_at r (to_le_bytes w32 (sum_of r) ++ rest) ≡ Ok rest
sum_again r rest lt = sum_read r (to_le_bytes w32 (sum_of r)) rest refl (from_le_bytes-to_le_bytes_4 (sum_of r) lt)

-- registers have 32 bits
shifted_small : (c : ℕ) → c < 2 ^ 32 → shifted c < 2 ^ 32
shifted_small c lt =
    let half : c / 2 ^ 1 < 2 ^ 32 = omega arith in
    elim (cases_Bool (eqb (bit_and c 1) 1)) [
      | inl y ↦ rw y (xor_of_32 0xEDB88320 (c / 2 ^ 1) (lit< tt) half)
      | inr n ↦ rw n half
    ]

shifts_small : (n c : ℕ) → c < 2 ^ 32 → shifts n c < 2 ^ 32
shifts_small zero c lt = lt
shifts_small (suc n) c lt = shifts_small n (shifted c) (shifted_small c lt)

share_small : (b : ℕ) → b < 2 ^ 32 → share_of b < 2 ^ 32
unfolding share_of
share_small b lt = shifts_small 8 b lt

pub updated_small : (c b : ℕ) → c < 2 ^ 32 → updated c b < 2 ^ 32
updated_small c b lt =
    xor_of_32 (share_of (bit_and (bit_xor c b) 255)) (c / 2 ^ 8) (share_small (bit_and (bit_xor c b) 255) (omega (arith, and_le_r (bit_xor c b) 255))) (omega arith)

pub after_small : (r : ℕ) (xs : List ℕ) → r < 2 ^ 32 → after r xs < 2 ^ 32
after_small r [] lt = lt
after_small r (x ∷ xs) lt = after_small (updated r x) xs (updated_small r x lt)

pub frame_length : (c : List ℕ) → length (framed c) ≡ length c + 4
frame_length c = omega arith

pub length_is : (c more : List ℕ) → length_at (framed c ++ more) ≡ Ok (length c)
length_is c more =
    let long : ltb (length (framed c ++ more)) 4 ≡ false = le-ltb _ _ (omega (arith, length-append (framed c) more, frame_length c)) in
    rw long (length_again (length c))

-- a block is read by its parts
pub parts_read : (r : ℕ) (f c more : List ℕ) → length f ≡ length c + 4 → drop 4 f ≡ c → length_at (f ++ more) ≡ Ok (length c)
    → block_at r (f ++ more) ≡ rest_at (after r f) more >>= λ rest. Ok (record { content = c; register = after r f; rest = rest })
unfolding block_at
parts_read r f c more len content is =
    let long : ltb (length (f ++ more)) (length c + 4) ≡ false = le-ltb _ _ (omega (arith, len, length-append f more)) in
    rw (is, long, take_at f more (length c + 4) len, drop_at f more (length c + 4) len, content) refl

pub frame_read : (r : ℕ) (c more : List ℕ)
    → block_at r (framed c ++ more) ≡ rest_at (register_after r c) more >>= λ rest. Ok (record { content = c; register = register_after r c; rest = rest })
frame_read r c more = parts_read r (framed c) c more (frame_length c) refl (length_is c more)

-- a block is read again
pub block_again : (r : ℕ) (c rest : List ℕ) → r < 2 ^ 32 → block_at r (block r c ++ rest) ≡ Ok (record { content = c; register = register_after r c; rest = rest })
block_again r c rest small =
    let sum : ℕ = sum_of (register_after r c) in
    let more : List ℕ = to_le_bytes w32 sum ++ rest in
    let fits : sum < 2 ^ 32 = xor_of_32 (register_after r c) 0xFFFFFFFF (after_small r (framed c) small) (lit< tt) in
    ap (λ (xs : List ℕ). block_at r xs) (append_assoc (framed c) (to_le_bytes w32 sum) rest) ∙ frame_read r c more
    ∙ ap (λ (x : Result (List ℕ) Stop). x >>= λ rest. Ok (record { content = c; register = register_after r c; rest = rest })) (sum_again (register_after r c) rest fits)

none_at : (r : ℕ) → block_at r [] ≡ Err Cut
unfolding block_at
none_at r = refl

-- blocks are read again
blocks_again : (cs : List (List ℕ)) (r n : ℕ) → r < 2 ^ 32 → length (blocks r cs) ≤ n → tape_in n r (blocks r cs) ≡ joined cs
unfolding tape_in
blocks_again [] r zero small le = refl
blocks_again [] r (suc n) small le = stop n r [] Cut (none_at r)
blocks_again (c ∷ cs) r zero small le = absurd (omega (arith, le, length-append (block r c) (blocks (register_after r c) cs), length-append (framed c) (to_le_bytes w32 (sum_of (register_after r c))), frame_length c))
blocks_again (c ∷ cs) r (suc n) small le =
    let next : ℕ = register_after r c in
    let fewer : length (blocks next cs) ≤ n =
    omega (arith, le, length-append (block r c) (blocks next cs), length-append (framed c) (to_le_bytes w32 (sum_of next)), frame_length c) in
    step n r (block r c ++ blocks next cs) (record { content = c; register = next; rest = blocks next cs }) (block_again r c (blocks next cs) small)
    ∙ ap (λ (xs : List ℕ). c ++ xs) (blocks_again cs next n (after_small r (framed c) small) fewer)

pub all_again : (before : List ℕ) (cs : List (List ℕ)) → tape_after before (blocks (after initial before) cs) ≡ joined cs
all_again before cs =
    blocks_again cs (after initial before) (length (blocks (after initial before) cs)) (after_small initial before (lit< tt)) (omega arith)
