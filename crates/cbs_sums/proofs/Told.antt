-- What is read of blocks if a byte was changed, in one of them or before them.
use Rattle.std.proofs.Common.{◌≡◌, ℕ, zero, suc, ◌+◌, ◌^◌, ◌≤◌, ◌<◌, ◌≢◌, false, ltb, eqb, List, [], ◌∷◌, ◌++◌, length, take, Result, Ok, Err, refl, sym, ap, ◌∙◌, append_assoc, arith, le-ltb, ne_eqb, lit<}
use Rattle.std.specs.Int.{w32, from_le_bytes, to_le_bytes}
use Rattle.std.proofs.lemmas.List.{take_at, length-append}
use Rattle.std.proofs.lemmas.Nat.{from_le_bytes-to_le_bytes_4, xor_of_32}
use Rattle.cbs_sums.specs.Sums.{after, initial, sum_of}
use Rattle.cbs_sums.specs.Blocks.{framed, length_bytes, register_after, register_of, block, blocks, changed_block, joined, rest_at, ◌>>=◌, block_at, tape_in, tape_after}
use Rattle.cbs_sums.specs.declared.reading.Stop.{Stop}
use Rattle.cbs_sums.specs.declared.reading.Stop.TheVariants.{Wrong}
use Rattle.cbs_sums.proofs.Read.{step, stop}
use Rattle.cbs_sums.proofs.Written.{after-append, after_small, block_again, frame_length, frame_read}
use Rattle.cbs_sums.proofs.Changes.{changed}

sum_small : (r : ℕ) → r < 2 ^ 32 → sum_of r < 2 ^ 32
sum_small r small = xor_of_32 r 0xFFFFFFFF small (lit< tt)

-- another sum is told
other_read : (r : ℕ) (s rest : List ℕ) → length s ≡ 4 → from_le_bytes w32 s ≢ sum_of r → rest_at r (s ++ rest) ≡ Err Wrong
other_read r s rest len other =
    let long : ltb (length (s ++ rest)) 4 ≡ false = le-ltb _ _ (omega (arith, len, length-append s rest)) in
    let differ : eqb (from_le_bytes w32 s) (sum_of r) ≡ false = ne_eqb _ _ other in
    rw (long, take_at s rest 4 len, differ) refl

sum_wrong : (r s : ℕ) (rest : List ℕ) → s < 2 ^ 32 → s ≢ sum_of r → rest_at r (to_le_bytes w32 s ++ rest) ≡ Err Wrong
sum_wrong r s rest small other =
    other_read r (to_le_bytes w32 s) rest refl (λ e. other (sym (from_le_bytes-to_le_bytes_4 s small) ∙ e))

-- bytes with their length before them, and after them another sum than theirs
wrong_at : (r s : ℕ) (c rest : List ℕ) → s < 2 ^ 32 → s ≢ sum_of (register_after r c) → block_at r (framed c ++ (to_le_bytes w32 s ++ rest)) ≡ Err Wrong
wrong_at r s c rest small other =
    frame_read r c (to_le_bytes w32 s ++ rest)
    ∙ ap (λ (x : Result (List ℕ) Stop). x >>= λ rest. Ok (record { content = c; register = register_after r c; rest = rest })) (sum_wrong (register_after r c) s rest small other)

stops : (n r : ℕ) (bytes : List ℕ) → 0 < n → block_at r bytes ≡ Err Wrong → tape_in n r bytes ≡ 8 ∷ []
stops zero r bytes some e = absurd (omega arith)
stops (suc n) r bytes some e = stop n r bytes Wrong e

same_length : (front : List ℕ) (byte other : ℕ) (back : List ℕ) → length (front ++ byte ∷ back) ≡ length (front ++ other ∷ back)
same_length front byte other back = omega (arith, length-append front (byte ∷ back), length-append front (other ∷ back))

-- a block in which a byte was changed
changed_at : (r : ℕ) (front : List ℕ) (byte other : ℕ) (back rest : List ℕ) → r < 2 ^ 32 → byte < 256 → other < 256 → byte ≢ other
    → block_at r (changed_block r (front ++ byte ∷ back) (front ++ other ∷ back) ++ rest) ≡ Err Wrong
changed_at r front byte other back rest small small_byte small_other differ =
    let had : List ℕ = front ++ byte ∷ back in
    let has : List ℕ = front ++ other ∷ back in
    let s : ℕ = sum_of (register_after r had) in
    let same : length had ≡ length has = same_length front byte other back in
    let is : changed_block r had has ++ rest ≡ framed has ++ (to_le_bytes w32 s ++ rest) =
    ap (λ (n : ℕ). (length_bytes n ++ has ++ to_le_bytes w32 s) ++ rest) same ∙ append_assoc (framed has) (to_le_bytes w32 s) rest in
    let other_sum : s ≢ sum_of (register_after r has) = λ e.
    differ (changed r (length_bytes (length had) ++ front) byte other back small small_byte small_other
    (e ∙ ap (λ (n : ℕ). sum_of (after r (length_bytes n ++ has))) (sym same))) in
    rw is (wrong_at r s has rest (sum_small (register_after r had) (after_small r (framed had) small)) other_sum)

told_after : (cs : List (List ℕ)) (r n : ℕ) (front : List ℕ) (byte other : ℕ) (back rest : List ℕ) → r < 2 ^ 32 → byte < 256 → other < 256 → byte ≢ other
    → length (blocks r cs ++ (changed_block (register_of r cs) (front ++ byte ∷ back) (front ++ other ∷ back) ++ rest)) ≤ n
    → tape_in n r (blocks r cs ++ (changed_block (register_of r cs) (front ++ byte ∷ back) (front ++ other ∷ back) ++ rest)) ≡ joined cs ++ 8 ∷ []
told_after [] r n front byte other back rest small small_byte small_other differ le =
    stops n r (changed_block r (front ++ byte ∷ back) (front ++ other ∷ back) ++ rest) (omega (arith, le))
    (changed_at r front byte other back rest small small_byte small_other differ)
told_after (c ∷ cs) r zero front byte other back rest small small_byte small_other differ le = absurd (omega (arith, le))
told_after (c ∷ cs) r (suc n) front byte other back rest small small_byte small_other differ le =
    let next : ℕ = register_after r c in
    let tail : List ℕ = changed_block (register_of next cs) (front ++ byte ∷ back) (front ++ other ∷ back) ++ rest in
    let others : List ℕ = blocks next cs ++ tail in
    let is : (block r c ++ blocks next cs) ++ tail ≡ block r c ++ others = append_assoc (block r c) (blocks next cs) tail in
    let fewer : length others ≤ n =
    omega (
      arith,
      le,
      length-append (block r c ++ blocks next cs) tail,
      length-append (block r c) (blocks next cs),
      length-append (blocks next cs) tail,
      length-append (framed c) (to_le_bytes w32 (sum_of next)),
      frame_length c,
    ) in
    rw is (step n r (block r c ++ others) (record { content = c; register = next; rest = others }) (block_again r c others small)
    ∙ ap (λ (xs : List ℕ). c ++ xs) (told_after cs next n front byte other back rest (after_small r (framed c) small) small_byte small_other differ fewer)
    ∙ sym (append_assoc c (joined cs) (8 ∷ [])))

pub tape_told : (before : List ℕ) (cs : List (List ℕ)) (front : List ℕ) (byte other : ℕ) (back rest : List ℕ) → byte < 256 → other < 256 → byte ≢ other
    → tape_after before (blocks (after initial before) cs ++ (changed_block (register_of (after initial before) cs) (front ++ byte ∷ back) (front ++ other ∷ back) ++ rest))
    ≡ joined cs ++ 8 ∷ []
tape_told before cs front byte other back rest small_byte small_other differ =
    told_after cs (after initial before) (length (blocks (after initial before) cs ++ (changed_block (register_of (after initial before) cs) (front ++ byte ∷ back) (front ++ other ∷ back) ++ rest))) front byte other back rest (after_small initial before (lit< tt)) small_byte small_other differ (omega arith)

-- the register after a text and a block
text_register : (front : List ℕ) (b : ℕ) (back c : List ℕ) → register_after (after initial (front ++ b ∷ back)) c ≡ after initial (front ++ b ∷ (back ++ framed c))
text_register front b back c =
    sym (after-append initial (front ++ b ∷ back) (framed c)) ∙ ap (λ (xs : List ℕ). after initial xs) (append_assoc front (b ∷ back) (framed c))

pub text_told : (front : List ℕ) (byte other : ℕ) (back c rest : List ℕ) → byte < 256 → other < 256 → byte ≢ other
    → tape_after (front ++ other ∷ back) (block (after initial (front ++ byte ∷ back)) c ++ rest) ≡ 8 ∷ []
text_told front byte other back c rest small_byte small_other differ =
    let had : ℕ = after initial (front ++ byte ∷ back) in
    let has : ℕ = after initial (front ++ other ∷ back) in
    let s : ℕ = sum_of (register_after had c) in
    let small : had < 2 ^ 32 = after_small initial (front ++ byte ∷ back) (lit< tt) in
    let other_sum : s ≢ sum_of (register_after has c) = λ e.
    differ (changed initial front byte other (back ++ framed c) (lit< tt) small_byte small_other
    (ap sum_of (sym (text_register front byte back c)) ∙ e ∙ ap sum_of (text_register front other back c))) in
    stops (length (block had c ++ rest)) has (block had c ++ rest) (omega arith)
    (rw (append_assoc (framed c) (to_le_bytes w32 s) rest) (wrong_at has s c rest (sum_small (register_after had c) (after_small had (framed c) small)) other_sum))
