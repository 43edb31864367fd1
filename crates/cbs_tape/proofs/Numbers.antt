-- A number that was written is read again; one that was cut is told to be cut.
use Rattle.std.proofs.Common.{◌≡◌, ℕ, zero, suc, ◌+◌, ◌^◌, ◌<◌, true, false, ltb, List, [], ◌∷◌, ◌++◌, length, take, Ok, Err, refl, arith, inl, inr}
use Rattle.std.specs.Int.{Width, w16, w32, w64, byte_len, from_le_bytes, to_le_bytes}
use Rattle.std.proofs.lemmas.Bool.{cases_lt, lt-ltb, le-ltb}
use Rattle.std.proofs.lemmas.List.{take_at, drop_at, length-append, length-take}
use Rattle.std.proofs.lemmas.Nat.{from_le_bytes-to_le_bytes_2, from_le_bytes-to_le_bytes_4, from_le_bytes-to_le_bytes_8}
use Rattle.cbs_tape.specs.declared.entry.Ending.TheVariants.{Cut}
use Rattle.cbs_tape.specs.Spelling.{number}
use Rattle.cbs_tape.specs.Reading.{le_at, number_at}

pub record IsWide (w : Width) (limit : ℕ) : Type 0 where
  pub len : (n : ℕ) → length (to_le_bytes w n) ≡ byte_len w
  pub again : (n : ℕ) → n < limit → from_le_bytes w (to_le_bytes w n) ≡ n

wide16 : IsWide w16 (2 ^ 16)
wide16 = record { len = λ n. refl; again = λ n lt. from_le_bytes-to_le_bytes_2 n lt }

wide32 : IsWide w32 (2 ^ 32)
wide32 = record { len = λ n. refl; again = λ n lt. from_le_bytes-to_le_bytes_4 n lt }

wide64 : IsWide w64 (2 ^ 64)
wide64 = record { len = λ n. refl; again = λ n lt. from_le_bytes-to_le_bytes_8 n lt }

le_again : (w : Width) (limit : ℕ) (wide : IsWide w limit) (n : ℕ) (rest : List ℕ) → n < limit → le_at w (to_le_bytes w n ++ rest) ≡ Ok (n, rest)
le_again w limit wide n rest lt =
    let len = wide.len n in
    let long : ltb (length (to_le_bytes w n ++ rest)) (byte_len w) ≡ false = le-ltb _ _ (omega (arith, length-append (to_le_bytes w n) rest)) in
    rw (long, take_at (to_le_bytes w n) rest (byte_len w) len, drop_at (to_le_bytes w n) rest (byte_len w) len, wide.again n lt) refl

le_cut : (w : Width) (bytes : List ℕ) (k : ℕ) → k < byte_len w → le_at w (take k bytes) ≡ Err Cut
le_cut w bytes k lt =
    let short : ltb (length (take k bytes)) (byte_len w) ≡ true = lt-ltb _ _ (omega (arith, length-take k bytes)) in
    rw short refl

pub number_again : (n : ℕ) (rest : List ℕ) → n < 2 ^ 64 → number_at (number n ++ rest) ≡ Ok (n, rest)
number_again n rest lt =
    elim (cases_lt n 253) [
      | inl a ↦ rw (lt-ltb n 253 a, lt-ltb n 253 a) refl
      | inr a ↦ elim (cases_lt n (2 ^ 16)) [
        | inl b ↦ rw (le-ltb n 253 a, lt-ltb n (2 ^ 16) b) (le_again w16 (2 ^ 16) wide16 n rest (omega (arith, b)))
        | inr b ↦ elim (cases_lt n (2 ^ 32)) [
          | inl d ↦ rw (le-ltb n 253 a, le-ltb n (2 ^ 16) b, lt-ltb n (2 ^ 32) d) (le_again w32 (2 ^ 32) wide32 n rest (omega (arith, d)))
          | inr d ↦ rw (le-ltb n 253 a, le-ltb n (2 ^ 16) b, le-ltb n (2 ^ 32) d) (le_again w64 (2 ^ 64) wide64 n rest lt)
        ]
      ]
    ]

after_mark : (w : Width) (mark : ℕ) (bytes : List ℕ) (k : ℕ) → ((j : ℕ) → number_at (mark ∷ take j bytes) ≡ le_at w (take j bytes)) → k < byte_len w + 1 → number_at (take k (mark ∷ bytes)) ≡ Err Cut
after_mark w mark bytes zero h lt = refl
after_mark w mark bytes (suc k) h lt = rw (h k) (le_cut w bytes k (omega arith))

only_byte : (b k : ℕ) → k < 1 → number_at (take k (b ∷ [])) ≡ Err Cut
only_byte b zero lt = refl
only_byte b (suc k) lt = absurd (omega arith)

pub number_cut : (n k : ℕ) → k < length (number n) → number_at (take k (number n)) ≡ Err Cut
number_cut n k lt =
    elim (cases_lt n 253) [
      | inl a ↦ let e = lt-ltb n 253 a in rw e (only_byte n k (rw e at lt))
      | inr a ↦ elim (cases_lt n (2 ^ 16)) [
        | inl b ↦ let p = le-ltb n 253 a in let q = lt-ltb n (2 ^ 16) b in rw (p, q) (after_mark w16 253 (to_le_bytes w16 n) k (λ j. refl) (rw (p, q) at lt))
        | inr b ↦ elim (cases_lt n (2 ^ 32)) [
          | inl d ↦ let p = le-ltb n 253 a in let q = le-ltb n (2 ^ 16) b in let r = lt-ltb n (2 ^ 32) d in rw (p, q, r) (after_mark w32 254 (to_le_bytes w32 n) k (λ j. refl) (rw (p, q, r) at lt))
          | inr d ↦ let p = le-ltb n 253 a in let q = le-ltb n (2 ^ 16) b in let r = le-ltb n (2 ^ 32) d in rw (p, q, r) (after_mark w64 255 (to_le_bytes w64 n) k (λ j. refl) (rw (p, q, r) at lt))
        ]
      ]
    ]
