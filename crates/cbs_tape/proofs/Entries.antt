-- An entry that was written is read again; one that was cut is told to be cut.
use Rattle.std.proofs.Common.{◌≡◌, ℕ, zero, suc, ◌+◌, ◌-◌, ◌^◌, ◌<◌, List, [], ◌∷◌, ◌++◌, length, take, Ok, Err, refl, arith, inl, inr}
use Rattle.std.proofs.lemmas.Bool.{cases_lt, lt-ltb, le-ltb, le-leb, lt-leb, ne_eqb}
use Rattle.cbs_tape.specs.declared.entry.Entry.{Entry}
use Rattle.cbs_tape.specs.declared.entry.Entry.TheVariants.{Accepted, Units, Advanced, Charged, Closed}
use Rattle.cbs_tape.specs.declared.entry.Ending.TheVariants.{Cut}
use Rattle.cbs_tape.specs.Spelling.{number, entry, HasSpelling}
use Rattle.cbs_tape.specs.Reading.{plain_at, entry_at}
use Rattle.cbs_tape.proofs.Numbers.{number_again, number_cut}

back : (a s : ℕ) → (a + s) - a ≡ s
back a s = omega arith

pub entry_again : (e : Entry) (rest : List ℕ) → HasSpelling e → entry_at (entry e ++ rest) ≡ Ok (e, rest)
unfolding entry_at plain_at
entry_again (Accepted s units) rest fits =
    rw (le-ltb (64 + s) 64 (omega arith), lt-ltb (64 + s) 128 (omega (arith, fits.0)), number_again units rest (omega (arith, fits.1)), lt-ltb units (2 ^ 32) fits.1, back 64 s) refl
entry_again (Units n) rest fits =
    elim (cases_lt 64 n) [
      | inl a ↦ rw (lt-leb n 64 a, number_again n rest fits.1, ne_eqb n 0 (λ e. omega (arith, e, a))) refl
      | inr a ↦ rw (le-leb n 64 a, le-ltb (191 + n) 64 (omega arith), le-ltb (191 + n) 128 (omega arith), le-ltb (191 + n) 192 (omega (arith, fits.0)), back 191 n) refl
    ]
entry_again (Advanced n) rest fits = rw (number_again n rest fits) refl
entry_again (Charged s n) rest fits =
    rw (le-ltb (128 + s) 64 (omega arith), le-ltb (128 + s) 128 (omega arith), lt-ltb (128 + s) 192 (omega (arith, fits.0)), number_again n rest fits.1, back 128 s) refl
entry_again (Closed s) rest fits = rw (lt-ltb s 64 fits) refl

cut_runs : (n k : ℕ) → k < length (1 ∷ number n) → entry_at (take k (1 ∷ number n)) ≡ Err Cut
unfolding entry_at plain_at
cut_runs n zero lt = refl
cut_runs n (suc k) lt = rw (number_cut n k (omega arith)) refl

cut_byte : (b k : ℕ) → k < 1 → entry_at (take k (b ∷ [])) ≡ Err Cut
unfolding entry_at
cut_byte b zero lt = refl
cut_byte b (suc k) lt = absurd (omega arith)

pub entry_cut : (e : Entry) (k : ℕ) → HasSpelling e → k < length (entry e) → entry_at (take k (entry e)) ≡ Err Cut
unfolding entry_at plain_at
entry_cut (Accepted s units) zero fits lt = refl
entry_cut (Accepted s units) (suc k) fits lt =
    rw (le-ltb (64 + s) 64 (omega arith), lt-ltb (64 + s) 128 (omega (arith, fits.0)), number_cut units k (omega arith)) refl
entry_cut (Units n) k fits lt =
    elim (cases_lt 64 n) [
      | inl a ↦ let e = lt-leb n 64 a in rw e (cut_runs n k (rw e at lt))
      | inr a ↦ let e = le-leb n 64 a in rw e (cut_byte (191 + n) k (rw e at lt))
    ]
entry_cut (Advanced n) zero fits lt = refl
entry_cut (Advanced n) (suc k) fits lt = rw (number_cut n k (omega arith)) refl
entry_cut (Charged s n) zero fits lt = refl
entry_cut (Charged s n) (suc k) fits lt =
    rw (le-ltb (128 + s) 64 (omega arith), le-ltb (128 + s) 128 (omega arith), lt-ltb (128 + s) 192 (omega (arith, fits.0)), number_cut n k (omega arith)) refl
entry_cut (Closed s) zero fits lt = refl
entry_cut (Closed s) (suc zero) fits lt = refl
entry_cut (Closed s) (suc (suc k)) fits lt = absurd (omega arith)
