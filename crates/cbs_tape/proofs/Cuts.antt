-- What is read of the first bytes of a tape.
use Rattle.std.proofs.Common.{◌≡◌, ℕ, zero, suc, ◌+◌, ◌-◌, ◌<◌, ◌≤◌, false, leb, List, [], ◌∷◌, ◌++◌, length, take, Ok, Err, refl, sym, ap, ◌∙◌, append_assoc, arith, inl, inr}
use Rattle.std.specs.List.{AllByRecursion}
use Rattle.std.proofs.lemmas.Bool.{cases_lt, le-leb, lt-leb}
use Rattle.std.specs.Prelude.{All}
use Rattle.std.proofs.lemmas.List.Elements.{recursion_from_All}
use Rattle.std.proofs.lemmas.List.{length-append, length-take, take-append-le, append-nil}
use Rattle.std.proofs.Math.Seq.{take-append-add}
use Rattle.cbs_tape.specs.declared.entry.Entry.{Entry}
use Rattle.cbs_tape.specs.declared.entry.Entry.TheVariants.{Accepted, Units, Advanced, Charged, Closed}
use Rattle.cbs_tape.specs.declared.entry.Ending.{Ending}
use Rattle.cbs_tape.specs.declared.entry.Ending.TheVariants.{Marked, Cut}
use Rattle.cbs_tape.specs.Spelling.{entry, spelling, HasSpelling}
use Rattle.cbs_tape.specs.Reading.{Told, with_entry, entry_at, plain_at, told_in, told, kept, ending_at}
use Rattle.cbs_tape.proofs.Entries.{entry_again, entry_cut}

-- what is told after these entries
abbrev pub after_entries : List Entry → Told → Told
after_entries es t = record { entries = es ++ t.entries; ending = t.ending }

told_step : (n : ℕ) (bytes : List ℕ) (x : Entry) (rest : List ℕ) → entry_at bytes ≡ Ok (x, rest) → told_in (suc n) bytes ≡ with_entry x (told_in n rest)
unfolding told_in
told_step n bytes x rest e = rw (e, told_in) refl

told_end : (n : ℕ) (bytes : List ℕ) (ending : Ending) → entry_at bytes ≡ Err ending → told_in (suc n) bytes ≡ record { entries = []; ending = ending }
unfolding told_in
told_end n bytes ending e = rw (e, told_in) refl

-- an entry takes a byte or more
some_bytes : (e : Entry) → 0 < length (entry e)
some_bytes (Accepted s units) = omega arith
some_bytes (Units n) = elim (cases_lt 64 n) [ inl a ↦ rw (lt-leb n 64 a) (omega arith) | inr a ↦ rw (le-leb n 64 a) (omega arith) ]
some_bytes (Advanced n) = omega arith
some_bytes (Charged s n) = omega arith
some_bytes (Closed s) = omega arith

leb_less : (a b k c : ℕ) → c ≡ a + b → a ≤ k → leb c k ≡ leb b (k - a)
leb_less a b k c e le =
    elim (cases_lt k c) [
      | inl lt ↦ rw (lt-leb c k lt) (sym (lt-leb b (k - a) (omega arith)))
      | inr ge ↦ rw (le-leb c k ge) (sym (le-leb b (k - a) (omega arith)))
    ]

mark_cut : (k n : ℕ) → length {A = ℕ} (take k (4 ∷ [])) ≤ n → told_in n (take k (4 ∷ [])) ≡ record { entries = []; ending = ending_at k [] }
unfolding told_in entry_at plain_at
mark_cut zero zero lt = refl
mark_cut zero (suc n) lt = told_end n [] Cut refl
mark_cut (suc k) zero lt = absurd (omega arith)
mark_cut (suc k) (suc n) lt = rw (le-leb 1 (suc k) (omega arith)) (told_end n (take (suc k) (4 ∷ [])) Marked refl)

pub told_cut : (es : List Entry) (k n : ℕ) → AllByRecursion HasSpelling es → length (take k (spelling es)) ≤ n
    → told_in n (take k (spelling es)) ≡ record { entries = kept k es; ending = ending_at k es }
unfolding kept told_in
told_cut [] k n fits lt = mark_cut k n lt
told_cut (e ∷ es) k zero fits lt =
    let none : k ≡ 0 = omega (arith, length-take k (entry e ++ spelling es), length-append (entry e) (spelling es), some_bytes e, lt) in
    rw (none, lt-leb (length (entry e)) 0 (some_bytes e), lt-leb (length (entry e ++ spelling es)) 0 (omega (arith, length-append (entry e) (spelling es), some_bytes e))) refl
told_cut (e ∷ es) k (suc n) fits lt =
    elim (cases_lt k (length (entry e))) [
      | inl short ↦
          let front : take k (entry e ++ spelling es) ≡ take k (entry e) = take-append-le k (entry e) (spelling es) (omega arith) in
          let long : leb (length (entry e ++ spelling es)) k ≡ false = lt-leb _ _ (omega (arith, length-append (entry e) (spelling es))) in
          rw (front, lt-leb (length (entry e)) k short, long) (told_end n (take k (entry e)) Cut (entry_cut e k fits.0 short))
      | inr whole ↦
          let j : ℕ = k - length (entry e) in
          let sum : k ≡ length (entry e) + j = omega arith in
          let front : take k (entry e ++ spelling es) ≡ entry e ++ take j (spelling es) = ap (λ (i : ℕ). take i (entry e ++ spelling es)) sum ∙ take-append-add (entry e) (spelling es) j in
          let same : leb (length (entry e ++ spelling es)) k ≡ leb (length (spelling es)) j = leb_less (length (entry e)) (length (spelling es)) k (length (entry e ++ spelling es)) (length-append (entry e) (spelling es)) whole in
          let fewer : length (take j (spelling es)) ≤ n = omega (arith, length-take j (spelling es), length-take k (entry e ++ spelling es), length-append (entry e) (spelling es), some_bytes e, lt) in
          rw (front, le-leb (length (entry e)) k whole, same)
          (told_step n (entry e ++ take j (spelling es)) e (take j (spelling es)) (entry_again e (take j (spelling es)) fits.0)
          ∙ ap (with_entry e) (told_cut es j n fits.1 fewer))
    ]

-- one more entry
pub after_one : (es : List Entry) (n : ℕ) (bytes : List ℕ) (x : Entry) (rest : List ℕ) (t : Told) → entry_at bytes ≡ Ok (x, rest)
    → after_entries es (told_in (suc n) bytes) ≡ t → after_entries (es ++ x ∷ []) (told_in n rest) ≡ t
after_one es n bytes x rest t e h =
    let one : after_entries es (told_in (suc n) bytes) ≡ after_entries (es ++ x ∷ []) (told_in n rest) =
    rw (told_step n bytes x rest e) (ap (λ (xs : List Entry). record { entries = xs; ending = (told_in n rest).ending }) (sym (append_assoc es (x ∷ []) (told_in n rest).entries))) in
    sym one ∙ h

-- the end
pub after_all : (es : List Entry) (n : ℕ) (bytes : List ℕ) (ending : Ending) (t : Told) → entry_at bytes ≡ Err ending
    → after_entries es (told_in (suc n) bytes) ≡ t → t ≡ record { entries = es; ending = ending }
after_all es n bytes ending t e h =
    let one : after_entries es (told_in (suc n) bytes) ≡ record { entries = es; ending = ending } =
    rw (told_end n bytes ending e) (ap (λ (xs : List Entry). record { entries = xs; ending = ending }) (append-nil es)) in
    sym h ∙ one

-- what is told after as many entries as there are bytes
pub after_last : (es : List Entry) (n : ℕ) (bytes : List ℕ) (t : Told) → n ≡ 0 → after_entries es (told_in n bytes) ≡ t → t ≡ record { entries = es; ending = Cut }
unfolding told_in
after_last es n bytes t e h =
    let one : after_entries es (told_in n bytes) ≡ record { entries = es; ending = Cut } = rw e (ap (λ (xs : List Entry). record { entries = xs; ending = Cut }) (append-nil es)) in
    sym h ∙ one

-- what is told of the first bytes of a tape
pub cut_tells : (bytes : List ℕ) (xs : List Entry) (ending : Ending) → told bytes ≡ record { entries = xs; ending = ending } → (es : List Entry) (k : ℕ) → All HasSpelling es → bytes ≡ take k (spelling es)
    → (xs ≡ kept k es) × (ending ≡ ending_at k es)
cut_tells bytes xs ending e es k fits is =
    let h : told bytes ≡ record { entries = kept k es; ending = ending_at k es } = rw is (told_cut es k (length (take k (spelling es))) (recursion_from_All HasSpelling es fits) (omega arith)) in
    let both = sym e ∙ h in
    (ap (λ (t : Told). t.entries) both, ap (λ (t : Told). t.ending) both)
