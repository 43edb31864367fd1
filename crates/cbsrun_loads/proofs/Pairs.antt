-- Sources by their terms and by what is listed of them, one after another.
use Rattle.std.proofs.Common.{◌≡◌, ℕ, zero, suc, List, [], ◌∷◌, ◌++◌, length, map, refl, ap, subst, arith}
use Rattle.cbsrun_simulate.specs.Drawing.{AreListed, IsListed}
use Rattle.cbsrun_simulate.specs.declared.terms.SourceTerms.{SourceTerms}
use Rattle.cbsrun_entries.specs.Sources.{SourceData, paired}

-- one source more
pub paired_push : (ts : List SourceTerms) (ls : List (List ℕ)) (t : SourceTerms) (n : List ℕ) → length ls ≡ length ts
    → paired (ts ++ t ∷ []) (ls ++ n ∷ []) ≡ paired ts ls ++ record { terms = t; listed = n } ∷ []
paired_push [] [] t n e = refl
paired_push [] (l ∷ ls) t n e = absurd (omega arith)
paired_push (u ∷ ts) [] t n e = absurd (omega arith)
paired_push (u ∷ ts) (l ∷ ls) t n e = ap (λ rest. record { terms = u; listed = l } ∷ rest) (paired_push ts ls t n (omega arith))

-- what is listed of it follows its first tick, as that of the others does
pub listed_push : (ts : List SourceTerms) (ls : List (List ℕ)) (t : SourceTerms) (n : List ℕ) → length ls ≡ length ts → AreListed ts ls → IsListed t n
    → AreListed (ts ++ t ∷ []) (ls ++ n ∷ [])
listed_push [] [] t n e all is zero u same = let one : t ≡ u = cc in let P : SourceTerms → Type 0 = λ x. IsListed x n in subst P one is
listed_push [] [] t n e all is (suc i) u same = cc
listed_push [] (l ∷ ls) t n e all is i u same = absurd (omega arith)
listed_push (v ∷ ts) [] t n e all is i u same = absurd (omega arith)
listed_push (v ∷ ts) (l ∷ ls) t n e all is zero u same = all 0 u same
listed_push (v ∷ ts) (l ∷ ls) t n e all is (suc i) u same = listed_push ts ls t n (omega arith) (λ j w at. all (suc j) w at) is i u same

-- the terms of all, and what is listed of all
pub paired_terms : (ts : List SourceTerms) (ls : List (List ℕ)) → length ls ≡ length ts → map (λ (s : SourceData). s.terms) (paired ts ls) ≡ ts
paired_terms [] [] e = refl
paired_terms [] (l ∷ ls) e = absurd (omega arith)
paired_terms (u ∷ ts) [] e = absurd (omega arith)
paired_terms (u ∷ ts) (l ∷ ls) e = ap (λ rest. u ∷ rest) (paired_terms ts ls (omega arith))

pub paired_listed : (ts : List SourceTerms) (ls : List (List ℕ)) → length ls ≡ length ts → map (λ (s : SourceData). s.listed) (paired ts ls) ≡ ls
paired_listed [] [] e = refl
paired_listed [] (l ∷ ls) e = absurd (omega arith)
paired_listed (u ∷ ts) [] e = absurd (omega arith)
paired_listed (u ∷ ts) (l ∷ ls) e = ap (λ rest. l ∷ rest) (paired_listed ts ls (omega arith))
