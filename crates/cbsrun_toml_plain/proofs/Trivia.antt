-- What stands after the blanks at the start of a text.
use Rattle.std.proofs.Common.{◌≡◌, ℕ, suc, ◌+◌, ◌==◌, ◌||◌, Bool, true, false, List, [], ◌∷◌, drop, refl, arith, ap}
use Rattle.std.specs.List.{prefix_len}
use Rattle.std.proofs.lemmas.Bool.Decides.{nat_tests}
use Rattle.toml_parser.specs.Lexical.{is_ws, first, skip_ws, skip_blank, skip_from}
use Rattle.cbsrun_toml_plain.specs.Pairs.{begins_trivia}

-- one more element is dropped
drop_one_more : (n c : ℕ) (cs : List ℕ) → drop (1 + n) (c ∷ cs) ≡ drop n cs
drop_one_more n c cs =
    let step : 1 + n ≡ suc n = omega arith in
    ap (λ k. drop k (c ∷ cs)) step

-- a space is skipped
pub after_space : (s : List ℕ) → first s ≡ 32 → skip_ws s ≡ skip_ws (drop 1 s)
unfolding skip_ws
after_space [] space = absurd (grind (arith, nat_tests))
after_space (c ∷ cs) space = rw space (drop_one_more (prefix_len is_ws cs) 32 cs)

-- where no blank stands nothing is skipped
pub after_none : (s : List ℕ) → is_ws (first s) ≡ false → skip_ws s ≡ s
unfolding skip_ws
after_none [] other = refl
after_none (c ∷ cs) other = rw other refl

-- a space is skipped, too, with what else stands there
pub space_blank : (s : List ℕ) → first s ≡ 32 → skip_blank s ≡ skip_blank (drop 1 s)
unfolding skip_from
space_blank [] space = absurd (grind (arith, nat_tests))
space_blank (c ∷ cs) space = rw space refl

-- none of the four holds
none_of : (a b c d : Bool) → ((a || b) || c) || d ≡ false → (a ≡ false) × (b ≡ false) × (c ≡ false) × (d ≡ false)
none_of false false false false e = (refl, refl, refl, refl)
none_of true b c d e = cc
none_of false true c d e = cc
none_of false false true d e = cc
none_of false false false true e = cc

-- where neither a blank nor a newline nor a comment begins nothing is skipped
pub blank_none : (s : List ℕ) → begins_trivia (first s) ≡ false → skip_blank s ≡ s
unfolding skip_from
blank_none [] other = refl
blank_none (c ∷ cs) other =
    let (ws, feed, return, hash) = none_of (is_ws c) (c == 10) (c == 13) (c == 35) other in
    rw (feed, return, ws, hash) refl
