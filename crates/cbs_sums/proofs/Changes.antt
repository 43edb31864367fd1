-- A byte that is changed changes the sum, wherever it stands.
use Rattle.std.proofs.Common.{◌≡◌, ℕ, zero, suc, ◌+◌, ◌*◌, ◌/◌, ◌%◌, ◌^◌, ◌<◌, Bool, true, false, ◌&&◌, eqb, List, [], ◌∷◌, ◌++◌, get_or, refl, sym, ap, ◌∙◌, arith, eqb-true, inl, inr}
use Rattle.std.specs.Prelude.{bit_and, bit_xor}
use Rattle.std.proofs.lemmas.Bool.{cases_lt}
use Rattle.std.proofs.lemmas.Nat.{and_le_r, and_mask, shr_split, xor_comm, xor_mod, xor_shr}
use Rattle.std.proofs.lemmas.Nat.Bits.{bit_at_xor, bit_at-lt, same_from_bits}
use Rattle.std.specs.Int.{bit_at}
use Rattle.cbs_sums.specs.Sums.{share_of, updated, after, sum_of}
use Rattle.cbs_sums.proofs.Written.{after-append, updated_small, after_small}

xor_same : (a b c : ℕ) → bit_xor a b ≡ bit_xor a c → b ≡ c
xor_same a b c e =
    same_from_bits b c (λ i.
    omega (arith, bit_at_xor a b i, bit_at_xor a c i, ap (λ (n : ℕ). bit_at n i) e, bit_at-lt a i, bit_at-lt b i, bit_at-lt c i))

xor_same_left : (a b c : ℕ) → bit_xor a c ≡ bit_xor b c → a ≡ b
xor_same_left a b c e = xor_same c a b (xor_comm c a ∙ e ∙ xor_comm b c)

-- The highest byte of what a byte brings tells that byte: here it stands, by that highest byte
abbrev of_highest : List ℕ
of_highest =
    0 ∷ 65 ∷ 195 ∷ 130 ∷ 134 ∷ 199 ∷ 69 ∷ 4 ∷ 77 ∷ 12 ∷ 142 ∷ 207 ∷ 203 ∷ 138 ∷ 8 ∷ 73 ∷ 154 ∷ 219 ∷ 89 ∷ 24 ∷
    28 ∷ 93 ∷ 223 ∷ 158 ∷ 215 ∷ 150 ∷ 20 ∷ 85 ∷ 81 ∷ 16 ∷ 146 ∷ 211 ∷ 117 ∷ 52 ∷ 182 ∷ 247 ∷ 243 ∷ 178 ∷ 48 ∷
    113 ∷ 56 ∷ 121 ∷ 251 ∷ 186 ∷ 190 ∷ 255 ∷ 125 ∷ 60 ∷ 239 ∷ 174 ∷ 44 ∷ 109 ∷ 105 ∷ 40 ∷ 170 ∷ 235 ∷ 162 ∷
    227 ∷ 97 ∷ 32 ∷ 36 ∷ 101 ∷ 231 ∷ 166 ∷ 234 ∷ 171 ∷ 41 ∷ 104 ∷ 108 ∷ 45 ∷ 175 ∷ 238 ∷ 167 ∷ 230 ∷ 100 ∷
    37 ∷ 33 ∷ 96 ∷ 226 ∷ 163 ∷ 112 ∷ 49 ∷ 179 ∷ 242 ∷ 246 ∷ 183 ∷ 53 ∷ 116 ∷ 61 ∷ 124 ∷ 254 ∷ 191 ∷ 187 ∷
    250 ∷ 120 ∷ 57 ∷ 159 ∷ 222 ∷ 92 ∷ 29 ∷ 25 ∷ 88 ∷ 218 ∷ 155 ∷ 210 ∷ 147 ∷ 17 ∷ 80 ∷ 84 ∷ 21 ∷ 151 ∷ 214 ∷
    5 ∷ 68 ∷ 198 ∷ 135 ∷ 131 ∷ 194 ∷ 64 ∷ 1 ∷ 72 ∷ 9 ∷ 139 ∷ 202 ∷ 206 ∷ 143 ∷ 13 ∷ 76 ∷ 149 ∷ 212 ∷ 86 ∷ 23 ∷
    19 ∷ 82 ∷ 208 ∷ 145 ∷ 216 ∷ 153 ∷ 27 ∷ 90 ∷ 94 ∷ 31 ∷ 157 ∷ 220 ∷ 15 ∷ 78 ∷ 204 ∷ 141 ∷ 137 ∷ 200 ∷ 74 ∷
    11 ∷ 66 ∷ 3 ∷ 129 ∷ 192 ∷ 196 ∷ 133 ∷ 7 ∷ 70 ∷ 224 ∷ 161 ∷ 35 ∷ 98 ∷ 102 ∷ 39 ∷ 165 ∷ 228 ∷ 173 ∷ 236 ∷
    110 ∷ 47 ∷ 43 ∷ 106 ∷ 232 ∷ 169 ∷ 122 ∷ 59 ∷ 185 ∷ 248 ∷ 252 ∷ 189 ∷ 63 ∷ 126 ∷ 55 ∷ 118 ∷ 244 ∷ 181 ∷
    177 ∷ 240 ∷ 114 ∷ 51 ∷ 127 ∷ 62 ∷ 188 ∷ 253 ∷ 249 ∷ 184 ∷ 58 ∷ 123 ∷ 50 ∷ 115 ∷ 241 ∷ 176 ∷ 180 ∷ 245 ∷
    119 ∷ 54 ∷ 229 ∷ 164 ∷ 38 ∷ 103 ∷ 99 ∷ 34 ∷ 160 ∷ 225 ∷ 168 ∷ 233 ∷ 107 ∷ 42 ∷ 46 ∷ 111 ∷ 237 ∷ 172 ∷ 10 ∷
    75 ∷ 201 ∷ 136 ∷ 140 ∷ 205 ∷ 79 ∷ 14 ∷ 71 ∷ 6 ∷ 132 ∷ 197 ∷ 193 ∷ 128 ∷ 2 ∷ 67 ∷ 144 ∷ 209 ∷ 83 ∷ 18 ∷
    22 ∷ 87 ∷ 213 ∷ 148 ∷ 221 ∷ 156 ∷ 30 ∷ 95 ∷ 91 ∷ 26 ∷ 152 ∷ 217 ∷ []

abbrev highest : ℕ → ℕ
highest b = share_of b / 2 ^ 24

abbrev is_told : ℕ → Bool
is_told b = eqb (get_or of_highest (highest b) 0) b

abbrev are_told : ℕ → Bool
are_told zero = true
are_told (suc n) = is_told n && are_told n

both : (a b : Bool) → (a && b) ≡ true → (a ≡ true) × (b ≡ true)
both true true h = (refl, refl)
both true false h = absurd cc
both false b h = absurd cc

told_below : (n b : ℕ) → are_told n ≡ true → b < n → is_told b ≡ true
told_below zero b h lt = absurd (omega arith)
told_below (suc n) b h lt =
    let parts = both (is_told n) (are_told n) h in
    elim (cases_lt b n) [
      | inl below ↦ told_below n b parts.1 below
      | inr above ↦ let last : b ≡ n = omega arith in rw last parts.0
    ]

each_told : are_told 256 ≡ true
unfolding share_of
each_told = refl

same_byte : (b c : ℕ) → b < 256 → c < 256 → highest b ≡ highest c → b ≡ c
same_byte b c small_b small_c e =
    sym (eqb-true (get_or of_highest (highest b) 0) b (told_below 256 b each_told small_b))
    ∙ ap (λ (n : ℕ). get_or of_highest n 0) e
    ∙ eqb-true (get_or of_highest (highest c) 0) c (told_below 256 c each_told small_c)

-- the byte that is looked up
abbrev place : ℕ → ℕ → ℕ
place c b = bit_and (bit_xor c b) 255

place_small : (c b : ℕ) → place c b < 256
place_small c b = omega (arith, and_le_r (bit_xor c b) 255)

place_is : (c b : ℕ) → place c b ≡ bit_xor (c % 2 ^ 8) (b % 2 ^ 8)
place_is c b = and_mask (bit_xor c b) 8 ∙ xor_mod c b 8

-- the highest byte of a register tells what was looked up
highest_is : (c b : ℕ) → c < 2 ^ 32 → updated c b / 2 ^ 24 ≡ highest (place c b)
highest_is c b small =
    let none : c / 2 ^ 8 / 2 ^ 24 ≡ 0 = omega arith in
    xor_shr (share_of (place c b)) (c / 2 ^ 8) 24 ∙ ap (λ (n : ℕ). bit_xor (highest (place c b)) n) none ∙ xor_comm (highest (place c b)) 0

same_place : (c b d e : ℕ) → c < 2 ^ 32 → d < 2 ^ 32 → updated c b ≡ updated d e → place c b ≡ place d e
same_place c b d e small_c small_d same =
    same_byte (place c b) (place d e) (place_small c b) (place_small d e)
    (sym (highest_is c b small_c) ∙ ap (λ (n : ℕ). n / 2 ^ 24) same ∙ highest_is d e small_d)

-- another byte gives another register
other_byte : (r b c : ℕ) → r < 2 ^ 32 → b < 256 → c < 256 → updated r b ≡ updated r c → b ≡ c
other_byte r b c small small_b small_c same =
    let places = sym (place_is r b) ∙ same_place r b r c small small same ∙ place_is r c in
    let low : b % 2 ^ 8 ≡ c % 2 ^ 8 = xor_same (r % 2 ^ 8) (b % 2 ^ 8) (c % 2 ^ 8) places in
    omega (arith, low)

-- another register gives another register after a byte
other_register : (c d b : ℕ) → c < 2 ^ 32 → d < 2 ^ 32 → updated c b ≡ updated d b → c ≡ d
other_register c d b small_c small_d same =
    let at = same_place c b d b small_c small_d same in
    let low : c % 2 ^ 8 ≡ d % 2 ^ 8 = xor_same_left (c % 2 ^ 8) (d % 2 ^ 8) (b % 2 ^ 8) (sym (place_is c b) ∙ at ∙ place_is d b) in
    let shares : bit_xor (share_of (place d b)) (c / 2 ^ 8) ≡ updated d b = ap (λ (n : ℕ). bit_xor (share_of n) (c / 2 ^ 8)) (sym at) ∙ same in
    let high : c / 2 ^ 8 ≡ d / 2 ^ 8 = xor_same (share_of (place d b)) (c / 2 ^ 8) (d / 2 ^ 8) shares in
    omega (arith, shr_split c 8, shr_split d 8, low, high)

-- after the same bytes it is still another one
other_after : (c d : ℕ) (xs : List ℕ) → c < 2 ^ 32 → d < 2 ^ 32 → after c xs ≡ after d xs → c ≡ d
other_after c d [] small_c small_d same = same
other_after c d (x ∷ xs) small_c small_d same =
    other_register c d x small_c small_d (other_after (updated c x) (updated d x) xs (updated_small c x small_c) (updated_small d x small_d) same)

pub changed : (r : ℕ) (front : List ℕ) (b c : ℕ) (back : List ℕ) → r < 2 ^ 32 → b < 256 → c < 256
    → sum_of (after r (front ++ b ∷ back)) ≡ sum_of (after r (front ++ c ∷ back)) → b ≡ c
changed r front b c back small small_b small_c same =
    let before : ℕ = after r front in
    let in_range : before < 2 ^ 32 = after_small r front small in
    let registers : after (updated before b) back ≡ after (updated before c) back =
    sym (after-append r front (b ∷ back)) ∙ xor_same_left _ _ 0xFFFFFFFF same ∙ after-append r front (c ∷ back) in
    other_byte before b c in_range small_b small_c (other_after (updated before b) (updated before c) back (updated_small before b in_range) (updated_small before c in_range) registers)
