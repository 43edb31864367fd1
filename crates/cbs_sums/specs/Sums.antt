-- The CRC-32 of IEEE 802.3, as section 8 of RFC 1952 has it: a register of 32 bits, which each byte changes.
use Rattle.std.specs.Prelude.{◌≡◌, ℕ, zero, suc, ◌/◌, ◌^◌, ◌<◌, eqb, if◌then◌else◌, List, [], ◌∷◌, bit_and, bit_xor, slice_index}

-- the register after one bit. If that was set, the polynomial is taken off
abbrev pub shifted : ℕ → ℕ
shifted c = if eqb (bit_and c 1) 1 then bit_xor 0xEDB88320 (c / 2 ^ 1) else c / 2 ^ 1

-- the register after so many bits
abbrev pub shifts : ℕ → ℕ → ℕ
shifts zero c = c
shifts (suc n) c = shifts n (shifted c)

-- what a byte brings into the register
unfoldable pub share_of : ℕ → ℕ
share_of b = shifts 8 b

-- these are what each byte brings, by its number
abbrev pub AreShares : List ℕ → Type 0
AreShares shares = (b : ℕ) → b < 256 → slice_index shares b ≡ share_of b

-- the register after one more byte
abbrev pub updated : ℕ → ℕ → ℕ
updated c b = bit_xor (share_of (bit_and (bit_xor c b) 255)) (c / 2 ^ 8)

-- the register after more bytes
abbrev pub after : ℕ → List ℕ → ℕ
after c [] = c
after c (b ∷ bytes) = after (updated c b) bytes

-- the register before the first byte
abbrev pub initial : ℕ
initial = 0xFFFFFFFF

-- the sum of the bytes that brought the register so far
abbrev pub sum_of : ℕ → ℕ
sum_of c = bit_xor c 0xFFFFFFFF
