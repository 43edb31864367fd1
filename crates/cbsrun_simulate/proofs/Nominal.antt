-- From one nominal tick of a source to the next, listed or drawn.
use Rattle.std.proofs.Common.{◌≡◌, ℕ, ◌+◌, ◌*◌, ◌≤◌, Bool, true, false, leb, ◌&&◌, List, [], ◌∷◌, refl, arith}
use Rattle.std.specs.Prelude.{drop}
use Rattle.std.proofs.lemmas.Bool.{leb-true}
use Rattle.rand_pcg.specs.Lcg.{Lcg}
use Rattle.cbs_rules.specs.Rules.{clock_end}
use Rattle.cbsrun_simulate.specs.Bounds.{Bounds}
use Rattle.cbsrun_simulate.specs.Drawing.{follow, next_nominal}
use Rattle.cbsrun_simulate.proofs.Draws.{drawn_least, drawn_within}

-- if both hold, each does
both : (a b : Bool) → (a && b) ≡ true → (a ≡ true) × (b ≡ true)
both true b h = (refl, h)
both false b h = cc

-- the first of listed ticks lies so many ticks after the one that they follow, and not after the clock's end, and the
-- others follow it
pub first_follows : (gap nominal n : ℕ) (ns : List ℕ) → follow gap nominal (n ∷ ns) ≡ true
    → (nominal + gap ≤ n) × (n ≤ clock_end) × (follow gap n ns ≡ true)
first_follows gap nominal n ns h =
    let here = both (leb (nominal + gap) n) (leb n clock_end && follow gap n ns) h in
    let there = both (leb n clock_end) (follow gap n ns) here.1 in
    (leb-true (nominal + gap) n here.0, leb-true n clock_end there.0, there.1)

-- the next nominal tick lies at least the least `every` after one, and the ticks that are listed after it follow it
pub next_follows : (every : Bounds) (listed : List ℕ) (nominal : ℕ) (g : Lcg) → follow every.least nominal listed ≡ true
    → (nominal + every.least ≤ (next_nominal every listed nominal g).0)
    × (follow every.least (next_nominal every listed nominal g).0 (drop 1 listed) ≡ true)
next_follows every [] nominal g h = (let least = drawn_least every g in omega arith, refl)
next_follows every (n ∷ ns) nominal g h = let is = first_follows every.least nominal n ns h in (is.0, is.2)

-- and no later than so many ticks, if that one is not after the clock's end
pub next_small : (every : Bounds) (listed : List ℕ) (nominal : ℕ) (g : Lcg) → every.least ≤ every.greatest → every.greatest ≤ clock_end
    → nominal ≤ clock_end → follow every.least nominal listed ≡ true → (next_nominal every listed nominal g).0 ≤ 2 * clock_end
next_small every [] nominal g order few early h = let most = (drawn_within every g order).1 in omega arith
next_small every (n ∷ ns) nominal g order few early h = let is = (first_follows every.least nominal n ns h).1 in omega arith
