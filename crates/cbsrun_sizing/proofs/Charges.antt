-- What servers are charged, one server after the other.
use Rattle.std.proofs.Common.{◌≡◌, ℕ, ◌+◌, arith}
use Rattle.std.specs.Prelude.{map}
use Rattle.std.specs.List.{sum, range_with_len}
use Rattle.std.proofs.lemmas.List.FromFn.{map-range_with_len_more}
use Rattle.std.proofs.lemmas.List.Sums.{sum_by_push}

-- one server more
pub sum_more : (f : ℕ → ℕ) (n : ℕ) → sum (map f (range_with_len 0 (n + 1))) ≡ sum (map f (range_with_len 0 n)) + f n
sum_more f n = rw (map-range_with_len_more f 0 n n (omega arith)) (sum_by_push (λ (x : ℕ). x) (map f (range_with_len 0 n)) (f n))
