-- A ring of n places, in which number q stands at place q % n.
use Rattle.std.proofs.Common.{ℕ, ◌≡◌, ◌≢◌, ◌+◌, ◌-◌, ◌*◌, ◌/◌, ◌%◌, ◌≤◌, ◌<◌, List, ◌++◌, length, length-append, replicate, get_or, slice_set, arith, refl, inl, inr, get_or-set_same, get_or-set_other, max}
use Rattle.std.proofs.lemmas.Bool.{cases_lt, cases_order}
use Rattle.std.proofs.lemmas.List.{get_or-replicate, get_or_append_left, get_or-append_right, length-replicate}
use Rattle.std.proofs.Math.Nat.{mod-lt, mul-le-mul_left}
use Rattle.cbs_live.specs.Figures.{Remembers}

-- two numbers that are less than n apart have places of their own
pub apart : (q j n : ℕ) → 0 < n → q < j → j < q + n → q % n ≢ j % n
apart q j n some before near same = elim (cases_order (q / n) (j / n)) [
  | inl round ↦ let e : n * (q / n) ≡ n * (j / n) = rw round refl in omega (arith, e)
  | inr (inl later) ↦ omega (arith, mul-le-mul_left n later)
  | inr (inr earlier) ↦ omega (arith, mul-le-mul_left n earlier)
]

-- number j is put into its place, and the others before it stay
pub put_there : (came : List ℕ) (j time n : ℕ) → 0 < n → length came ≡ n → get_or (slice_set came (j % n) time) (j % n) 0 ≡ time
put_there came j time n some len = let place : j % n < length came = omega (arith, mod-lt j some) in get_or-set_same came (j % n) time 0 place

pub put_other : (came : List ℕ) (q j time n : ℕ) → 0 < n → q < j → j < q + n → get_or (slice_set came (j % n) time) (q % n) 0 ≡ get_or came (q % n) 0
put_other came q j time n some before near = get_or-set_other came (j % n) (q % n) time 0 (apart q j n some before near)

pub length_more : (times : List ℕ) (accepted time : ℕ) → length (times ++ replicate (accepted - length times) time) ≡ length times + (accepted - length times)
length_more times accepted time = rw (length-append times (replicate (accepted - length times) time), length-replicate (accepted - length times) time) refl

-- the ring remembers the last jobs after some more were accepted at one time
pub remembers_more : (times came came' : List ℕ) (accepted time first job : ℕ) → length came' ≡ length came → Remembers came times
    → first ≡ max (length times) (accepted - length came) → accepted ≤ job → job ≤ max first accepted
    → ((q : ℕ) → first ≤ q → q < job → get_or came' (q % length came) 0 ≡ time)
    → ((q : ℕ) → q < first → job ≤ q + length came → get_or came' (q % length came) 0 ≡ get_or came (q % length came) 0)
    → Remembers came' (times ++ replicate (accepted - length times) time)
remembers_more times came came' accepted time first job len before starts over within put kept q inside near =
    let all : length (times ++ replicate (accepted - length times) time) ≡ length times + (accepted - length times) = length_more times accepted time in
    elim (cases_lt q (length times)) [
      | inl old ↦
          let earlier : q < first = omega arith in
          let late : job ≤ q + length came = omega arith in
          let recent : length times ≤ q + length came = omega arith in
          rw (len, kept q earlier late, before q old recent, get_or_append_left times (replicate (accepted - length times) time) 0 q old) refl
      | inr new ↦
          let from : first ≤ q = omega arith in
          let to : q < job = omega arith in
          let place : q - length times < accepted - length times = omega arith in
          rw (len, put q from to, get_or-append_right times (replicate (accepted - length times) time) (length times) q 0 refl new, get_or-replicate (accepted - length times) (q - length times) time 0 place) refl
    ]
