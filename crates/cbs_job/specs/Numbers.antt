-- Jobs over a list of numbers. Each unit takes one number.
use Rattle.std.specs.Prelude.{◌≡◌, ℕ, ◌+◌, ◌-◌, ◌≤◌, ◌<◌, max, List, [], ◌∷◌, length, All, Contains}
use Rattle.std.proofs.Common.{refl, sym}
use Rattle.std.proofs.Math.Numerals.{sub-one}
use Rattle.cbs_job.specs.Work.{Meaning, Lowers}

-- how far such a job has come: the numbers not yet taken, and the output so far
pub record Progress : Type 0 where
  pub numbers : List ℕ
  pub output : ℕ

-- the progress after one unit, which takes the next number into the output
abbrev pub stepped : (ℕ → ℕ → ℕ) → List ℕ → ℕ → Progress
stepped take_in [] output = record { numbers = []; output = output }
stepped take_in (n ∷ ns) output = record { numbers = ns; output = take_in output n }

-- the work of taking numbers in one by one, one in each unit
abbrev pub taking_in : (ℕ → ℕ → ℕ) → Meaning Progress
taking_in take_in = record { left = λ p. length p.numbers; output = λ p. p.output; after = λ p. stepped take_in p.numbers p.output }

-- one unit leaves one number fewer
lowers_by : (f : ℕ → ℕ → ℕ) (ns : List ℕ) (output : ℕ) → 0 < length ns → length (stepped f ns output).numbers ≡ length ns - 1
lowers_by f [] output some = refl
lowers_by f (n ∷ ns) output some = sym (sub-one (length (n ∷ ns)))

-- taking numbers in keeps the law of work
pub taking_in_lowers : (f : ℕ → ℕ → ℕ) → Lowers (taking_in f)
taking_in_lowers f p some = lowers_by f p.numbers p.output some

-- adding numbers up
abbrev pub summing : Meaning Progress
summing = taking_in (λ total n. total + n)

-- seeking the greatest number
abbrev pub peaking : Meaning Progress
peaking = taking_in (λ greatest n. max greatest n)

-- the number is the greatest of the list, or 0 if the list has no number
pub record IsPeak (numbers : List ℕ) (peak : ℕ) : Type 0 where
  pub bound : All (λ n. n ≤ peak) numbers
  pub member : 0 < length numbers → Contains numbers peak
  pub none : numbers ≡ [] → peak ≡ 0
