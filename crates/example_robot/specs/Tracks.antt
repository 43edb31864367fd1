-- A job that follows a distance by the readings of a sensor.
use Rattle.std.specs.Prelude.{◌≡◌, ℕ, ◌+◌, ◌-◌, ◌*◌, ◌/◌, ◌<◌, ◌&&◌, Bool, ltb, cond, List, [], ◌∷◌, length}
use Rattle.std.proofs.Common.{refl, sym}
use Rattle.std.proofs.Math.Numerals.{sub-one}
use Rattle.cbs_job.specs.Work.{Meaning, Lowers}

-- How far the job has come: the readings not yet taken in, and the distance as estimated so far. Also, how many
-- readings in a row were put aside as outliers
pub record Track : Type 0 where
  pub readings : List ℕ
  pub distance : ℕ
  pub outliers : ℕ

-- a reading goes into the estimate by a quarter
abbrev pub smoothed : ℕ → ℕ → ℕ
smoothed distance reading = (3 * distance + reading) / 4

-- a reading further than 500 from the estimate is an outlier, but not the third in a row
abbrev pub is_outlier : ℕ → ℕ → ℕ → Bool
is_outlier distance outliers reading = ltb 500 (distance - reading + (reading - distance)) && ltb outliers 2

-- the track after one unit, which takes in the next reading or puts it aside
abbrev pub tracked : List ℕ → ℕ → ℕ → Track
tracked [] distance outliers = record { readings = []; distance = distance; outliers = outliers }
tracked (r ∷ rs) distance outliers =
    let aside = is_outlier distance outliers r in
    record { readings = rs; distance = cond aside distance (smoothed distance r); outliers = cond aside (outliers + 1) 0 }

-- the work of following a distance, with one reading in each unit; the output is the estimate
abbrev pub tracking : Meaning Track
tracking = record { left = λ t. length t.readings; output = λ t. t.distance; after = λ t. tracked t.readings t.distance t.outliers }

-- one unit leaves one reading fewer
lowers_by : (rs : List ℕ) (distance outliers : ℕ) → 0 < length rs → length (tracked rs distance outliers).readings ≡ length rs - 1
lowers_by [] distance outliers some = refl
lowers_by (r ∷ rs) distance outliers some = sym (sub-one (length (r ∷ rs)))

-- following a distance keeps the law of work
pub tracking_lowers : Lowers tracking
tracking_lowers t some = lowers_by t.readings t.distance t.outliers some
