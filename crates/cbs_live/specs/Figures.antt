-- The figures of one server, and what they are the figures of.
use Rattle.std.specs.Prelude.{ℕ, ◌≡◌, ◌+◌, ◌-◌, ◌*◌, ◌/◌, ◌%◌, ◌≤◌, ◌<◌, ◌&&◌, min, List, [], ◌∷◌, ◌++◌, length, sum, replicate, slice_index, nat_lt, nat_le, Option, Some, None, if◌then◌else◌}
use Rattle.cbs_live.specs.declared.figures.Figures.{Figures}
use Rattle.cbs_live.specs.declared.figures.Ended.{Ended}
use Rattle.cbs_live.specs.Spreads.{most, IsSpreadOf}

-- What a server did in so many ticks of the house's clock: when each of its jobs was accepted, in
-- the order of their numbers. The responses of jobs that are done, and the latenesses and the
-- charges of units that have ended, each the newest first
pub record Past : Type 0 where
  pub ticks : ℕ
  pub accepted : List ℕ
  pub responses : List ℕ
  pub latenesses : List ℕ
  pub charges : List ℕ

-- nothing was done yet
abbrev pub no_past : Past
no_past = record { ticks = 0; accepted = []; responses = []; latenesses = []; charges = [] }

-- so many jobs are accepted in all: those that were not before, at this time
abbrev pub past_with_jobs : ℕ → ℕ → Past → Past
past_with_jobs accepted time p = record p { accepted = p.accepted ++ replicate (accepted - length p.accepted) time }

-- when job q was accepted, if it is one of the last n that were
abbrev pub time_of : ℕ → Past → ℕ → Option ℕ
time_of n p q = if nat_lt q (length p.accepted) && nat_le (length p.accepted) (q + n) then Some (slice_index p.accepted q) else None

-- some responses, and that of a job that ends now and was accepted at a time that is known, or none
abbrev pub responses_with : ℕ → Option ℕ → List ℕ → List ℕ
responses_with now (Some time) responses = (now - time) ∷ responses
responses_with now None responses = responses

-- when the job was accepted that the unit finished, if there is one, and it is one of the last n
-- that were accepted
abbrev pub time_of_done : ℕ → Past → Option ℕ → Option ℕ
time_of_done n p (Some q) = time_of n p q
time_of_done n p None = None

-- a unit has ended
abbrev pub past_with_unit : ℕ → Ended → Past → Past
past_with_unit n unit p = record p {
  responses = responses_with unit.time (time_of_done n p unit.done) p.responses;
  latenesses = unit.lateness ∷ p.latenesses;
  charges = unit.charged ∷ p.charges;
}

-- a ring of n places has the time of each of the last n jobs that were accepted: that of job q at
-- place q % n
abbrev pub Remembers : List ℕ → List ℕ → Type 0
Remembers came times =
    (q : ℕ) → q < length times → length times ≤ q + length came
    → slice_index came (q % length came) ≡ slice_index times q

-- These figures, with their ring of times, are those of a server that did this. Each number stops
-- at the greatest of 64 bits
pub record AreFiguresOf (f : Figures) (came : List ℕ) (p : Past) : Type 0 where
  pub ticks : f.ticks ≡ p.ticks
  pub accepted : f.accepted ≡ length p.accepted
  pub units : f.units ≡ min (length p.latenesses) most
  pub charged : f.charged ≡ min (sum p.charges) most
  pub responses : IsSpreadOf f.responses p.responses
  pub lateness : IsSpreadOf f.lateness p.latenesses
  pub remembered : Remembers came p.accepted

-- Figures of what a server did have become figures of what it did since, too: `since` adds that to
-- each past
abbrev pub Notes : Figures → List ℕ → Figures → List ℕ → (Past → Past) → Type 0
Notes old came new came' since = (p : Past) → AreFiguresOf old came p → AreFiguresOf new came' (since p)

-- of a thousand ticks of the house's clock, those of the server's units and those charged for them
abbrev pub share_of : Figures → ℕ
share_of f = min ((f.units + f.charged) * 1000 / f.ticks) most
