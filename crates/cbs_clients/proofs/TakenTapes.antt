-- What a tape hands out, its house hands out.
use Rattle.std.specs.Prelude.{◌≡◌, ◌↔◌, ◌<◌, ℕ, List, length, Option, Some, None, IfSome, IfNone, IsNone}
use Rattle.std.proofs.Common.{refl, sym, ap, ◌∙◌}
use Rattle.cbs_job.specs.declared.work.Work.{Ghosts}
use Rattle.cbs_tape.specs.Tapes.{Taped, HandsOut}
use Rattle.cbs_clients.specs.declared.house.House.{House}
use Rattle.cbs_clients.specs.Houses.{tape_of, TakesTape, SameHouse, IsTooShort}

-- the tape that is too short, or not, is the one that is there
pub too_short : (o : Option Taped) (t : Taped) (r : Option ℕ) (n : ℕ) → o ≡ Some t → (IsNone r ↔ (n < t.size)) → IsNone r ↔ IsTooShort o n
too_short o t r n is h = rw is h

module _ {W A : Type 0} {g : Ghosts W} (a b : House W A g) (had has : Taped) (before after : List ℕ) (old : tape_of a ≡ Some had) (new : tape_of b ≡ Some has)
    (core : b.core ≡ a.core) (rings : b.rings ≡ a.rings) (shelves : b.collector ≡ a.collector) where
  -- what the tape handed out
  pub takes : (r : Option ℕ) → IfSome r (λ n. HandsOut n had has before after) → IfSome r (λ n. TakesTape n a b before after)
  takes None h = tt
  takes (Some n) h = record {
    had = had;
    has = has;
    old_tape = old;
    new_tape = new;
    handed = h;
    core = core;
    rings = rw rings refl;
    seats = λ s. rw (rings, shelves) refl;
  }

  -- a tape that handed out nothing
  pub stays : (r : Option ℕ) → IfNone r ((has ≡ had) × (after ≡ before)) → IfNone r (SameHouse a b × (after ≡ before))
  stays None h = (
    record {
      core = core;
      rings = rw rings refl;
      tape = new ∙ (ap (λ (t : Taped). Some t) h.0 ∙ sym old);
      seats = λ s. rw (rings, shelves) refl;
    },
    h.1,
  )
  stays (Some n) h = tt
