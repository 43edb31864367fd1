-- What is read off a face.
use Rattle.std.proofs.Common.{◌≡◌, ℕ, zero, suc, ap, ◌<◌, true, false, List, [], ◌∷◌, length, map, Some, None, refl, inl, inr, arith}
use Rattle.std.proofs.lemmas.Bool.{cases_Bool}
use Rattle.std.proofs.Math.ListN.{get_or-map}
use Rattle.std.proofs.lemmas.Bool.Decides.{nat_tests}
use Rattle.std.proofs.lemmas.List.{length-map}
use Rattle.cbs_steps.specs.Choice.{Rank, rank_at}
use Rattle.cbs_steps.specs.Faces.{Face, face_at, no_face, new_face, is_active, is_ready, ready_by, ranks, with_job}
use Rattle.cbs_rules.specs.Rules.{Terms}

-- the choice sees each server
pub length-ranks : (fs : List Face) → length (ranks fs) ≡ length fs
length-ranks fs = simp length-map

-- what the choice sees of a server
pub rank_ready : (fs : List Face) (s : ℕ) → (rank_at (ranks fs) s).ready ≡ is_ready (face_at fs s)
rank_ready fs s =
    ap (λ (r : Rank). r.ready) (get_or-map (λ (f : Face). record { ready = is_ready f; deadline = f.state.deadline }) fs s no_face)

-- a ready server is active and not throttled
pub record IsRunnable (f : Face) : Type 0 where
  pub active : f.finished < f.accepted
  pub free : f.state.throttled ≡ false

-- so it is of each ready server
pub runnable : (f : Face) → is_ready f ≡ true → IsRunnable f
runnable f ready = record { active = grind (arith, nat_tests); free = grind (arith, nat_tests) }

-- a server's deadline, as the choice sees it
pub rank_deadline : (fs : List Face) (s : ℕ) → (rank_at (ranks fs) s).deadline ≡ (face_at fs s).state.deadline
rank_deadline fs s =
    ap (λ (r : Rank). r.deadline) (get_or-map (λ (f : Face). record { ready = is_ready f; deadline = f.state.deadline }) fs s no_face)

-- a server that runs by a deadline is ready, and that is its deadline
pub record RunsBy (f : Face) (d : ℕ) : Type 0 where
  pub ready : is_ready f ≡ true
  pub deadline : f.state.deadline ≡ d

-- so it is of each server that runs by a deadline
pub runs_by : (f : Face) (d : ℕ) → ready_by f ≡ Some d → RunsBy f d
runs_by f d h = elim (cases_Bool (is_ready f)) [
  | inl t ↦ let same : Some f.state.deadline ≡ Some d = rw t at h in record { ready = t; deadline = cc }
  | inr f' ↦ absurd (let none = rw f' at h in cc)
]

-- a server that runs by no deadline is not ready
pub not_ready : (f : Face) → None ≡ ready_by f → is_ready f ≡ false
not_ready f h = elim (cases_Bool (is_ready f)) [ inl t ↦ absurd (let some = rw t at h in cc) | inr n ↦ n ]

-- a server that is ready is there
pub ready_within : (fs : List Face) (s : ℕ) → is_ready (face_at fs s) ≡ true → s < length fs
ready_within [] s h = absurd (cc)
ready_within (f ∷ fs) zero h = omega arith
ready_within (f ∷ fs) (suc s) h = let lt = ready_within fs s h in omega arith

-- a job that comes in after others changes nothing of the deadline by which a server runs
pub ready_behind : (now : ℕ) (f : Face) → is_active f ≡ true → ready_by (with_job now f) ≡ ready_by f
ready_behind now f a = let b : is_active (with_job now f) ≡ true = grind (arith, nat_tests) in rw (a, b) refl

-- nobody is ready among new servers, nor due
pub new_idle : (ts : List Terms) (s : ℕ) → is_ready (face_at (map new_face ts) s) ≡ false
new_idle [] s = refl
new_idle (t ∷ ts) zero = refl
new_idle (t ∷ ts) (suc s) = new_idle ts s
