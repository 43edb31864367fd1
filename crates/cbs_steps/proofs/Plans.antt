-- The servers of a plan, taken one by one.
use Rattle.std.proofs.Common.{◌≡◌, ℕ, zero, suc, ◌+◌, ◌≤◌, List, [], ◌∷◌, ◌++◌, length, take, map, ap, refl, add-one, Some, arith}
use Rattle.std.specs.Prelude.{slice_get}
use Rattle.std.proofs.lemmas.List.{take_all, length-map}
use Rattle.cbs_rate.specs.Rate.{Rate}
use Rattle.cbs_rules.specs.declared.mode.Mode.{Mode}
use Rattle.cbs_steps.specs.Faces.{Face, new_face, reservations}
use Rattle.cbs_steps.specs.Setups.{terms_of}

-- the terms of the first n + 1 servers are those of the first n, and then those of server n
next_terms : (modes : List Mode) (rates : List Rate) (n : ℕ) (m : Mode) (r : Rate) → Some m ≡ slice_get modes n → Some r ≡ slice_get rates n
    → map new_face (take (suc n) (terms_of modes rates)) ≡ map new_face (take n (terms_of modes rates)) ++ new_face (record { mode = m; reservation = r }) ∷ []
next_terms [] rates n m r e f = cc
next_terms (k ∷ modes) [] n m r e f = cc
next_terms (k ∷ modes) (q ∷ rates) zero m r e f = let same : m ≡ k = cc in let equal : r ≡ q = cc in rw (same, equal) refl
next_terms (k ∷ modes) (q ∷ rates) (suc n) m r e f = ap (λ fs. new_face (record { mode = k; reservation = q }) ∷ fs) (next_terms modes rates n m r e f)

-- there are as many terms as reservations, if there are as many modes
pub length-terms : (modes : List Mode) (rates : List Rate) → length modes ≡ length rates → length (terms_of modes rates) ≡ length rates
length-terms [] [] e = refl
length-terms [] (r ∷ rates) e = cc
length-terms (m ∷ modes) [] e = cc
length-terms (m ∷ modes) (r ∷ rates) e = ap suc (length-terms modes rates (omega arith))

-- new servers have the reservations that they were given
pub new_reservations : (modes : List Mode) (rates : List Rate) → length modes ≡ length rates → reservations (map new_face (terms_of modes rates)) ≡ rates
new_reservations [] [] e = refl
new_reservations [] (r ∷ rates) e = cc
new_reservations (m ∷ modes) [] e = cc
new_reservations (m ∷ modes) (r ∷ rates) e = ap (λ rs. r ∷ rs) (new_reservations modes rates (omega arith))

module _ (modes : List Mode) (rates : List Rate) where
  -- one more server
  pub faces_more : (n : ℕ) (m : Mode) (r : Rate) (fs fs' : List Face) → Some m ≡ slice_get modes n → Some r ≡ slice_get rates n
      → fs ≡ map new_face (take n (terms_of modes rates))
      → fs' ≡ fs ++ new_face (record { mode = m; reservation = r }) ∷ [] → fs' ≡ map new_face (take (n + 1) (terms_of modes rates))
  faces_more n m r fs fs' mode found before pushed = rw (pushed, before, add-one, next_terms modes rates n m r mode found) refl

  -- all of them
  pub faces_all : (n : ℕ) (fs : List Face) → length (terms_of modes rates) ≤ n → fs ≡ map new_face (take n (terms_of modes rates))
      → fs ≡ map new_face (terms_of modes rates)
  faces_all n fs all e = rw e (ap (map new_face) (take_all n (terms_of modes rates) all))

  -- each reservation has a face
  pub length-faces : length modes ≡ length rates → length (map new_face (terms_of modes rates)) ≡ length rates
  length-faces same = rw (length-map (terms_of modes rates) new_face) (length-terms modes rates same)
