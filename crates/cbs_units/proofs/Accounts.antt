-- What is seen of a server does not change if each job is its units.
use Rattle.std.proofs.Common.{◌≡◌, ℕ, zero, suc, Bool, leb, List, [], ◌∷◌, length, take, map, refl, ap}
use Rattle.std.proofs.lemmas.List.{length-map, take-map}
use Rattle.std.proofs.Math.ListN.{get_or-map}
use Rattle.cbs_job.specs.Work.{Meaning}
use Rattle.cbs_lists.proofs.Sums.{sum_map}
use Rattle.cbs_steps.specs.Searches.{greatest}
use Rattle.cbs_steps.specs.Accounts.{Account, need, finished, face_of, no_account}
use Rattle.cbs_steps.specs.Faces.{Face, ranks}
use Rattle.cbs_steps.specs.Choice.{chosen_among}
use Rattle.cbs_steps.specs.History.{World, account, faces, chosen}
use Rattle.cbs_units.specs.declared.count.CountJob.{CountJob}
use Rattle.cbs_units.specs.Counting.{counting, counted, counted_account, counted_world}

-- two tests that agree have one greatest number
greatest_same : (p q : ℕ → Bool) (n : ℕ) → ((k : ℕ) → p k ≡ q k) → greatest p n ≡ greatest q n
greatest_same p q zero h = refl
greatest_same p q (suc n) h = rw (h (suc n), greatest_same p q n h) refl

-- one map after another
pub map_both : {X Y Z : Type 0} (f : X → Y) (g : Y → Z) (h : X → Z) (xs : List X) → ((x : X) → g (f x) ≡ h x) → map g (map f xs) ≡ map h xs
map_both f g h [] e = refl
map_both f g h (x ∷ xs) e = rw (e x, map_both f g h xs e) refl

-- two maps in either order
pub map_swap : {X Y : Type 0} (f : X → Y) (g : Y → Y) (h : X → X) (xs : List X) → ((x : X) → g (f x) ≡ f (h x)) → map g (map f xs) ≡ map f (map h xs)
map_swap f g h [] e = refl
map_swap f g h (x ∷ xs) e = rw (e x, map_swap f g h xs e) refl

module _ {W : Type 0} (work : Meaning W) where
  -- how many units the first k jobs need
  pub need_same : (a : Account W) (k : ℕ) → need counting (counted_account work a) k ≡ need work a k
  need_same a k = rw (take-map (counted work) k a.accepted) (sum_map (λ (j : CountJob). j.units) (counted work) (take k a.accepted))

  -- how many jobs are finished
  pub finished_same : (a : Account W) → finished counting (counted_account work a) ≡ finished work a
  finished_same a =
      rw (length-map a.accepted (counted work))
      (greatest_same (λ k. leb (need counting (counted_account work a) k) a.got) (λ k. leb (need work a k) a.got) (length a.accepted) (λ k. ap (λ n. leb n a.got) (need_same a k)))

  -- what is seen of a server
  pub face_same : (a : Account W) → face_of counting (counted_account work a) ≡ face_of work a
  face_same a = rw (finished_same a, length-map a.accepted (counted work)) refl

  pub faces_same : (w : World W) → faces counting (counted_world work w) ≡ faces work w
  faces_same w = map_both (counted_account work) (face_of counting) (face_of work) w.accounts face_same

  -- the choice
  pub chosen_same : (w : World W) → chosen counting (counted_world work w) ≡ chosen work w
  chosen_same w = ap (λ (fs : List Face). chosen_among (ranks fs)) (faces_same w)

  -- what is known of server s
  pub account_same : (w : World W) (s : ℕ) → account (counted_world work w).accounts s ≡ counted_account work (account w.accounts s)
  account_same w s = get_or-map (counted_account work) w.accounts s no_account
