-- Lists of which one element is changed, and two lists place by place.
use Rattle.std.proofs.Common.{◌≡◌, ◌≢◌, ℕ, zero, suc, ◌<◌, List, [], ◌∷◌, ◌++◌, length, map, replicate, take, get_or, set, refl, ap, arith}
use Rattle.std.proofs.lemmas.List.{length-map}
use Rattle.std.proofs.lemmas.List.Elements.{All-same, All-push}
use Rattle.std.specs.List.{All, AllZip, AllByRecursion}
use Rattle.cbs_lists.specs.Lists.{changed_at}

-- a change of one element keeps the length
pub length-changed_at : {X : Type 0} (f : X → X) (xs : List X) (i : ℕ) → length (changed_at f xs i) ≡ length xs
length-changed_at f [] i = refl
length-changed_at f (x ∷ xs) zero = refl
length-changed_at f (x ∷ xs) (suc i) = ap suc (length-changed_at f xs i)

-- no change of one element or of all changes how many there are
pub ruleset counted = (length-changed_at, length-map)

-- the element at the place of a change
pub changed_here : {X : Type 0} (f : X → X) (xs : List X) (i : ℕ) (d : X) → i < length xs → get_or (changed_at f xs i) i d ≡ f (get_or xs i d)
changed_here f [] i d lt = absurd (omega arith)
changed_here f (x ∷ xs) zero d lt = refl
changed_here f (x ∷ xs) (suc i) d lt = changed_here f xs i d (omega arith)

-- all else stays
pub changed_elsewhere : {X : Type 0} (f : X → X) (xs : List X) (i j : ℕ) (d : X) → j ≢ i → get_or (changed_at f xs i) j d ≡ get_or xs j d
changed_elsewhere f [] i j d ne = refl
changed_elsewhere f (x ∷ xs) zero zero d ne = absurd (ne refl)
changed_elsewhere f (x ∷ xs) zero (suc j) d ne = refl
changed_elsewhere f (x ∷ xs) (suc i) zero d ne = refl
changed_elsewhere f (x ∷ xs) (suc i) (suc j) d ne = changed_elsewhere f xs i j d (λ e. ne (ap suc e))

-- an element that was read and written back, which is the same change
pub written : {X : Type 0} (f : X → X) (xs : List X) (i s : ℕ) (x y : X) → i ≡ s → s < length xs → x ≡ get_or xs i x → y ≡ f x → set xs i y ≡ changed_at f xs s
written f xs i s x y same lt read e = rw (same, e) (here f xs s x lt (rw same at read))
  where
    here : {X : Type 0} (f : X → X) (xs : List X) (i : ℕ) (x : X) → i < length xs → x ≡ get_or xs i x → set xs i (f x) ≡ changed_at f xs i
    here f [] i x lt read = absurd (omega arith)
    here f (z ∷ zs) zero x lt read = ap (λ v. f v ∷ zs) read
    here f (z ∷ zs) (suc i) x lt read = ap (λ ws. z ∷ ws) (here f zs i x (omega arith) read)

-- if a list of lists has an element, there is a list
pub within_lists : {X : Type 0} (lists : List (List X)) (s : ℕ) → 0 < length (get_or lists s []) → s < length lists
within_lists [] s some = absurd (omega arith)
within_lists (xs ∷ lists) zero some = omega arith
within_lists (xs ∷ lists) (suc s) some = let l = within_lists lists s some in omega arith

module _ {X Y : Type 0} (h : X → Y) (f : X → X) (g : Y → Y) where
  -- a change, as a part of each element is seen
  pub map-changed_at : (xs : List X) (i : ℕ) (d : X) → h (f (get_or xs i d)) ≡ g (h (get_or xs i d)) → map h (changed_at f xs i) ≡ changed_at g (map h xs) i
  map-changed_at [] i d e = refl
  map-changed_at (x ∷ xs) zero d e = ap (λ y. y ∷ map h xs) e
  map-changed_at (x ∷ xs) (suc i) d e = ap (λ ys. h x ∷ ys) (map-changed_at xs i d e)

-- a part of each element that a change keeps, if all are changed
pub map_kept : {X Y : Type 0} (g : X → Y) (f : X → X) (xs : List X) → ((x : X) → g (f x) ≡ g x) → map g (map f xs) ≡ map g xs
map_kept g f [] same = refl
map_kept g f (x ∷ xs) same = rw (same x, map_kept g f xs same) refl

-- or one is
pub changed_kept : {X Y : Type 0} (g : X → Y) (f : X → X) (xs : List X) (i : ℕ) → ((x : X) → g (f x) ≡ g x) → map g (changed_at f xs i) ≡ map g xs
changed_kept g f [] i same = refl
changed_kept g f (x ∷ xs) zero same = rw (same x) refl
changed_kept g f (x ∷ xs) (suc i) same = rw (changed_kept g f xs i same) refl

-- what holds of each, and is weaker
pub AllByRecursion-weaker : {X : Type 0} (P Q : X → Type 0) (xs : List X) → AllByRecursion P xs → ((x : X) → P x → Q x) → AllByRecursion Q xs
AllByRecursion-weaker P Q [] all k = tt
AllByRecursion-weaker P Q (x ∷ xs) all k = (k x all.0, AllByRecursion-weaker P Q xs all.1 k)

-- what holds of each, as each is mapped
pub AllByRecursion-map : {X Y : Type 0} (P : X → Type 0) (Q : Y → Type 0) (f : X → Y) (xs : List X) → AllByRecursion P xs → ((x : X) → P x → Q (f x))
    → AllByRecursion Q (map f xs)
AllByRecursion-map P Q f [] all h = tt
AllByRecursion-map P Q f (x ∷ xs) all h = (h x all.0, AllByRecursion-map P Q f xs all.1 h)

-- what holds of each mapped element
pub AllByRecursion-mapped : {X Y : Type 0} (P : Y → Type 0) (f : X → Y) (xs : List X) → AllByRecursion P (map f xs) → AllByRecursion (λ x. P (f x)) xs
AllByRecursion-mapped P f [] all = tt
AllByRecursion-mapped P f (x ∷ xs) all = (all.0, AllByRecursion-mapped P f xs all.1)

-- what holds of each place holds of each
pub AllByRecursion-make : {X : Type 0} (P : X → Type 0) (xs : List X) (d : X) → ((i : ℕ) → i < length xs → P (get_or xs i d)) → AllByRecursion P xs
AllByRecursion-make P [] d h = tt
AllByRecursion-make P (x ∷ xs) d h = (h 0 (omega arith), AllByRecursion-make P xs d (λ i lt. h (suc i) (omega arith)))

-- what holds of each holds of one
pub AllByRecursion-get : {X : Type 0} (P : X → Type 0) (xs : List X) (i : ℕ) (d : X) → AllByRecursion P xs → i < length xs → P (get_or xs i d)
AllByRecursion-get P [] i d all lt = absurd (omega arith)
AllByRecursion-get P (x ∷ xs) zero d all lt = all.0
AllByRecursion-get P (x ∷ xs) (suc i) d all lt = AllByRecursion-get P xs i d all.1 (omega arith)

-- what holds of each, as one is changed
pub AllByRecursion-changed_at : {X : Type 0} (P Q : X → Type 0) (f : X → X) (xs : List X) (i : ℕ) (d : X) → AllByRecursion P xs → ((x : X) → P x → Q x)
    → (P (get_or xs i d) → Q (f (get_or xs i d))) → AllByRecursion Q (changed_at f xs i)
AllByRecursion-changed_at P Q f [] i d all k h = tt
AllByRecursion-changed_at P Q f (x ∷ xs) zero d all k h = (h all.0, AllByRecursion-weaker P Q xs all.1 k)
AllByRecursion-changed_at P Q f (x ∷ xs) (suc i) d all k h = (k x all.0, AllByRecursion-changed_at P Q f xs i d all.1 k h)

-- what holds of each holds with another at one place
pub AllByRecursion-set : {X : Type 0} (P : X → Type 0) (xs : List X) (i : ℕ) (y : X) → AllByRecursion P xs → P y → AllByRecursion P (set xs i y)
AllByRecursion-set P [] i y all h = tt
AllByRecursion-set P (x ∷ xs) zero y all h = (h, all.1)
AllByRecursion-set P (x ∷ xs) (suc i) y all h = (all.0, AllByRecursion-set P xs i y all.1 h)

-- what holds of the first few holds of one more, with another in its place
pub AllByRecursion-take_set : {X : Type 0} (P : X → Type 0) (xs : List X) (i : ℕ) (y : X) → i < length xs → AllByRecursion P (take i xs) → P y
    → AllByRecursion P (take (suc i) (set xs i y))
AllByRecursion-take_set P [] i y lt all h = absurd (omega arith)
AllByRecursion-take_set P (x ∷ xs) zero y lt all h = (h, tt)
AllByRecursion-take_set P (x ∷ xs) (suc i) y lt all h = (all.0, AllByRecursion-take_set P xs i y (omega arith) all.1 h)

-- two lists of the same measures are positive alike
pub positive_along : {X : Type 0} (f : X → ℕ) (xs ys : List X) → map f xs ≡ map f ys → AllByRecursion (λ x. 0 < f x) xs → AllByRecursion (λ x. 0 < f x) ys
positive_along f xs [] e all = tt
positive_along f [] (y ∷ ys) e all = cc
positive_along f (x ∷ xs) (y ∷ ys) e all = let h : f x ≡ f y = cc in (let p = all.0 in omega arith, positive_along f xs ys (cc) all.1)

module _ {X Y : Type 0} (R : X → Y → Type 0) where
  -- lists that agree place by place are of one length
  pub AllZip-length : (xs : List X) (ys : List Y) → AllZip R xs ys → length xs ≡ length ys
  AllZip-length [] [] all = refl
  AllZip-length (x ∷ xs) (y ∷ ys) all = ap suc (AllZip-length xs ys all.1)
  AllZip-length _ _ all = absurd all

  -- a change at one place of both
  pub AllZip-changed_at : (xs : List X) (ys : List Y) (i : ℕ) (d : X) (e : Y) (f : X → X) (g : Y → Y) → AllZip R xs ys → i < length xs
      → (R (get_or xs i d) (get_or ys i e) → R (f (get_or xs i d)) (g (get_or ys i e))) → AllZip R (changed_at f xs i) (changed_at g ys i)
  AllZip-changed_at [] ys i d e f g all lt h = absurd (omega arith)
  AllZip-changed_at (x ∷ xs) [] i d e f g all lt h = absurd all
  AllZip-changed_at (x ∷ xs) (y ∷ ys) zero d e f g all lt h = (h all.0, all.1)
  AllZip-changed_at (x ∷ xs) (y ∷ ys) (suc i) d e f g all lt h = (all.0, AllZip-changed_at xs ys i d e f g all.1 (omega arith) h)

  -- what holds place by place holds at one place
  pub AllZip-get : (xs : List X) (ys : List Y) (i : ℕ) (c : X) (d : Y) → AllZip R xs ys → i < length xs → R (get_or xs i c) (get_or ys i d)
  AllZip-get [] ys i c d all lt = absurd (omega arith)
  AllZip-get (z ∷ zs) [] i c d all lt = absurd all
  AllZip-get (z ∷ zs) (y ∷ ys) zero c d all lt = all.0
  AllZip-get (z ∷ zs) (y ∷ ys) (suc i) c d all lt = AllZip-get zs ys i c d all.1 (omega arith)

  -- equal elements beside those of a mapped list
  pub AllZip-replicate : {Z : Type 0} (x : X) (f : Z → Y) (zs : List Z) → ((z : Z) → R x (f z)) → AllZip R (replicate (length zs) x) (map f zs)
  AllZip-replicate x f [] h = tt
  AllZip-replicate x f (z ∷ zs) h = (h z, AllZip-replicate x f zs h)

  -- the second list is changed, and each pair stands as it stood
  pub AllZip-map : (g : Y → Y) (xs : List X) (ys : List Y) → AllZip R xs ys → ((x : X) (y : Y) → R x y → R x (g y)) → AllZip R xs (map g ys)
  AllZip-map g [] [] all h = tt
  AllZip-map g (x ∷ xs) (y ∷ ys) all h = (h x y all.0, AllZip-map g xs ys all.1 h)
  AllZip-map g _ _ all h = absurd all

  -- one of the second list is changed, and its pair stands as it stood
  pub AllZip-changed_second : (g : Y → Y) (xs : List X) (ys : List Y) (i : ℕ) → AllZip R xs ys → ((x : X) (y : Y) → R x y → R x (g y))
      → AllZip R xs (changed_at g ys i)
  AllZip-changed_second g [] [] i all h = tt
  AllZip-changed_second g (x ∷ xs) (y ∷ ys) zero all h = (h x y all.0, all.1)
  AllZip-changed_second g (x ∷ xs) (y ∷ ys) (suc i) all h = (all.0, AllZip-changed_second g xs ys i all.1 h)
  AllZip-changed_second g _ _ i all h = absurd all

-- what holds of each element of a list holds with one more after them
pub All_pushed : {X : Type 0} (P : X → Type 0) (xs xs' : List X) (x : X) → xs' ≡ xs ++ x ∷ [] → P x → All P xs → All P xs'
All_pushed P xs xs' x a p h = All-same P xs' (xs ++ x ∷ []) a (All-push P xs x h p)
