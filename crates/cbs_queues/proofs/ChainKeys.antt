-- Chains of keys: where a key stands, and what slots that agree on a chain's keys give.
use Rattle.std.proofs.Common.{◌≡◌, ◌≢◌, ℕ, zero, suc, ◌<◌, ◌≤◌, List, [], ◌∷◌, ◌++◌, length, map, replicate, get_or, set, Option, Some, None, IsSome}
use Rattle.std.proofs.Common.{refl, ap, ◌∙◌, inl, inr, arith}
use Rattle.std.proofs.lemmas.Bool.{cases_lt}
use Rattle.std.proofs.lemmas.List.{get_or-map, get_or_past, get_or_default, length-map}
use Rattle.std.proofs.lemmas.List.Folds.{sum_by-replicate}
use Rattle.cbs_lists.specs.Lists.{changed_at}
use Rattle.cbs_queues.specs.Queues.{list_at}
use Rattle.cbs_queues.specs.declared.chains.Node.{Node}
use Rattle.cbs_queues.specs.declared.chains.Ends.{Ends}
use Rattle.cbs_queues.specs.Chains.{no_ends, ends_at, node_at, next_of, key_from, value_before, chain, list_of, lists_of, IsSound}

-- a key that holds something is one of the slots
pub within_slots : {X : Type 0} (slots : List (Option X)) (k : ℕ) → IsSome (get_or slots k None) → k < length slots
within_slots slots k some =
    elim (cases_lt k (length slots)) [ inl lt ↦ lt | inr ge ↦ let past = get_or_past slots k None ge in cc ]

module _ {T : Type 0} where
  -- one link more
  pub key_behind : (slots : List (Option (Node T))) (k i : ℕ)
      → key_from slots k (suc i) ≡ next_of (node_at slots (key_from slots k i))
  key_behind slots k zero = refl
  key_behind slots k (suc i) = key_behind slots (next_of (node_at slots k)) i

  -- a value makes a list longer by one
  length-value_before : (o : Option (Node T)) (rest : List T) → IsSome o
      → length (value_before o rest) ≡ suc (length rest)
  length-value_before None rest some = cc
  length-value_before (Some node) rest some = refl

  -- a value stands before both of two lists
  value_before-append : (o : Option (Node T)) (xs ys : List T) → value_before o (xs ++ ys) ≡ value_before o xs ++ ys
  value_before-append None xs ys = refl
  value_before-append (Some node) xs ys = refl

  -- a chain of n keys that all hold a value has n values
  length-chain : (slots : List (Option (Node T))) (n k : ℕ)
      → ((i : ℕ) → i < n → IsSome (node_at slots (key_from slots k i)))
      → length (chain slots n k) ≡ n
  length-chain slots zero k held = refl
  length-chain slots (suc n) k held =
      length-value_before (node_at slots k) (chain slots n (next_of (node_at slots k))) (held 0 (omega arith))
      ∙ ap suc (length-chain slots n (next_of (node_at slots k)) (λ i lt. held (suc i) (omega arith)))

  module _ (slots later : List (Option (Node T))) where
    -- slots that agree on the first i keys have the same next key
    pub key_kept : (k i : ℕ)
        → ((j : ℕ) → j < i → node_at later (key_from slots k j) ≡ node_at slots (key_from slots k j))
        → key_from later k i ≡ key_from slots k i
    key_kept k zero same = refl
    key_kept k (suc i) same =
        rw (same 0 (omega arith)) (key_kept (next_of (node_at slots k)) i (λ j lt. same (suc j) (omega arith)))

    -- slots that agree on all keys of a chain have the same values there
    pub chain_kept : (n k : ℕ)
        → ((j : ℕ) → j < n → node_at later (key_from slots k j) ≡ node_at slots (key_from slots k j))
        → chain later n k ≡ chain slots n k
    chain_kept zero k same = refl
    chain_kept (suc n) k same =
        let rest = chain_kept n (next_of (node_at slots k)) (λ j lt. same (suc j) (omega arith)) in
        rw (same 0 (omega arith)) (ap (value_before (node_at slots k)) rest)

    -- a chain that is longer by one: what was its last key is followed by q now, and all before it is as it was
    pub chain_pushed : (m k : ℕ) (last : Node T) (q : ℕ) (new : Node T)
        → ((j : ℕ) → j < m → node_at later (key_from slots k j) ≡ node_at slots (key_from slots k j))
        → node_at slots (key_from slots k m) ≡ Some last
        → node_at later (key_from slots k m) ≡ Some (record { value = last.value; next = q })
        → node_at later q ≡ Some new
        → chain later (suc (suc m)) k ≡ chain slots (suc m) k ++ new.value ∷ []
    chain_pushed zero k last q new same was is found = rw (is, found, was) refl
    chain_pushed (suc m) k last q new same was is found =
        let kept = λ (j : ℕ) (lt : j < m). same (suc j) (omega arith) in
        let rest = chain_pushed m (next_of (node_at slots k)) last q new kept was is found in
        rw (same 0 (omega arith)) (ap (value_before (node_at slots k)) rest ∙ value_before-append (node_at slots k) _ _)

-- two maps that agree on every element
map_same : {X Y : Type 0} (f g : X → Y) (xs : List X) (d : X)
    → ((t : ℕ) → t < length xs → f (get_or xs t d) ≡ g (get_or xs t d)) → map f xs ≡ map g xs
map_same f g [] d same = refl
map_same f g (x ∷ xs) d same = rw (same 0 (omega arith), map_same f g xs d (λ t lt. same (suc t) (omega arith)))

-- one element is written, and every other one is mapped to what it was mapped to before
pub map_written : {X Y : Type 0} (before after : X → Y) (change : Y → Y) (xs : List X) (s : ℕ) (x d : X) → s < length xs
    → after x ≡ change (before (get_or xs s d))
    → ((t : ℕ) → t ≢ s → t < length xs → after (get_or xs t d) ≡ before (get_or xs t d))
    → map after (set xs s x) ≡ changed_at change (map before xs) s
map_written before after change [] s x d lt here others = absurd (omega arith)
map_written before after change (y ∷ xs) zero x d lt here others =
    rw (here, map_same after before xs d (λ t below. others (suc t) (λ e. omega arith) (omega arith)))
map_written before after change (y ∷ xs) (suc s) x d lt here others =
    let rest = map_written before after change xs s x d (omega arith) here
    (λ t ne below. others (suc t) (λ e. ne (omega arith)) (omega arith)) in
    rw (others 0 (λ e. omega arith) (omega arith), rest)

-- the ends that a read of the table gives
pub ends_read : (ends : List Ends) (i s : ℕ) (e : Ends) → i ≡ s → s < length ends → e ≡ get_or ends i e
    → e ≡ ends_at ends s
ends_read ends i s e same within read = read ∙ rw same (get_or_default ends s e no_ends within)

module _ {T : Type 0} (slots : List (Option (Node T))) (ends : List Ends) where
  -- there is a list for each ends
  pub within_lists : (s : ℕ) → s < length (lists_of slots ends) → s < length ends
  within_lists s lt = omega (arith, length-map ends (list_of slots))

  -- a server with a value is one of the table
  pub within_list : (s : ℕ) → 0 < length (list_at (lists_of slots ends) s) → s < length ends
  within_list s some = elim (cases_lt s (length ends)) [
    | inl lt ↦ lt
    | inr ge ↦
        let beyond : length (lists_of slots ends) ≤ s = omega (arith, length-map ends (list_of slots)) in
        let past : list_at (lists_of slots ends) s ≡ [] = get_or_past (lists_of slots ends) s [] beyond in
        let none : length (list_at (lists_of slots ends) s) ≡ 0 = ap length past in
        absurd (omega arith)
  ]

  -- the list of a server is what stands between its ends
  pub list_here : (s : ℕ) → s < length ends → list_at (lists_of slots ends) s ≡ list_of slots (ends_at ends s)
  list_here s within = get_or-map (list_of slots) ends s no_ends [] within

  -- the length that is kept is that of the list
  pub length-list : IsSound slots ends → (s : ℕ) → s < length ends
      → length (list_at (lists_of slots ends) s) ≡ (ends_at ends s).len
  length-list sound s within =
      ap length (list_here s within)
      ∙ length-chain slots (ends_at ends s).len (ends_at ends s).head (λ i lt. sound.held s i lt)

-- at the start each list is empty
pub lists_opened : {T : Type 0} (slots : List (Option (Node T))) (n : ℕ)
    → lists_of slots (replicate n no_ends) ≡ replicate n []
lists_opened slots zero = refl
lists_opened slots (suc n) = ap (λ xs. [] ∷ xs) (lists_opened slots n)

-- each of so many servers has the ends of an empty list
ends_opened : (n s : ℕ) → ends_at (replicate n no_ends) s ≡ no_ends
ends_opened zero s = refl
ends_opened (suc n) zero = refl
ends_opened (suc n) (suc s) = ends_opened n s

-- empty lists are sound over an empty slab
pub sound_opened : {T : Type 0} (n : ℕ) → IsSound {T = T} [] (replicate n no_ends)
sound_opened n = record {
  held = λ s i lt. absurd (none s i lt);
  apart = λ s t i j lt lu e. absurd (none s i lt);
  tails = λ s some. absurd (none s 0 some);
  counted = omega (arith, sum_by-replicate (λ (e : Ends). e.len) n no_ends);
}
  where
    none : (s i : ℕ) → i < (ends_at (replicate n no_ends) s).len → ⊥
    none s i lt = let here = rw (ends_opened n s) at lt in omega arith
