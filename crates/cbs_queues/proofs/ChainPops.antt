-- The first value of a list: taken out, or written in place.
use Rattle.std.proofs.Common.{◌≡◌, ◌≢◌, ℕ, zero, suc, ◌+◌, ◌-◌, ◌<◌, List, ◌∷◌, length, get_or, set, drop, Option, Some, None, is_some, IsSome}
use Rattle.std.proofs.Common.{count_by, cond, refl, sym, ap, ◌∙◌, inl, inr, subst, arith}
use Rattle.std.proofs.lemmas.Bool.{cases_eq}
use Rattle.std.proofs.lemmas.List.{set-get_or, get_or-set_same, get_or-set_other}
use Rattle.std.proofs.lemmas.List.Sums.{sum_by-set}
use Rattle.cbs_lists.specs.Lists.{changed_at}
use Rattle.cbs_queues.specs.Queues.{list_at}
use Rattle.cbs_queues.specs.declared.chains.Node.{Node}
use Rattle.cbs_queues.specs.declared.chains.Ends.{Ends}
use Rattle.cbs_queues.specs.Chains.{no_ends, ends_at, ends_popped, node_at, next_of, key_from, key_at, chain, list_of, lists_of, IsSound}
use Rattle.cbs_queues.proofs.ChainKeys.{within_slots, key_kept, chain_kept, map_written, within_list, list_here, length-list}

module _ {T : Type 0} (slots : List (Option (Node T))) (e : Ends) (node : Node T)
    (found : node_at slots e.head ≡ Some node) where
  -- a list begins with the value at its head
  front : (n : ℕ) → 0 < n → chain slots n e.head ≡ node.value ∷ chain slots (n - 1) node.next
  front zero some = absurd (omega arith)
  front (suc n) some = let less : suc n - 1 ≡ n = omega arith in rw (found, less) refl

  -- the rest is what stands between the ends without it
  rest : 0 < e.len → drop 1 (list_of slots e) ≡ chain slots (e.len - 1) node.next
  rest some = ap (drop 1) (front e.len some)

  -- the list is its first value and the rest
  pub first_and_rest : 0 < e.len → list_of slots e ≡ node.value ∷ drop 1 (list_of slots e)
  first_and_rest some = rw (rest some) (front e.len some)

module _ {T : Type 0} (slots : List (Option (Node T))) (k : ℕ) (node : Node T) (w : T)
    (found : node_at slots k ≡ Some node) where
  -- the slots with w as the value at key k
  abbrev pub written : List (Option (Node T))
  written = set slots k (Some (record { value = w; next = node.next }))

  -- the key is one of the slots
  in_slots : k < length slots
  in_slots = within_slots slots k (rw found refl)

  -- it holds the new value
  pub written_here : node_at written k ≡ Some (record { value = w; next = node.next })
  written_here = get_or-set_same slots k _ None in_slots

  -- each other key holds what it held
  pub written_elsewhere : (j : ℕ) → j ≢ k → node_at written j ≡ node_at slots j
  written_elsewhere j ne = get_or-set_other slots k j _ None ne

  -- as many keys hold a value
  pub count_written : count_by is_some written ≡ count_by is_some slots
  count_written =
      let one : Option (Node T) → ℕ = λ o. cond (is_some o) 1 0 in
      let here : one (get_or slots k None) ≡ 1 = rw found refl in
      omega (arith, here, sum_by-set one slots k (Some (record { value = w; next = node.next })) None in_slots)

  -- each key is followed by the key that followed it
  next_kept : (j : ℕ) → next_of (node_at written j) ≡ next_of (node_at slots j)
  next_kept j =
      elim (cases_eq j k) [ inl e ↦ rw (e, written_here, found) refl | inr ne ↦ rw (written_elsewhere j ne) refl ]

  -- each key that held a value does so still
  some_kept : (j : ℕ) → IsSome (node_at slots j) → IsSome (node_at written j)
  some_kept j some =
      elim (cases_eq j k) [ inl e ↦ rw (e, written_here) refl | inr ne ↦ rw (written_elsewhere j ne) some ]

  -- the keys of each list stand where they stood
  keys_kept : (h i : ℕ) → key_from written h i ≡ key_from slots h i
  keys_kept h zero = refl
  keys_kept h (suc i) = rw (next_kept h) (keys_kept (next_of (node_at slots h)) i)

  -- lists are still sound if a value is written in place
  pub sound_written : (ends : List Ends) → IsSound slots ends → IsSound written ends
  sound_written ends sound = record {
    held = λ s i lt. rw (keys_kept (ends_at ends s).head i) (some_kept (key_at slots ends s i) (sound.held s i lt));
    apart = λ s t i j lt lu e.
        sound.apart s t i j lt lu (sym (keys_kept (ends_at ends s).head i) ∙ e ∙ keys_kept (ends_at ends t).head j);
    tails = λ s more. sound.tails s more ∙ sym (keys_kept (ends_at ends s).head ((ends_at ends s).len - 1));
    counted = sound.counted ∙ sym count_written;
  }

module _ {T : Type 0} (slots : List (Option (Node T))) (ends : List Ends) (s : ℕ) (sound : IsSound slots ends)
    (nonempty : 0 < length (list_at (lists_of slots ends) s)) where
  -- the ends of a server, and the key at one of its places
  abbrev was : ℕ → Ends
  was t = ends_at ends t

  abbrev key : ℕ → ℕ → ℕ
  key t i = key_at slots ends t i

  -- the server is one of the table
  within : s < length ends
  within = within_list slots ends s nonempty

  -- the length that is kept says that there is a value
  some : 0 < (was s).len
  some = omega (arith, length-list slots ends sound s within)

  -- the head of a list with a value holds one
  pub head_held : IsSome (node_at slots (was s).head)
  head_held = sound.held s 0 some

  -- it is the first of the list
  pub first_value : (node : Node T) → node_at slots (was s).head ≡ Some node
      → list_at (lists_of slots ends) s ≡ node.value ∷ drop 1 (list_at (lists_of slots ends) s)
  first_value node found = rw (list_here slots ends s within) (first_and_rest slots (was s) node found some)

  module _ (later : List (Option (Node T))) (node : Node T) (found : node_at slots (was s).head ≡ Some node)
      (others : (k : ℕ) → k ≢ (was s).head → node_at later k ≡ node_at slots k) where
    -- each key but the first of s holds what it held
    node_kept : (t i : ℕ) → i < (was t).len → (t ≡ s → 0 < i) → node_at later (key t i) ≡ node_at slots (key t i)
    node_kept t i lt behind = others (key t i) (λ e.
        let same = sound.apart t s i 0 lt some e in
        let later_on = behind same.0 in
        let first = same.1 in
        absurd (omega arith))

    -- the keys after the first of s
    shift : (i : ℕ) → key s (suc i) ≡ key_from slots node.next i
    shift i = rw found refl

    -- they hold what they held
    rest_kept : (j : ℕ) → j < (was s).len - 1
        → node_at later (key_from slots node.next j) ≡ node_at slots (key_from slots node.next j)
    rest_kept j lt = rw (shift j) at (node_kept s (suc j) (omega arith) (λ _. omega arith))

    -- the lists of the other servers are as they were
    lists_elsewhere : (t : ℕ) → t ≢ s → t < length ends → list_of later (was t) ≡ list_of slots (was t)
    lists_elsewhere t ne lt =
        chain_kept slots later (was t).len (was t).head (λ j below. node_kept t j below (λ e. absurd (ne e)))

    -- the rest of the list of s is as it was
    list_rest : chain later ((was s).len - 1) node.next ≡ drop 1 (list_of slots (was s))
    list_rest = chain_kept slots later ((was s).len - 1) node.next rest_kept ∙ sym (rest slots (was s) node found some)

    -- the lists after the first value of s was written
    lists_written_by : (w : T) → node_at later (was s).head ≡ Some (record { value = w; next = node.next })
        → lists_of later ends ≡ changed_at (λ values. w ∷ drop 1 values) (lists_of slots ends) s
    lists_written_by w here =
        ap (lists_of later) (sym (set-get_or ends s no_ends))
        ∙ map_written (list_of slots) (list_of later) (λ values. w ∷ drop 1 values) ends s (was s) no_ends within
        (front later (was s) (record { value = w; next = node.next }) here (was s).len some
        ∙ ap (λ values. w ∷ values) list_rest)
        lists_elsewhere

    -- the ends after the first value of s was taken out
    abbrev after : List Ends
    after = set ends s (ends_popped (was s) node.next)

    -- the ends of a server then, and the key at one of its places
    abbrev is : ℕ → Ends
    is t = ends_at after t

    abbrev key_now : ℕ → ℕ → ℕ
    key_now t i = key_at later after t i

    -- the lists after the first value of s was taken out
    pub lists_popped : lists_of later after ≡ changed_at (drop 1) (lists_of slots ends) s
    lists_popped =
        map_written (list_of slots) (list_of later) (drop 1)
        ends s (ends_popped (was s) node.next) no_ends within list_rest lists_elsewhere

    -- the ends of another server are as they were
    ends_elsewhere : (t : ℕ) → t ≢ s → is t ≡ was t
    ends_elsewhere t ne = get_or-set_other ends s t (ends_popped (was s) node.next) no_ends ne

    -- the ends of s are one value shorter
    ends_here : is s ≡ ends_popped (was s) node.next
    ends_here = get_or-set_same ends s (ends_popped (was s) node.next) no_ends within

    -- the keys of another server stand where they stood
    key_elsewhere : (t i : ℕ) → t ≢ s → i < (was t).len → key_now t i ≡ key t i
    key_elsewhere t i ne lt =
        rw (ends_elsewhere t ne)
        (key_kept slots later (was t).head i (λ j below. node_kept t j (omega arith) (λ e. absurd (ne e))))

    -- the keys of s stand one place nearer to the start
    key_here : (i : ℕ) → i < (was s).len - 1 → key_now s i ≡ key s (suc i)
    key_here i lt =
        rw ends_here (key_kept slots later node.next i (λ j below. rest_kept j (omega arith)) ∙ sym (shift i))

    -- the place of the key at place i of t before: it was place j
    record WasAt (t i j : ℕ) : Type 0 where
      below : j < (was t).len
      key : key_now t i ≡ key t j
      moved : t ≡ s → j ≡ suc i
      stayed : t ≢ s → j ≡ i

    -- each key stood somewhere before
    was_at : (t i : ℕ) → i < (is t).len → (j : ℕ) × WasAt t i j
    was_at t i lt = elim (cases_eq t s) [
      | inl e ↦
          let here : i < (was s).len - 1 = rw ends_here at (subst (λ u. i < (is u).len) e lt) in (
            suc i,
            record {
              below = subst (λ u. suc i < (was u).len) (sym e) (omega arith);
              key = subst (λ u. key_now u i ≡ key u (suc i)) (sym e) (key_here i here);
              moved = λ _. refl;
              stayed = λ ne. absurd (ne e);
            },
          )
      | inr ne ↦
          let there : i < (was t).len = rw (ends_elsewhere t ne) at lt in
          let key = key_elsewhere t i ne there in
          (i, record { below = there; key = key; moved = λ e. absurd (ne e); stayed = λ _. refl })
    ]

    -- keys of one place before are keys of one place now
    same_place : (t i j k : ℕ) → WasAt t i k → WasAt t j k → i ≡ j
    same_place t i j k a b = elim (cases_eq t s) [
      | inl e ↦ let x = a.moved e in let y = b.moved e in omega arith
      | inr ne ↦ let x = a.stayed ne in let y = b.stayed ne in omega arith
    ]

    -- the last key of s is its tail still, if one is left
    tail_here : 0 < (is s).len → (is s).tail ≡ key_now s ((is s).len - 1)
    tail_here more =
        let left : 0 < (was s).len - 1 = rw ends_here at more in
        let last : suc ((was s).len - 1 - 1) ≡ (was s).len - 1 = omega arith in
        let len_is : (is s).len ≡ (was s).len - 1 = ap (λ (e : Ends). e.len) ends_here in
        let tail_is : (is s).tail ≡ (was s).tail = ap (λ (e : Ends). e.tail) ends_here in
        let key_is = key_here ((was s).len - 1 - 1) (omega arith) in
        tail_is ∙ sound.tails s some ∙ sym (ap (λ n. key_now s (n - 1)) len_is ∙ key_is ∙ ap (key s) last)

    -- the last key of another server is its tail still
    tail_elsewhere : (t : ℕ) → t ≢ s → 0 < (is t).len → (is t).tail ≡ key_now t ((is t).len - 1)
    tail_elsewhere t ne more =
        let old : 0 < (was t).len = rw (ends_elsewhere t ne) at more in
        let len_is : (is t).len ≡ (was t).len = ap (λ (e : Ends). e.len) (ends_elsewhere t ne) in
        let tail_is : (is t).tail ≡ (was t).tail = ap (λ (e : Ends). e.tail) (ends_elsewhere t ne) in
        let key_is = key_elsewhere t ((was t).len - 1) ne (omega arith) in
        tail_is ∙ sound.tails t old ∙ sym (ap (λ n. key_now t (n - 1)) len_is ∙ key_is)

    -- the lists are sound after the first value of s was taken out
    pub sound_popped : count_by is_some later + 1 ≡ count_by is_some slots → IsSound later after
    sound_popped fewer = record {
      held = λ t i lt.
          let old = was_at t i lt in
          let place = old.1 in
          let same = node_kept t old.0 place.below (λ e. let moved = place.moved e in omega arith) in
          rw (place.key, same) (sound.held t old.0 place.below);
      apart = λ t u i j lt lu e.
          let a = was_at t i lt in
          let b = was_at u j lu in
          let same = sound.apart t u a.0 b.0 a.1.below b.1.below (sym a.1.key ∙ e ∙ b.1.key) in
          let here = subst (λ k. WasAt t j k) (sym same.1) (subst (λ v. WasAt v j b.0) (sym same.0) b.1) in
          (same.0, same_place t i j a.0 a.1 here);
      tails = λ t more. elim (cases_eq t s) [
        | inl e ↦ subst (λ u. 0 < (is u).len → (is u).tail ≡ key_now u ((is u).len - 1)) (sym e) tail_here more
        | inr ne ↦ tail_elsewhere t ne more
      ];
      counted =
          let sums = sum_by-set (λ (e : Ends). e.len) ends s (ends_popped (was s) node.next) no_ends within in
          omega (arith, some, fewer, sound.counted, sums);
    }

  -- the lists after the first value of s was written in place
  pub lists_written : (node : Node T) (w : T) (found : node_at slots (was s).head ≡ Some node)
      → lists_of (written slots (was s).head node w found) ends
      ≡ changed_at (λ values. w ∷ drop 1 values) (lists_of slots ends) s
  lists_written node w found =
      let k : ℕ = (was s).head in
      lists_written_by (written slots k node w found) node found
      (written_elsewhere slots k node w found) w (written_here slots k node w found)
