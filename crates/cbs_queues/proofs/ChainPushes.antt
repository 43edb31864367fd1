-- A value after the last of a list.
use Rattle.std.proofs.Common.{◌≡◌, ◌≢◌, ◌⊎◌, ℕ, zero, suc, ◌+◌, ◌-◌, ◌<◌, false, eqb, List, [], ◌∷◌, ◌++◌, length, set, Option, Some, None, is_some}
use Rattle.std.proofs.Common.{IsSome, count_by, refl, sym, ap, ◌∙◌, inl, inr, subst, arith, add-one, if◌then◌else◌}
use Rattle.std.proofs.lemmas.Bool.{cases_eq, cases_lt}
use Rattle.std.proofs.lemmas.Bool.Decides.{nat_tests}
use Rattle.std.proofs.lemmas.List.{get_or-set_same, get_or-set_other}
use Rattle.std.proofs.lemmas.List.Sums.{sum_by-set}
use Rattle.cbs_lists.specs.Lists.{changed_at}
use Rattle.cbs_queues.specs.declared.chains.Node.{Node}
use Rattle.cbs_queues.specs.declared.chains.Ends.{Ends}
use Rattle.cbs_queues.specs.Chains.{no_ends, ends_at, ends_pushed, node_at, key_from, key_at, chain, list_of, lists_of, IsSound, linked_to, linked}
use Rattle.cbs_queues.proofs.ChainKeys.{within_slots, key_behind, key_kept, chain_kept, chain_pushed, map_written}

-- the first of two if a number is 0
if_none : {X : Type 0} (n : ℕ) (x y : X) → n ≡ 0 → (if eqb n 0 then x else y) ≡ x
if_none n x y e = rw e refl

-- the second if it is not
if_some : {X : Type 0} (n : ℕ) (x y : X) → 0 < n → (if eqb n 0 then x else y) ≡ y
if_some zero x y some = absurd (omega arith)
if_some (suc n) x y some = let z : eqb (suc n) 0 ≡ false = grind (arith, nat_tests) in rw z refl

-- the value of an option that holds one
some_of : {X : Type 0} (o : Option X) → IsSome o → (x : X) × (o ≡ Some x)
some_of None some = absurd (cc)
some_of (Some x) some = (x, refl)

module _ {T : Type 0} (slots later : List (Option (Node T))) (ends : List Ends) (s q : ℕ) (v : T) where
  -- The slots after v was put at key q, after the last value of s. Key q was vacant, the last value, if there is one,
  -- is followed by q, and each other key holds what it held
  pub record IsPushed : Type 0 where
    pub fresh : node_at slots q ≡ None
    pub stored : (node : Node T) × (node_at later q ≡ Some node) × (node.value ≡ v)
    pub others : (k : ℕ) → k ≢ q → (0 < (ends_at ends s).len → k ≢ (ends_at ends s).tail)
        → node_at later k ≡ node_at slots k
    pub last : 0 < (ends_at ends s).len
        → (node : Node T) × (node_at slots (ends_at ends s).tail ≡ Some node)
        × (node_at later (ends_at ends s).tail ≡ Some (record { value = node.value; next = q }))
    pub grown : count_by is_some later ≡ count_by is_some slots + 1

module _ {T : Type 0} (slots filled : List (Option (Node T))) (ends : List Ends) (s q : ℕ)
    (sound : IsSound slots ends) (fresh : node_at slots q ≡ None)
    (others : (k : ℕ) → k ≢ q → node_at filled k ≡ node_at slots k) where
  -- the last key of s holds a value
  tail_held : 0 < (ends_at ends s).len → IsSome (node_at slots (ends_at ends s).tail)
  tail_held some = rw (sound.tails s some) (sound.held s ((ends_at ends s).len - 1) (omega arith))

  -- it is not the new key
  tail_old : 0 < (ends_at ends s).len → (ends_at ends s).tail ≢ q
  tail_old some same =
      let held = tail_held some in
      let none : node_at slots (ends_at ends s).tail ≡ None = rw same fresh in
      cc

  -- it still holds a value once the new key is filled
  pub tail_still_held : 0 < (ends_at ends s).len → IsSome (node_at filled (ends_at ends s).tail)
  tail_still_held some = rw (others (ends_at ends s).tail (tail_old some)) (tail_held some)

  -- the ends of s
  abbrev here : Ends
  here = ends_at ends s

  -- what the last key of s holds then
  abbrev last_now : Option (Node T)
  last_now = linked_to q (node_at filled here.tail)

  -- a value that is stored at a vacant key, to which the last value is linked then, is pushed
  pub pushed_by : (later : List (Option (Node T))) (v : T)
      → node_at filled q ≡ Some (record { value = v; next = 0 }) → later ≡ linked filled here q
      → count_by is_some later ≡ count_by is_some slots + 1 → IsPushed slots later ends s q v
  pushed_by later v stored is grown = record {
    fresh = fresh;
    stored = (
      record { value = v; next = 0 },
      elim (cases_lt 0 here.len) [
        | inl some ↦
            let other : q ≢ here.tail = λ same. tail_old some (sym same) in
            rw (written some) (get_or-set_other filled here.tail q last_now None other ∙ stored)
        | inr none ↦ rw (unwritten (omega arith)) stored
      ],
      refl,
    );
    others = λ k ne behind. elim (cases_lt 0 here.len) [
      | inl some ↦ rw (written some) (get_or-set_other filled here.tail k last_now None (behind some) ∙ others k ne)
      | inr none ↦ rw (unwritten (omega arith)) (others k ne)
    ];
    last = λ some.
        let found = some_of (node_at slots here.tail) (tail_held some) in
        let still : node_at filled here.tail ≡ Some found.0 = others here.tail (tail_old some) ∙ found.1 in
        let inside = within_slots filled here.tail (rw still refl) in (
          found.0,
          found.1,
          rw (written some) (get_or-set_same filled here.tail last_now None inside ∙ ap (linked_to q) still),
        );
    grown = grown;
  }
    where
      written : 0 < here.len → later ≡ set filled here.tail last_now
      written some = is ∙ if_some here.len filled (set filled here.tail last_now) some

      unwritten : here.len ≡ 0 → later ≡ filled
      unwritten none = is ∙ if_none here.len filled (set filled here.tail last_now) none

module _ {T : Type 0} (slots later : List (Option (Node T))) (ends : List Ends) (s q : ℕ) (v : T)
    (sound : IsSound slots ends) (pushed : IsPushed slots later ends s q v) (within : s < length ends) where
  -- the ends after a push
  abbrev after : List Ends
  after = set ends s (ends_pushed (ends_at ends s) q)

  -- the ends of a server, and the key at one of its places, before the push and after it
  abbrev was : ℕ → Ends
  was t = ends_at ends t

  abbrev is : ℕ → Ends
  is t = ends_at after t

  abbrev key : ℕ → ℕ → ℕ
  key t i = key_at slots ends t i

  abbrev key_now : ℕ → ℕ → ℕ
  key_now t i = key_at later after t i

  -- no key of a list is the new one
  not_new : (t i : ℕ) → i < (was t).len → key t i ≢ q
  not_new t i lt e =
      let held = sound.held t i lt in
      let fresh = pushed.fresh in
      let none : node_at slots (key t i) ≡ None = rw e fresh in
      cc

  -- no key of a list is the tail of s but the last of s
  not_tail : (t i : ℕ) → i < (was t).len → (t ≡ s → i + 1 < (was s).len) → 0 < (was s).len → key t i ≢ (was s).tail
  not_tail t i lt before some e =
      let same = sound.apart t s i ((was s).len - 1) lt (omega arith) (e ∙ sound.tails s some) in
      let short = before same.0 in
      let last = same.1 in
      absurd (omega arith)

  -- each key but the last of s holds what it held
  node_kept : (t i : ℕ) → i < (was t).len → (t ≡ s → i + 1 < (was s).len)
      → node_at later (key t i) ≡ node_at slots (key t i)
  node_kept t i lt before = pushed.others (key t i) (not_new t i lt) (not_tail t i lt before)

  -- the keys of each list, from its head on, are as they were
  keys_kept : (t i : ℕ) → i < (was t).len → key_from later (was t).head i ≡ key t i
  keys_kept t i lt =
      key_kept slots later (was t).head i (λ j below. node_kept t j (omega arith) (λ e.
      let here : i < (was s).len = subst (λ u. i < (was u).len) e lt in
      omega arith))

  -- the ends of another server are as they were
  ends_elsewhere : (t : ℕ) → t ≢ s → is t ≡ was t
  ends_elsewhere t ne = get_or-set_other ends s t (ends_pushed (was s) q) no_ends ne

  -- the ends of s have the new value as the last
  ends_here : is s ≡ ends_pushed (was s) q
  ends_here = get_or-set_same ends s (ends_pushed (was s) q) no_ends within

  -- the new key follows n keys, if n is the length
  new_behind : (n : ℕ) → n ≡ (was s).len → key_from later (if eqb n 0 then q else (was s).head) n ≡ q
  new_behind zero e = refl
  new_behind (suc m) e =
      let some : 0 < (was s).len = omega arith in
      let m_is : m ≡ (was s).len - 1 = omega arith in
      let at : key_from later (was s).head m ≡ (was s).tail = keys_kept s m (omega arith) ∙ ap (key s) m_is
      ∙ sym (sound.tails s some) in
      let last = pushed.last some in
      rw (if_some (suc m) q (was s).head (omega arith)) (key_behind later (was s).head m ∙ rw (at, last.2) refl)

  -- a key that was there stands where it stood
  key_old : (t i : ℕ) → i < (was t).len → key_now t i ≡ key t i
  key_old t i lt = elim (cases_eq t s) [
    | inl e ↦ subst (λ u. i < (was u).len → key_now u i ≡ key u i) (sym e)
        (λ here. rw (ends_here, if_some (was s).len q (was s).head (omega arith)) (keys_kept s i here)) lt
    | inr ne ↦ rw (ends_elsewhere t ne) (keys_kept t i lt)
  ]

  -- the new key stands after those of s
  key_new : (t i : ℕ) → (t ≡ s) × (i ≡ (was s).len) → key_now t i ≡ q
  key_new t i new = rw (new.0, new.1, ends_here) (new_behind (was s).len refl)

  -- each place was there, or is the new one
  old_or_new : (t i : ℕ) → i < (is t).len → (i < (was t).len) ⊎ ((t ≡ s) × (i ≡ (was s).len))
  old_or_new t i lt = elim (cases_eq t s) [
    | inl e ↦
        let here : i < (was s).len + 1 = rw ends_here at (subst (λ u. i < (is u).len) e lt) in
        elim (cases_lt i (was s).len) [
          | inl old ↦ inl (subst (λ u. i < (was u).len) (sym e) old)
          | inr new ↦ inr (e, omega arith)
        ]
    | inr ne ↦ inl (rw (ends_elsewhere t ne) at lt)
  ]

  -- a key that held a value does so still
  still_held : (t i : ℕ) → i < (was t).len → IsSome (node_at later (key t i))
  still_held t i lt = elim (cases_lt 0 (was s).len) [
    | inl some ↦ elim (cases_eq (key t i) (was s).tail) [
      | inl e ↦ let last = pushed.last some in rw (e, last.2) refl
      | inr ne ↦ rw (pushed.others (key t i) (not_new t i lt) (λ _. ne)) (sound.held t i lt)
    ]
    | inr none ↦ rw (pushed.others (key t i) (not_new t i lt) (λ some. absurd (omega arith))) (sound.held t i lt)
  ]

  -- the new key is the last of s
  tail_here : (is s).tail ≡ key_now s ((is s).len - 1)
  tail_here =
      let n : (was s).len + 1 - 1 ≡ (was s).len = omega arith in
      rw (ends_here, n) (sym (new_behind (was s).len refl))

  -- the lists are sound after a push
  pub sound_pushed : IsSound later after
  sound_pushed = record {
    held = λ t i lt. elim (old_or_new t i lt) [
      | inl old ↦ rw (key_old t i old) (still_held t i old)
      | inr new ↦ let stored = pushed.stored in rw (key_new t i new, stored.1) refl
    ];
    apart = λ t u i j lt lu e. elim (old_or_new t i lt) [
      | inl a ↦ elim (old_or_new u j lu) [
        | inl b ↦ sound.apart t u i j a b (sym (key_old t i a) ∙ e ∙ key_old u j b)
        | inr b ↦ absurd (not_new t i a (sym (key_old t i a) ∙ e ∙ key_new u j b))
      ]
      | inr a ↦ elim (old_or_new u j lu) [
        | inl b ↦ absurd (not_new u j b (sym (key_old u j b) ∙ sym e ∙ key_new t i a))
        | inr b ↦ (a.0 ∙ sym b.0, a.1 ∙ sym b.1)
      ]
    ];
    tails = λ t some. elim (cases_eq t s) [
      | inl e ↦ subst (λ u. (is u).tail ≡ key_now u ((is u).len - 1)) (sym e) tail_here
      | inr ne ↦
          let old : 0 < (was t).len = rw (ends_elsewhere t ne) at some in
          rw (ends_elsewhere t ne) (sound.tails t old ∙ sym (keys_kept t ((was t).len - 1) (omega arith)))
    ];
    counted =
        let sums = sum_by-set (λ (e : Ends). e.len) ends s (ends_pushed (was s) q) no_ends within in
        omega (arith, sound.counted, pushed.grown, sums);
  }

  -- the list of s has the new value after its others
  list_pushed : (n : ℕ) → n ≡ (was s).len
      → chain later (n + 1) (if eqb n 0 then q else (was s).head) ≡ chain slots n (was s).head ++ v ∷ []
  list_pushed zero e = let stored = pushed.stored in rw (stored.1, stored.2) refl
  list_pushed (suc m) e =
      let some : 0 < (was s).len = omega arith in
      let m_is : m ≡ (was s).len - 1 = omega arith in
      let at : key_from slots (was s).head m ≡ (was s).tail = ap (key s) m_is ∙ sym (sound.tails s some) in
      let last = pushed.last some in
      let stored = pushed.stored in
      rw (if_some (suc m) q (was s).head (omega arith), add-one, ← stored.2)
      (chain_pushed slots later m (was s).head last.0 q stored.0
      (λ j lt. node_kept s j (omega arith) (λ _. omega arith)) (rw at last.1) (rw at last.2) stored.1)

  -- the lists after a push
  pub lists_pushed : lists_of later after ≡ changed_at (λ values. values ++ v ∷ []) (lists_of slots ends) s
  lists_pushed =
      map_written (list_of slots) (list_of later) (λ values. values ++ v ∷ [])
      ends s (ends_pushed (was s) q) no_ends within
      (list_pushed (was s).len refl)
      (λ t ne lt. chain_kept slots later (was t).len (was t).head (λ j below. node_kept t j below (λ e. absurd (ne e))))
