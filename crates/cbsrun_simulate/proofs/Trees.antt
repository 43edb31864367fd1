-- A tree of turns: its root has the first of them, and each node the turn of a leaf.
use Rattle.std.proofs.Common.{◌≡◌, ◌≢◌, ℕ, zero, suc, ◌+◌, ◌-◌, ◌*◌, ◌/◌, ◌^◌, ◌≤◌, ◌<◌, true, false, eqb, ltb, List, length, refl, sym, arith, inl, inr}
use Rattle.std.proofs.lemmas.Bool.{cases_Bool, cases_eq, cases_lt}
use Rattle.std.proofs.lemmas.Bool.Decides.{nat_tests}
use Rattle.cbsrun_simulate.specs.Turns.{is_before, first_of, node, IsTree}
use Rattle.cbsrun_simulate.specs.declared.turns.Turn.{Turn}

-- the turn of the lower number comes first
pub rank_before : (a b : Turn) → a.place < 2 ^ 64 → b.place < 2 ^ 64 → ltb (a.tick * 2 ^ 64 + a.place) (b.tick * 2 ^ 64 + b.place) ≡ is_before a b
rank_before a b pa pb = elim (cases_lt a.tick b.tick) [
  | inl lt ↦
      let t : ltb a.tick b.tick ≡ true = grind (arith, nat_tests) in
      let r : ltb (a.tick * 2 ^ 64 + a.place) (b.tick * 2 ^ 64 + b.place) ≡ true = grind (arith, nat_tests) in
      rw (t, r) refl
  | inr ge ↦
      let f : ltb a.tick b.tick ≡ false = grind (arith, nat_tests) in
      elim (cases_eq a.tick b.tick) [
        | inl same ↦
            let e : eqb a.tick b.tick ≡ true = grind (arith, nat_tests) in
            rw (f, e) (grind (arith, nat_tests))
        | inr ne ↦
            let e : eqb a.tick b.tick ≡ false = grind (arith, nat_tests) in
            let r : ltb (a.tick * 2 ^ 64 + a.place) (b.tick * 2 ^ 64 + b.place) ≡ false = grind (arith, nat_tests) in
            rw (f, e, r) refl
      ]
]

-- a turn is not after another: it is not later, and of two at one tick its place is not higher
pub record IsNotAfter (a b : Turn) : Type 0 where
  pub tick : a.tick ≤ b.tick
  pub place : b.place < a.place → a.tick < b.tick

not_after_self : (a : Turn) → IsNotAfter a a
not_after_self a = record { tick = omega arith; place = λ lt. absurd (omega arith) }

not_after : (a b c : Turn) → IsNotAfter a b → IsNotAfter b c → IsNotAfter a c
not_after a b c p q = record {
  tick = let l = p.tick in let r = q.tick in omega arith;
  place = λ lt. elim (cases_lt b.place a.place) [
    | inl less ↦ let l = p.place less in let r = q.tick in omega arith
    | inr more ↦ let l = p.tick in let r = q.place (omega arith) in omega arith
  ];
}

-- what the test of two turns says
before_is : (a b : Turn) → is_before a b ≡ true → IsNotAfter a b
before_is a b t = elim (cases_lt a.tick b.tick) [
  | inl lt ↦ record { tick = omega arith; place = λ h. lt }
  | inr ge ↦
      let f : ltb a.tick b.tick ≡ false = grind (arith, nat_tests) in
      let both = rw f at t in
      elim (cases_eq a.tick b.tick) [
        | inl same ↦
            let e : eqb a.tick b.tick ≡ true = grind (arith, nat_tests) in
            let place : ltb a.place b.place ≡ true = rw e at both in
            let lt : a.place < b.place = grind (arith, nat_tests) in
            record { tick = omega arith; place = λ h. absurd (omega arith) }
        | inr ne ↦ let e : eqb a.tick b.tick ≡ false = grind (arith, nat_tests) in let g : false ≡ true = rw e at both in cc
      ]
]

before_not : (a b : Turn) → is_before b a ≡ false → IsNotAfter a b
before_not a b f = elim (cases_lt b.tick a.tick) [
  | inl lt ↦ let t : ltb b.tick a.tick ≡ true = grind (arith, nat_tests) in let g : true ≡ false = rw t at f in cc
  | inr ge ↦ record {
    tick = omega arith;
    place = λ h. elim (cases_eq b.tick a.tick) [
      | inl same ↦
          let l : ltb b.tick a.tick ≡ false = grind (arith, nat_tests) in
          let e : eqb b.tick a.tick ≡ true = grind (arith, nat_tests) in
          let p : ltb b.place a.place ≡ true = grind (arith, nat_tests) in
          let g : true ≡ false = rw (l, e, p) at f in
          cc
      | inr ne ↦ omega arith
    ];
  }
]

-- the first of two turns is after neither
first_left : (a b : Turn) → IsNotAfter (first_of a b) a
first_left a b = elim (cases_Bool (is_before b a)) [
  | inl t ↦ rw t (before_is b a t)
  | inr f ↦ rw f (not_after_self a)
]

first_right : (a b : Turn) → IsNotAfter (first_of a b) b
first_right a b = elim (cases_Bool (is_before b a)) [
  | inl t ↦ rw t (not_after_self b)
  | inr f ↦ rw f (before_not a b f)
]

-- each number is a double or the one after it
halves : (j : ℕ) → j / 2 * 2 ≤ j × (j < j / 2 * 2 + 2)
halves j = (omega arith, omega arith)

module _ (nodes : List Turn) (tree : IsTree nodes) where
  -- a node is not after the two below it
  above_left : (k : ℕ) → 0 < k → k < length nodes / 2 → IsNotAfter (node nodes k) (node nodes (2 * k))
  above_left k some lt = rw (tree.first k some lt) (first_left (node nodes (2 * k)) (node nodes (2 * k + 1)))

  above_right : (k : ℕ) → 0 < k → k < length nodes / 2 → IsNotAfter (node nodes k) (node nodes (2 * k + 1))
  above_right k some lt = rw (tree.first k some lt) (first_right (node nodes (2 * k)) (node nodes (2 * k + 1)))

  -- so the root is after no node
  pub root_first : (most j : ℕ) → j ≤ most → 0 < j → j < length nodes → IsNotAfter (node nodes 1) (node nodes j)
  root_first zero j few some lt = absurd (omega arith)
  root_first (suc most) j few some lt = elim (cases_eq j 1) [
    | inl one ↦ rw one (not_after_self (node nodes 1))
    | inr ne ↦
        let even = tree.even in
        let up = root_first most (j / 2) (omega arith) (omega arith) (omega arith) in
        elim (cases_eq j (2 * (j / 2))) [
          | inl left ↦ not_after _ _ _ up (rw (sym left) at (above_left (j / 2) (omega arith) (omega arith)))
          | inr right ↦
              let is : 2 * (j / 2) + 1 ≡ j = omega arith in
              not_after _ _ _ up (rw is at (above_right (j / 2) (omega arith) (omega arith)))
        ]
  ]

  -- and each node has the turn of a leaf
  pub record IsOfLeaf (turn : Turn) : Type 0 where
    pub leaf : ℕ
    pub within : leaf < length nodes / 2
    pub is : turn ≡ node nodes (length nodes / 2 + leaf)

  pub of_leaf : (left j : ℕ) → length nodes ≤ j + left → 0 < j → j < length nodes → IsOfLeaf (node nodes j)
  of_leaf zero j most some lt = absurd (omega arith)
  of_leaf (suc left) j most some lt = elim (cases_lt j (length nodes / 2)) [
    | inl above ↦
        let even = tree.even in
        let a = node nodes (2 * j) in
        let b = node nodes (2 * j + 1) in
        elim (cases_Bool (is_before b a)) [
          | inl t ↦ rw (tree.first j some above, t) (of_leaf left (2 * j + 1) (omega arith) (omega arith) (omega arith))
          | inr f ↦ rw (tree.first j some above, f) (of_leaf left (2 * j) (omega arith) (omega arith) (omega arith))
        ]
    | inr ge ↦
        let even = tree.even in
        let is : length nodes / 2 + (j - length nodes / 2) ≡ j = omega arith in
        record { leaf = j - length nodes / 2; within = omega arith; is = rw is refl }
  ]

-- a tree, but maybe for one of the nodes above the leaves
pub record IsTreeBut (out : ℕ) (nodes : List Turn) : Type 0 where
  pub even : length nodes ≡ length nodes / 2 * 2
  pub first : (k : ℕ) → 0 < k → k < length nodes / 2 → k ≢ out → node nodes k ≡ first_of (node nodes (2 * k)) (node nodes (2 * k + 1))
