-- How long a server waits, throttled and with a job, if nothing else comes.
use Rattle.std.proofs.Common.{◌≡◌, ℕ, zero, suc, ◌+◌, ◌-◌, ◌≤◌, ◌<◌, Bool, true, false, ◌&&◌, ltb, arith, refl, ◌∙◌, inl, inr, Some}
use Rattle.std.specs.Prelude.{min, if◌then◌else◌}
use Rattle.std.proofs.lemmas.Bool.{cases_Bool}
use Rattle.std.proofs.lemmas.Bool.Decides.{nat_tests}
use Rattle.cbsrun_figures.specs.Figures.{one_if, waited}
use Rattle.cbs_steps.specs.Faces.{Face, is_ready, with_replenishment, view_of}
use Rattle.cbs_steps.specs.OnTime.{IsAhead}
use Rattle.cbsrun_runs.specs.Loads.{is_waiting, count_ticks}

-- what is shown after n ticks from tick c
abbrev pub passed : ℕ → ℕ → Face → Face
passed c zero f = f
passed c (suc n) f = with_replenishment (c + suc n) f

-- in how many of the n ticks from tick c a server with this view waits
abbrev pub wait : ℕ → ℕ → Face → ℕ
wait c n f = if is_waiting f then min f.state.deadline (c + n) - c else 0

-- that number is what is computed from a view
pub waited_is : (c n : ℕ) (f : Face) → waited (Some (view_of f)) c (c + n) ≡ wait c n f
waited_is c n f = elim (cases_Bool f.state.throttled) [
  | inl t ↦ elim (cases_Bool (ltb f.finished f.accepted)) [
    | inl a ↦ rw (t, a) refl
    | inr i ↦ rw (t, i) refl
  ]
  | inr u ↦ elim (cases_Bool (ltb f.finished f.accepted)) [
    | inl a ↦ rw (u, a) refl
    | inr i ↦ rw (u, i) refl
  ]
]

-- in 0 ticks it waits for 0 ticks
pub wait_none : (c : ℕ) (f : Face) → wait c 0 f ≡ 0
wait_none c f = elim (cases_Bool (is_waiting f)) [
  | inl t ↦ rw t (omega arith)
  | inr u ↦ rw u refl
]

-- after n ticks it still waits, if its deadline has not come
pub waiting_after : (c n : ℕ) (f : Face) → IsAhead c f → is_waiting (passed c n f) ≡ (is_waiting f && ltb (c + n) f.state.deadline)
waiting_after c zero f ahead = grind (arith, nat_tests)
waiting_after c (suc n) f ahead = grind (arith, nat_tests)

-- the same for the same deadline
deadline_after : (c n : ℕ) (f : Face) → c + n < f.state.deadline → (passed c n f).state.deadline ≡ f.state.deadline
deadline_after c zero f later = refl
deadline_after c (suc n) f later = grind (arith, nat_tests)

-- in a number of ticks, and then in some more ticks
pub wait_more : (c k n : ℕ) (f : Face) → IsAhead c f → wait c (k + n) f ≡ wait c k f + wait (c + k) n (passed c k f)
wait_more c k n f ahead =
    let d = f.state.deadline in
    let w = waiting_after c k f ahead in
    elim (cases_Bool (is_waiting f)) [
      | inl t ↦ elim (cases_Bool (ltb (c + k) d)) [
        | inl early ↦
            let lt : c + k < d = grind (arith, nat_tests) in
            let still : is_waiting (passed c k f) ≡ true = w ∙ rw (t, early) refl in
            let same = deadline_after c k f lt in
            let e : wait (c + k) n (passed c k f) ≡ min d (c + k + n) - (c + k) = rw (still, same) refl in
            rw (e, t) (omega arith)
        | inr come ↦
            let le : d ≤ c + k = grind (arith, nat_tests) in
            let free : is_waiting (passed c k f) ≡ false = w ∙ rw (t, come) refl in
            let e : wait (c + k) n (passed c k f) ≡ 0 = rw free refl in
            rw (e, t) (omega arith)
      ]
      | inr u ↦
          let none : is_waiting (passed c k f) ≡ false = w ∙ rw u refl in
          let e : wait (c + k) n (passed c k f) ≡ 0 = rw none refl in
          rw (e, u) refl
    ]

-- one tick more
wait_one : (c i : ℕ) (f : Face) → IsAhead c f → one_if (is_waiting (passed c i f)) + wait c i f ≡ wait c (i + 1) f
wait_one c i f ahead =
    let d = f.state.deadline in
    let w = waiting_after c i f ahead in
    elim (cases_Bool (is_waiting f)) [
      | inl t ↦
          let held : f.state.throttled ≡ true = grind (arith, nat_tests) in
          let from : c < d = ahead held in
          elim (cases_Bool (ltb (c + i) d)) [
            | inl early ↦
                let lt : c + i < d = grind (arith, nat_tests) in
                let still : is_waiting (passed c i f) ≡ true = w ∙ rw (t, early) refl in
                rw (still, t) (omega arith)
            | inr come ↦
                let le : d ≤ c + i = grind (arith, nat_tests) in
                let free : is_waiting (passed c i f) ≡ false = w ∙ rw (t, come) refl in
                rw (free, t) (omega arith)
          ]
      | inr u ↦ let none : is_waiting (passed c i f) ≡ false = w ∙ rw u refl in rw (none, u) refl
    ]

-- these are the ticks at which the server waits
pub wait_counted : (c : ℕ) (f : Face) → IsAhead c f → (at : ℕ → Bool) (n i : ℕ) → ((j : ℕ) → i ≤ j → j < i + n → at (c + j) ≡ is_waiting (passed c j f))
    → count_ticks at (c + i) n + wait c i f ≡ wait c (i + n) f
wait_counted c f ahead at zero i is = let e : i + 0 ≡ i = omega arith in rw e (omega arith)
wait_counted c f ahead at (suc n) i is =
    let rest = wait_counted c f ahead at n (i + 1) (λ j from to. is j (omega arith) (omega arith)) in
    let e : c + i + 1 ≡ c + (i + 1) = omega arith in
    let l : i + suc n ≡ i + 1 + n = omega arith in
    let here = is i (omega arith) (omega arith) in
    let one = wait_one c i f ahead in
    rw (l, e, here) (omega arith)

-- a ready server does not wait
pub ready_waits_not : (f : Face) → is_ready f ≡ true → is_waiting f ≡ false
ready_waits_not f ready = grind (arith, nat_tests)
