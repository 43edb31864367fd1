-- A charge of n ticks is n charges of one tick.
use Rattle.std.proofs.Common.{◌≡◌, ℕ, zero, suc, ◌+◌, ◌-◌, ◌*◌, ◌≤◌, ◌<◌, Bool, true, false, arith, refl, inl, inr, ap, ◌∙◌, sym}
use Rattle.std.proofs.lemmas.Bool.{cases_lt, cases_Bool}
use Rattle.std.proofs.lemmas.Nat.{mul-le}
use Rattle.std.proofs.Math.Nat.{mod-lt}
use Rattle.cbs_rate.specs.Rate.{Rate, IsRate}
use Rattle.cbs_rules.specs.declared.mode.Mode.{Mode}
use Rattle.cbs_rules.specs.declared.mode.Mode.TheVariants.{Soft, Throttled}
use Rattle.cbs_rules.specs.Rules.{State, IsState, funds, until, after_charge, after_charges, after_excess}
use Rattle.cbs_rules.proofs.Deadlines.{begun_after_charge}
use Rattle.cbs_rules.proofs.Paid.{charge_paid}
use Rattle.cbs_rules.proofs.States.{charge_within, charge_beyond, IsState-after_charge, soft_after_charge}

-- equal numbers make equal states
made : (b c d e : ℕ) (y z : Bool) (o v : ℕ) → b ≡ c → d ≡ e → y ≡ z → o ≡ v
    → (let s : State = record { budget = b; deadline = d; throttled = y; overrun = o } in let t : State = record { budget = c; deadline = e; throttled = z; overrun = v } in s ≡ t)
made b c d e y z o v p q m w = cc

-- a state is known by what may still be taken, by when, and the mark
known : (r : Rate) (s t : State) → IsState r s → IsState r t → s.throttled ≡ t.throttled → funds r s ≡ funds r t → until r s ≡ until r t → s ≡ t
known r s t is it mark fund time =
    let a = is.below in
    let b = it.below in
    elim (cases_Bool s.throttled) [
      | inl y ↦
          let z : t.throttled ≡ true = cc in
          let f : r.budget - s.overrun ≡ r.budget - t.overrun = rw (y, z) at fund in
          let u : s.deadline + r.period ≡ t.deadline + r.period = rw (y, z) at time in
          let c : s.budget ≡ t.budget = let k = is.spent y in let l = it.spent z in omega arith in
          let d : s.deadline ≡ t.deadline = omega arith in
          let o : s.overrun ≡ t.overrun = omega arith in
          made s.budget t.budget s.deadline t.deadline s.throttled t.throttled s.overrun t.overrun c d mark o
      | inr n ↦
          let z : t.throttled ≡ false = cc in
          let c : s.budget ≡ t.budget = rw (n, z) at fund in
          let d : s.deadline ≡ t.deadline = rw (n, z) at time in
          let o : s.overrun ≡ t.overrun = let k = is.clear n in let l = it.clear z in omega arith in
          made s.budget t.budget s.deadline t.deadline s.throttled t.throttled s.overrun t.overrun c d mark o
    ]

-- as many budgets are taken, whichever way
same_budgets : (q a b j k : ℕ) → 0 < a → a ≤ q → 0 < b → b ≤ q → a + k * q ≡ b + j * q → j ≡ k
same_budgets q a b j k sa ca sb cb e = elim (cases_lt j k) [
  | inl lt ↦ let m = mul-le (j + 1) q k q (omega arith) (omega arith) in absurd (omega arith)
  | inr ge ↦ elim (cases_lt k j) [
    | inl lt ↦ let m = mul-le (k + 1) q j q (omega arith) (omega arith) in absurd (omega arith)
    | inr le ↦ omega arith
  ]
]

-- a charge leaves something to be taken, and no more than a budget
some_left : (mode : Mode) (r : Rate) (n : ℕ) (s : State) → IsRate r.budget r.period → IsState r s → (mode ≡ Soft → s.throttled ≡ false) → 0 < s.deadline → (let t = after_charge mode r n s in (0 < funds r t) × (funds r t ≤ r.budget))
some_left mode r n s ok is soft begun =
    let t = after_charge mode r n s in
    let it = IsState-after_charge mode r n s ok is soft begun in
    let b = it.below in
    elim (cases_Bool t.throttled) [
      | inl y ↦ let e : funds r t ≡ r.budget - t.overrun = rw y refl in (omega arith, omega arith)
      | inr f ↦
          let e : funds r t ≡ t.budget = rw f refl in
          let c = it.capped in
          let some : 0 < t.budget = elim (cases_lt n s.budget) [
            | inl lt ↦ let k = ap (λ (v : State). v.budget) (charge_within mode r n s lt) in omega arith
            | inr ge ↦ excess_some mode ok.some (charge_beyond mode r n s ge) f
          ] in
          (omega arith, omega arith)
    ]
  where
    excess_some : (mode : Mode) → 0 < r.budget → {t : State} → t ≡ after_excess mode r (s.overrun + n - s.budget) s → t.throttled ≡ false → 0 < t.budget
    excess_some Soft some e f = let k = ap (λ (v : State). v.budget) e in let m = mod-lt (s.overrun + n - s.budget) some in omega arith
    excess_some Throttled some e f = let k = ap (λ (v : State). v.throttled) e in absurd (cc)

-- the mark after two charges is that after one
pub marked_stays : (r : Rate) (n : ℕ) (s : State) → IsState r s → s.throttled ≡ true → (after_charge Throttled r n s).throttled ≡ true
marked_stays r n s is t = let z = is.spent t in ap (λ (v : State). v.throttled) (charge_beyond Throttled r n s (omega arith))

same_mark : (mode : Mode) (r : Rate) (m n : ℕ) (s : State) → IsRate r.budget r.period → IsState r s → (mode ≡ Soft → s.throttled ≡ false) → 0 < s.deadline → (after_charge mode r (m + n) s).throttled ≡ (after_charge mode r n (after_charge mode r m s)).throttled
same_mark Soft r m n s ok is soft begun =
    soft_after_charge Soft r (m + n) s soft refl ∙ sym (soft_after_charge Soft r n (after_charge Soft r m s) (soft_after_charge Soft r m s soft) refl)
same_mark Throttled r m n s ok is soft begun = elim (cases_Bool s.throttled) [
  | inl t ↦ marked_stays r (m + n) s is t ∙ sym (marked_stays r n (after_charge Throttled r m s) (IsState-after_charge Throttled r m s ok is soft begun) (marked_stays r m s is t))
  | inr f ↦ elim (cases_lt (m + n) s.budget) [
    | inl lt ↦
        let e = charge_within Throttled r m s (omega arith) in
        let g : (after_charge Throttled r n (after_charge Throttled r m s)).throttled ≡ false = rw e (ap (λ (v : State). v.throttled) (charge_within Throttled r n (record s { budget = s.budget - m }) (omega arith)) ∙ f) in
        ap (λ (v : State). v.throttled) (charge_within Throttled r (m + n) s lt) ∙ f ∙ sym g
    | inr ge ↦
        let one : (after_charge Throttled r (m + n) s).throttled ≡ true = ap (λ (v : State). v.throttled) (charge_beyond Throttled r (m + n) s ge) in
        let two : (after_charge Throttled r n (after_charge Throttled r m s)).throttled ≡ true = elim (cases_lt m s.budget) [
          | inl lt ↦ rw (charge_within Throttled r m s lt) (ap (λ (v : State). v.throttled) (charge_beyond Throttled r n (record s { budget = s.budget - m }) (omega arith)))
          | inr le ↦ marked_stays r n (after_charge Throttled r m s) (IsState-after_charge Throttled r m s ok is soft begun) (ap (λ (v : State). v.throttled) (charge_beyond Throttled r m s le))
        ] in
        one ∙ sym two
  ]
]

-- two charges are one of as many ticks
pub charge_added : (mode : Mode) (r : Rate) (m n : ℕ) (s : State) → IsRate r.budget r.period → IsState r s → (mode ≡ Soft → s.throttled ≡ false) → 0 < s.deadline → after_charge mode r (m + n) s ≡ after_charge mode r n (after_charge mode r m s)
charge_added mode r m n s ok is soft begun =
    let t = after_charge mode r m s in
    let it = IsState-after_charge mode r m s ok is soft begun in
    let started = begun_after_charge mode r m s begun in
    let free = soft_after_charge mode r m s soft in
    let u = after_charge mode r n t in
    let v = after_charge mode r (m + n) s in
    let a = charge_paid mode r m s ok.some is soft in
    let b = charge_paid mode r n t ok.some it free in
    let c = charge_paid mode r (m + n) s ok.some is soft in
    let l = some_left mode r n t ok it free started in
    let k = some_left mode r (m + n) s ok is soft begun in
    let ap1 = a.paid in
    let bp = b.paid in
    let cp = c.paid in
    let e : funds r u + c.budgets * r.budget ≡ funds r v + (a.budgets + b.budgets) * r.budget = omega arith in
    let j = same_budgets r.budget (funds r u) (funds r v) (a.budgets + b.budgets) c.budgets l.0 l.1 k.0 k.1 e in
    let aq = a.postponed in
    let bq = b.postponed in
    let cq = c.postponed in
    let jq = ap (λ (x : ℕ). x * r.budget) j in
    let jt = ap (λ (x : ℕ). x * r.period) j in
    known r v u (IsState-after_charge mode r (m + n) s ok is soft begun) (IsState-after_charge mode r n t ok it free started) (same_mark mode r m n s ok is soft begun) (omega arith) (omega arith)

-- a server that waits does so after a charge
pub waits_after_charge : (mode : Mode) (r : Rate) (n : ℕ) (s : State) → IsState r s → (mode ≡ Soft → s.throttled ≡ false) → s.throttled ≡ true → (after_charge mode r n s).throttled ≡ true
waits_after_charge Soft r n s is soft t = let f = soft refl in absurd (cc)
waits_after_charge Throttled r n s is soft t = marked_stays r n s is t

-- so a charge is as many charges of one tick
pub charge_ticked : (mode : Mode) (r : Rate) (n : ℕ) (s : State) → 0 < n → IsRate r.budget r.period → IsState r s → (mode ≡ Soft → s.throttled ≡ false) → 0 < s.deadline → after_charge mode r n s ≡ after_charges mode r n s
charge_ticked mode r zero s some ok is soft begun = absurd (omega arith)
charge_ticked mode r (suc zero) s some ok is soft begun = refl
charge_ticked mode r (suc (suc n)) s some ok is soft begun =
    let e : suc (suc n) ≡ 1 + suc n = omega arith in
    ap (λ k. after_charge mode r k s) e ∙ charge_added mode r 1 (suc n) s ok is soft begun
    ∙ charge_ticked mode r (suc n) (after_charge mode r 1 s) (omega arith) ok (IsState-after_charge mode r 1 s ok is soft begun) (soft_after_charge mode r 1 s soft) (begun_after_charge mode r 1 s begun)

-- a charge postpones the deadline by at most one period per tick, if something could still be taken
pub charge_early : (mode : Mode) (r : Rate) (n : ℕ) (s : State) → 0 < n → IsRate r.budget r.period → IsState r s → (mode ≡ Soft → s.throttled ≡ false) → 0 < s.deadline
    → (after_charge mode r n s).deadline ≤ s.deadline + n * r.period
charge_early mode r n s some ok is soft begun =
    let t = after_charge mode r n s in
    let p = charge_paid mode r n s ok.some is soft in
    let l = some_left mode r n s ok is soft begun in
    let capped = l.1 in
    let paid = p.paid in
    let postponed = p.postponed in
    let under = is.below in
    let here : (0 < funds r s) × (until r s ≤ s.deadline + r.period) × (s.throttled ≡ false → until r s ≡ s.deadline) = elim (cases_Bool s.throttled) [
      | inl y ↦ let f : funds r s ≡ r.budget - s.overrun = rw y refl in let u : until r s ≡ s.deadline + r.period = rw y refl in (omega arith, omega arith, λ n. absurd (cc))
      | inr f ↦ let g : funds r s ≡ s.budget = rw f refl in let u : until r s ≡ s.deadline = rw f refl in let h = is.unspent f begun in (omega arith, omega arith, λ _. u)
    ] in
    let pos = here.0 in
    let few : p.budgets ≤ n = elim (cases_lt n p.budgets) [
      | inl lt ↦ let m = mul-le (n + 1) r.budget p.budgets r.budget (omega arith) (omega arith) in let k = mul-le n 1 n r.budget (omega arith) ok.some in absurd (omega arith)
      | inr ge ↦ ge
    ] in
    let m = mul-le p.budgets r.period n r.period few (omega arith) in
    let u = here.1 in
    elim (cases_Bool s.throttled) [
      | inl y ↦
          let v : until r t ≡ t.deadline + r.period = let mark : t.throttled ≡ true = stays mode (soft) y in rw mark refl in
          omega arith
      | inr f ↦
          let e = here.2 f in
          let v : t.deadline ≤ until r t = elim (cases_Bool t.throttled) [ inl z ↦ rw z (omega arith) | inr z ↦ rw z (omega arith) ] in
          omega arith
    ]
  where
    stays : (mode : Mode) → (mode ≡ Soft → s.throttled ≡ false) → s.throttled ≡ true → (after_charge mode r n s).throttled ≡ true
    stays Soft h y = let f = h refl in absurd (cc)
    stays Throttled h y = marked_stays r n s is y
