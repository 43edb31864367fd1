-- No server takes more than its share: what it got, and its budget, against its deadline.
use Rattle.std.proofs.Common.{◌≡◌, ℕ, zero, suc, ◌+◌, ◌-◌, ◌*◌, ◌/◌, ◌%◌, ◌≤◌, ◌<◌, Bool, true, false, leb, ◌||◌, ◌&&◌, List, [], ◌∷◌, ◌++◌, map, arith, refl}
use Rattle.std.proofs.Common.{inl, inr, ap, ◌∙◌, if◌then◌else◌}
use Rattle.std.proofs.lemmas.Bool.{cases_lt, cases_Bool}
use Rattle.std.proofs.lemmas.Bool.Decides.{nat_tests}
use Rattle.std.proofs.lemmas.Nat.{mul-le}
use Rattle.cbs_job.specs.Work.{Meaning}
use Rattle.cbs_rate.specs.Rate.{Rate}
use Rattle.cbs_rules.specs.Rules.{State, Terms, IsState, IsPaid, funds, until, is_renewed, after_arrival, after_unit, after_charge, after_replenishment}
use Rattle.cbs_rules.proofs.Paid.{unit_paid, charge_paid, replenished_funds, replenished_until}
use Rattle.cbs_rules.proofs.States.{charge_within, charge_beyond}
use Rattle.std.proofs.lemmas.Nat.{div-add-mod'}
use Rattle.cbs_rules.specs.declared.mode.Mode.{Mode}
use Rattle.cbs_rules.proofs.Deadlines.{deadline-arrived-le}
use Rattle.cbs_rules.specs.declared.mode.Mode.TheVariants.{Soft, Throttled}
use Rattle.cbs_steps.specs.Faces.{is_active, is_ready}
use Rattle.cbs_steps.specs.Accounts.{Account, face_of, account_with_job, account_with_unit, account_with_charge, new_account, account_with_replenishment, account_with_close, account_let_go, taken}
use Rattle.cbs_steps.specs.History.{Setup, History, account, start, after, world_after}
use Rattle.cbs_steps.specs.Promises.{when}
use Rattle.cbs_steps.specs.Laws.{account_in, IsWithinShare, IsWithinCap}
use Rattle.cbs_steps.specs.declared.step.Step.{Step}
use Rattle.cbs_steps.proofs.Demands.{renewed_early}
use Rattle.cbs_steps.proofs.Faces.{runnable}
use Rattle.cbs_steps.proofs.Histories.{holds_after, holds_behind, terms_behind}
use Rattle.cbs_steps.proofs.LawfulServers.{IsLawful, lawful_job, lawful_unit, lawful_charge, lawful_let_go, lawful_replenishment, lawful_close, ready_budget}

-- The units got, and what may still be taken, are within the share of the time until that is due. x and y stand for the
-- values at the start of the count
abbrev IsShared : Rate → ℕ → ℕ → ℕ → State → Type 0
IsShared r x y got s = (got + funds r s) * r.period + x ≤ y + until r s * r.budget

-- what is paid keeps it
shared_paid : (r : Rate) (x y got n : ℕ) (s t : State) → IsPaid r n s t → IsShared r x y got s → IsShared r x y (got + n) t
shared_paid r x y got n s t p h =
    let e : got + n + funds r t ≡ got + funds r s + p.budgets * r.budget = let a = p.paid in omega arith in
    let f = p.postponed in
    let m = ap (λ (v : ℕ). v * r.period) e in
    let l = ap (λ (v : ℕ). v * r.budget) f in
    let g : (got + funds r s + p.budgets * r.budget) * r.period ≡ (got + funds r s) * r.period + p.budgets * (r.budget * r.period) = omega arith in
    let k : (until r s + p.budgets * r.period) * r.budget ≡ until r s * r.budget + p.budgets * (r.budget * r.period) = omega arith in
    omega arith

-- so does a replenishment
shared_replenishment : (r : Rate) (x y got now : ℕ) (s : State) → IsState r s → IsShared r x y got s → IsShared r x y got (after_replenishment r now s)
shared_replenishment r x y got now s is h = rw (replenished_funds r now s is, replenished_until r now s) h

-- and an arrival at a server that is not throttled
shared_arrival : (mode : Mode) (r : Rate) (x y got now : ℕ) (s : State) → s.throttled ≡ false → IsShared r x y got s → IsShared r x y got (after_arrival mode r now s)
shared_arrival mode r x y got now s free h = elim (cases_Bool (is_renewed mode r now s)) [
  | inl t ↦
      let g : (got + s.budget) * r.period + x ≤ y + s.deadline * r.budget = rw free at h in
      let k : got * r.period + x ≤ y + now * r.budget = elim (cases_lt now s.deadline) [
        | inl lt ↦
            let l = renewed_early mode r now s t lt in
            let e : s.deadline ≡ now + (s.deadline - now) = omega arith in
            let d = ap (λ (v : ℕ). v * r.budget) e in
            omega arith
        | inr ge ↦ let m = mul-le s.deadline r.budget now r.budget ge (omega arith) in omega arith
      ] in
      let goal : (got + r.budget) * r.period + x ≤ y + (now + r.period) * r.budget = omega arith in
      rw (t, free) goal
  | inr f ↦ rw f h
]

-- the same in the numbers of the state: what may still be taken and the overrun, against the deadline
numbers : (r : Rate) (s : State) → IsState r s → funds r s * r.period + s.overrun * r.period + s.deadline * r.budget ≡ s.budget * r.period + until r s * r.budget
numbers r s is = elim (cases_Bool s.throttled) [
  | inl t ↦
      let f : funds r s ≡ r.budget - s.overrun = rw t refl in
      let u : until r s ≡ s.deadline + r.period = rw t refl in
      let z = is.spent t in
      let b = is.below in
      let e : r.budget - s.overrun + s.overrun ≡ r.budget = omega arith in
      let m = ap (λ (v : ℕ). v * r.period) e in
      let goal : (r.budget - s.overrun) * r.period + s.overrun * r.period + s.deadline * r.budget ≡ 0 * r.period + (s.deadline + r.period) * r.budget = omega arith in
      rw (f, u, z) goal
  | inr n ↦
      let f : funds r s ≡ s.budget = rw n refl in
      let u : until r s ≡ s.deadline = rw n refl in
      let z = is.clear n in
      let goal : s.budget * r.period + 0 * r.period + s.deadline * r.budget ≡ s.budget * r.period + s.deadline * r.budget = omega arith in
      rw (f, u, z) goal
]

-- In throttled mode a deadline is at most a period from now, and of a server that waits, its overrun and its deadline
-- are beyond that by no more than what it was charged for its last unit
record IsNear (r : Rate) (mode : Mode) (now latest : ℕ) (s : State) : Type 0 where
  free : mode ≡ Throttled → s.throttled ≡ false → s.deadline ≤ now + r.period
  waits : mode ≡ Throttled → s.throttled ≡ true → s.deadline * r.budget + s.overrun * r.period ≤ (now + r.period) * r.budget + latest * r.period

-- a unit of a server that does not wait leaves it so
near_unit : (mode : Mode) (r : Rate) (now latest : ℕ) (s : State) → IsState r s → s.throttled ≡ false → IsNear r mode now latest s → IsNear r mode now 0 (after_unit mode r s)
near_unit Soft r now latest s is free h = record { free = λ m. cc; waits = λ m. cc }
near_unit Throttled r now latest s is free h =
    let d = h.free refl free in
    let none = is.clear free in
    let same : (after_unit Throttled r s).deadline ≡ s.deadline = grind (arith, nat_tests) in
    let over : (after_unit Throttled r s).overrun ≡ 0 = grind (arith, nat_tests) in
    record {
      free = λ m f. omega arith;
      waits = λ m t. let l = mul-le s.deadline r.budget (now + r.period) r.budget d (omega arith) in rw (same, over) (omega arith);
    }

-- so does a charge
near_charge : (mode : Mode) (r : Rate) (now latest n : ℕ) (s : State) → 0 < r.budget → IsState r s → IsNear r mode now latest s → IsNear r mode now (latest + n) (after_charge mode r n s)
near_charge Soft r now latest n s some is h = record { free = λ m. cc; waits = λ m. cc }
near_charge Throttled r now latest n s some is h = elim (cases_lt n s.budget) [
  | inl lt ↦
      rw (charge_within Throttled r n s lt) record {
        free = h.free;
        waits = λ m t. let none = is.spent t in absurd (omega arith);
      }
  | inr ge ↦
      let e = s.overrun + n - s.budget in
      let whole = div-add-mod' e r.budget in
      let b : (e / r.budget * r.budget + e % r.budget) * r.period ≡ e * r.period = ap (λ (v : ℕ). v * r.period) whole in
      let goal : (s.deadline + e / r.budget * r.period) * r.budget + e % r.budget * r.period ≤ (now + r.period) * r.budget + (latest + n) * r.period =
      elim (cases_Bool s.throttled) [
        | inl t ↦ let none = is.spent t in let w = h.waits refl t in let k : e ≡ s.overrun + n = omega arith in let m = ap (λ (v : ℕ). v * r.period) k in omega arith
        | inr f ↦
            let none = is.clear f in
            let d = mul-le s.deadline r.budget (now + r.period) r.budget (h.free refl f) (omega arith) in
            let m = mul-le e r.period (latest + n) r.period (omega arith) (omega arith) in
            omega arith
      ] in
      rw (charge_beyond Throttled r n s ge) record { free = λ m f. cc; waits = λ m t. goal }
]

-- and a replenishment at the next tick
near_replenishment : (mode : Mode) (r : Rate) (now latest : ℕ) (s : State) → IsNear r mode now latest s → IsNear r mode (now + 1) latest (after_replenishment r (now + 1) s)
near_replenishment mode r now latest s h = elim (cases_Bool (s.throttled && leb s.deadline (now + 1))) [
  | inl t ↦ let d : s.deadline ≤ now + 1 = grind (arith, nat_tests) in rw t record { free = λ m f. omega arith; waits = λ m w. cc }
  | inr n ↦ rw n record { free = λ m f. let d = h.free m f in omega arith; waits = λ m w. let d = h.waits m w in omega arith }
]

-- and a job that comes in
near_job : (active : Bool) (mode : Mode) (r : Rate) (now latest : ℕ) (s : State) → IsNear r mode now latest s
    → IsNear r mode now latest (if active || s.throttled then s else after_arrival mode r now s)
near_job active mode r now latest s h = elim (cases_Bool (active || s.throttled)) [
  | inl t ↦ rw t h
  | inr f ↦
      let free : s.throttled ≡ false = grind (arith, nat_tests) in
      let stays : (after_arrival mode r now s).throttled ≡ false = grind (arith, nat_tests) in
      rw f record {
        free = λ m f. deadline-arrived-le mode r now (now + r.period) s (h.free m free) (omega arith);
        waits = λ m t. cc;
      }
]

module _ {W : Type 0} (work : Meaning W) (x y : ℕ) (terms : Terms) where
  -- what every step keeps of a server
  record IsKept (a : Account W) : Type 0 where
    same : a.terms ≡ terms
    lawful : IsLawful work a
    shared : IsShared a.terms.reservation x y (taken a) a.state

  -- a job that comes in keeps it
  kept_job : (now : ℕ) (job : W) (a : Account W) → IsKept a → IsKept (account_with_job work now job a)
  kept_job now job a k = record {
    same = k.same;
    lawful = lawful_job work now job a k.lawful;
    shared = elim (cases_Bool (is_active (face_of work a) || a.state.throttled)) [
      | inl t ↦ rw t k.shared
      | inr f ↦ rw f (shared_arrival a.terms.mode a.terms.reservation x y (taken a) now a.state (grind (arith, nat_tests)) k.shared)
    ];
  }

  -- so does a unit
  kept_unit : (a : Account W) → is_ready (face_of work a) ≡ true → IsKept a → IsKept (account_with_unit a)
  kept_unit a ready k = record {
    same = k.same;
    lawful = lawful_unit work a ready k.lawful;
    shared =
        let e : taken (account_with_unit a) ≡ taken a + 1 = omega arith in
        rw e (shared_paid a.terms.reservation x y (taken a) 1 a.state (after_unit a.terms.mode a.terms.reservation a.state)
        (unit_paid a.terms.mode a.terms.reservation a.state k.lawful.rate.some k.lawful.state (runnable (face_of work a) ready).free
        (ready_budget work a ready k.lawful)) k.shared);
  }

  -- so does a charge
  kept_charge : (n : ℕ) (a : Account W) → a.runs ≡ true → IsKept a → IsKept (account_with_charge n a)
  kept_charge n a runs k = record {
    same = k.same;
    lawful = lawful_charge work n a runs k.lawful;
    shared =
        let e : taken (account_with_charge n a) ≡ taken a + n = omega arith in
        rw e (shared_paid a.terms.reservation x y (taken a) n a.state (after_charge a.terms.mode a.terms.reservation n a.state)
        (charge_paid a.terms.mode a.terms.reservation n a.state k.lawful.rate.some k.lawful.state k.lawful.free) k.shared);
  }

  -- so does it that the server is let go
  kept_let_go : (a : Account W) → IsKept a → IsKept (account_let_go a)
  kept_let_go a k = record { same = k.same; lawful = lawful_let_go work a k.lawful; shared = k.shared }

  -- so does a replenishment
  kept_replenishment : (now : ℕ) (a : Account W) → IsKept a → IsKept (account_with_replenishment now a)
  kept_replenishment now a k = record {
    same = k.same;
    lawful = lawful_replenishment work now a k.lawful;
    shared = shared_replenishment a.terms.reservation x y (taken a) now a.state k.lawful.state k.shared;
  }

  -- and a close
  kept_close : (a : Account W) → IsKept a → IsKept (account_with_close a)
  kept_close a k = record { same = k.same; lawful = lawful_close work a k.lawful; shared = k.shared }

  -- what is kept, as a bound on the later account
  kept_share : (a b : Account W) → IsLawful work a → a.terms ≡ terms → x ≡ until terms.reservation a.state * terms.reservation.budget
      → y ≡ (taken a + funds terms.reservation a.state) * terms.reservation.period → IsKept b → IsWithinShare a b
  kept_share a b ok same ex ey k =
      let r = terms.reservation in
      let h : IsShared r x y (taken b) b.state = let s = k.shared in rw k.same at s in
      let m = let is = ok.state in numbers r a.state (rw same at is) in
      let n = let is = k.lawful.state in numbers r b.state (rw k.same at is) in
      rw same (omega arith)

module _ {W : Type 0} (work : Meaning W) where
  -- from a list of steps on, after more of them
  pub share_behind : (setup : Setup) (K M : List (Step W)) (s : ℕ) → IsLawful work (account (after work setup M).accounts s)
      → IsWithinShare (account (after work setup M).accounts s) (account (after work setup (K ++ M)).accounts s)
  share_behind setup K M s ok =
      let a = account (after work setup M).accounts s in
      let x = until a.terms.reservation a.state * a.terms.reservation.budget in
      let y = (taken a + funds a.terms.reservation a.state) * a.terms.reservation.period in
      kept_share work x y a.terms a (account (after work setup (K ++ M)).accounts s) ok refl refl refl
      (holds_behind work (λ now. IsKept work x y a.terms) (λ now. kept_unit work x y a.terms)
      (λ now. kept_replenishment work x y a.terms (now + 1)) (λ now. kept_close work x y a.terms) (λ now. kept_let_go work x y a.terms)
      (kept_job work x y a.terms) (λ now n b some. kept_charge work x y a.terms n b) setup K M s
      (record { same = refl; lawful = ok; shared = omega arith }))

  -- it is lawful, and near
  record IsLawfulNear (now : ℕ) (a : Account W) : Type 0 where
    lawful : IsLawful work a
    near : IsNear a.terms.reservation a.terms.mode now a.latest a.state

  -- after every history each server is near
  near_after : (setup : Setup) (M : List (Step W)) (s : ℕ) → IsLawful work (account (start setup).accounts s)
      → (let w = after work setup M in IsLawfulNear w.now (account w.accounts s))
  near_after setup M s law = holds_after work IsLawfulNear
      (λ now a ready h. record {
        lawful = lawful_unit work a ready h.lawful;
        near = near_unit a.terms.mode a.terms.reservation now a.latest a.state h.lawful.state (runnable (face_of work a) ready).free h.near;
      })
      (λ now a h. record {
        lawful = lawful_replenishment work (now + 1) a h.lawful;
        near = near_replenishment a.terms.mode a.terms.reservation now a.latest a.state h.near;
      })
      (λ now a h. record { lawful = lawful_close work a h.lawful; near = h.near })
      (λ now a h. record { lawful = lawful_let_go work a h.lawful; near = h.near })
      (λ now j a h. record {
        lawful = lawful_job work now j a h.lawful;
        near = near_job (is_active (face_of work a)) a.terms.mode a.terms.reservation now a.latest a.state h.near;
      })
      (λ now n a some runs h. record {
        lawful = lawful_charge work n a runs h.lawful;
        near = near_charge a.terms.mode a.terms.reservation now a.latest n a.state h.lawful.rate.some h.lawful.state h.near;
      })
      setup M s (record { lawful = law; near = near_start setup.servers s })
    where
      near_start : (ts : List Terms) (s : ℕ) → (let a : Account W = account (map new_account ts) s in IsNear a.terms.reservation a.terms.mode 0 a.latest a.state)
      near_start [] s = record { free = λ m f. omega arith; waits = λ m t. cc }
      near_start (t ∷ ts) zero = record { free = λ m f. omega arith; waits = λ m w. cc }
      near_start (t ∷ ts) (suc s) = near_start ts s

  -- what a throttled server may still take is near, too, but for what it was charged for one unit
  near_until : (now : ℕ) (a : Account W) → a.terms.mode ≡ Throttled → IsLawfulNear now a
      → (let r = a.terms.reservation in until r a.state * r.budget ≤ (now + r.period) * r.budget + (funds r a.state + a.charges.most) * r.period)
  near_until now a mode h =
      let r = a.terms.reservation in
      let u = until r a.state in
      let f = funds r a.state in
      elim (cases_Bool a.state.throttled) [
        | inl t ↦
            let e : u ≡ a.state.deadline + r.period = rw t refl in
            let c : f ≡ r.budget - a.state.overrun = rw t refl in
            let eq = ap (λ (v : ℕ). v * r.budget) e in
            let under = h.lawful.state.below in
            let g : f + a.state.overrun ≡ r.budget = omega arith in
            let gp = ap (λ (v : ℕ). v * r.period) g in
            let w = h.near.waits mode t in
            let m = mul-le a.latest r.period a.charges.most r.period h.lawful.within (omega arith) in
            omega arith
        | inr n ↦
            let e : u ≡ a.state.deadline = rw n refl in
            let m = mul-le u r.budget (now + r.period) r.budget (let d = h.near.free mode n in omega arith) (omega arith) in
            omega arith
      ]

  -- a window of a throttled server, from its share
  cap_of : (M N : History W) (s : ℕ) → (account_in work N s).terms ≡ (account_in work M s).terms → IsLawful work (account_in work M s)
      → IsLawfulNear (world_after work N).now (account_in work N s) → IsWithinShare (account_in work M s) (account_in work N s) → IsWithinCap work M N s
  cap_of M N s same ok near share = λ mode ahead.
      let a = account_in work M s in
      let b = account_in work N s in
      let r = a.terms.reservation in
      let now = (world_after work M).now in
      let m = numbers r a.state ok.state in
      let n = let k = numbers b.terms.reservation b.state near.lawful.state in rw same at k in
      let late = let k = near_until (world_after work N).now b (ap (λ (t : Terms). t.mode) same ∙ mode) near in rw same at k in
      let early : funds r a.state * r.period + now * r.budget ≤ a.state.budget * r.period + until r a.state * r.budget =
      let d = mul-le now r.budget a.state.deadline r.budget ahead (omega arith) in omega arith in
      omega arith

  -- after more steps of a list
  pub cap_behind : (N : History W) (K M : List (Step W)) (s : ℕ) → IsLawful work (account (start N.setup).accounts s) → IsLawful work (account_in work (when N M) s)
      → IsWithinCap work (when N M) (when N (K ++ M)) s
  cap_behind N K M s law ok = cap_of (when N M) (when N (K ++ M)) s (terms_behind work N.setup K M s) ok (near_after N.setup (K ++ M) s law) (share_behind N.setup K M s ok)
