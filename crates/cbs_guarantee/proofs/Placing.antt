-- One more server in parts.
use Rattle.std.proofs.Common.{◌≡◌, ℕ, zero, suc, ◌+◌, ◌<◌, true, false, List, [], ◌∷◌, ◌++◌, length, get_or, set, arith, refl, ap}
use Rattle.std.proofs.Common.{◌∙◌, inl, inr}
use Rattle.std.proofs.Common.{Option, Some, None, Result, Ok, Err}
use Rattle.std.specs.Prelude.{◌≢◌, OnErr}
use Rattle.std.specs.Option.{is_none}
use Rattle.std.specs.Result.{is_ok}
use Rattle.std.specs.List.{AllByRecursion}
use Rattle.std.proofs.lemmas.Bool.{cases_lt}
use Rattle.std.proofs.lemmas.List.{set-get_or, length-map}
use Rattle.cbs_lists.proofs.Lists.{AllByRecursion-get}
use Rattle.cbs_rate.specs.Bound.{Fraction}
use Rattle.cbs_rate.specs.Plan.{Planned, admit_refusal}
use Rattle.cbs_rate.specs.Rate.{Rate}
use Rattle.cbs_rate.specs.Refusals.{AnswersBy}
use Rattle.cbs_rate.specs.declared.error.AdmitError.{AdmitError}
use Rattle.cbs_guarantee.specs.Parts.{rate_at, plan_of, placed, servers_of, IsPart}
use Rattle.cbs_guarantee.specs.declared.parts.Part.{Part}

-- what a result says about why a plan refuses
pub refused_of : {N : Type 0} (o : Option AdmitError) (r : Result N AdmitError) (n : N) → AnswersBy r o n → is_ok r ≡ false → o ≢ None
refused_of o (Ok x) n h bad = cc
refused_of o (Err e) n h bad = λ none. cc

pub taken_of : {N : Type 0} (o : Option AdmitError) (r : Result N AdmitError) (n : N) → AnswersBy r o n → is_ok r ≡ true → o ≡ None
taken_of o (Ok x) n h ok = h.0
taken_of o (Err e) n h ok = cc

-- what holds of a refusal
pub on_refusal : {N : Type 0} {P : Type 0} (r : Result N AdmitError) → OnErr r P → is_ok r ≡ false → P
on_refusal (Ok x) h bad = cc
on_refusal (Err e) h bad = h

-- a reservation that was read is that of the server
pub rate_is : (rates : List Rate) (s : ℕ) (r : Rate) → s < length rates → r ≡ get_or rates s r → r ≡ rate_at rates s
rate_is [] s r lt e = absurd (omega arith)
rate_is (q ∷ rates) zero r lt e = e
rate_is (q ∷ rates) (suc s) r lt e = rate_is rates s r (omega arith) e

-- the servers of part k
pub servers_at : (parts : List Part) (k : ℕ) (d : Part) → k < length parts → get_or (servers_of parts) k [] ≡ (get_or parts k d).servers.items
servers_at [] k d lt = absurd (omega arith)
servers_at (p ∷ parts) zero d lt = refl
servers_at (p ∷ parts) (suc k) d lt = servers_at parts k d (omega arith)

-- there are as many lists of servers as parts
pub part_count : (parts : List Part) → length (servers_of parts) ≡ length parts
part_count parts = length-map parts (λ (part : Part). part.servers.items)

-- a part that is written as it was leaves the parts as they were
pub part_unchanged : (parts : List Part) (i : ℕ) (x : Part) (plan : Planned) → x ≡ get_or parts i x → plan ≡ x.plan
    → set parts i (record { plan = plan; servers = x.servers }) ≡ parts
part_unchanged parts i x plan read same =
    let e : record { plan = plan; servers = x.servers } ≡ get_or parts i x = rw same read in
    ap (set parts i) e ∙ set-get_or parts i x

-- the servers of parts of which one is written
pub servers_written : (parts : List Part) (i : ℕ) (x : Part) → servers_of (set parts i x) ≡ set (servers_of parts) i x.servers.items
servers_written [] i x = refl
servers_written (p ∷ parts) zero x = refl
servers_written (p ∷ parts) (suc i) x = ap (λ xs. p.servers.items ∷ xs) (servers_written parts i x)

-- the servers of parts with one more part
pub servers_pushed : (parts : List Part) (x : Part) → servers_of (parts ++ x ∷ []) ≡ servers_of parts ++ x.servers.items ∷ []
servers_pushed [] x = refl
servers_pushed (p ∷ parts) x = ap (λ xs. p.servers.items ∷ xs) (servers_pushed parts x)

module _ (bound : Fraction) (rates : List Rate) (s : ℕ) where
  -- why a part does not take the server, if it does not
  abbrev pub refusal_of : List ℕ → Option AdmitError
  refusal_of part = admit_refusal (plan_of bound rates part) (rate_at rates s)

  -- the plan of part k decides
  pub part_refusal : (parts : List Part) (k : ℕ) (x : Part) → AllByRecursion (IsPart bound rates) parts → k < length parts → x ≡ get_or parts k x
      → refusal_of (get_or (servers_of parts) k []) ≡ admit_refusal x.plan (rate_at rates s)
  part_refusal parts k x each lt read =
      let is = AllByRecursion-get (IsPart bound rates) parts k x each lt in
      let e = servers_at parts k x lt in
      let same : x.plan ≡ plan_of bound rates x.servers.items = rw (← read) at is.plan in
      rw (e, ← read, same) refl

  -- one more part refused it
  pub refused_more : (parts : List (List ℕ)) (i : ℕ) → refusal_of (get_or parts i []) ≢ None → ((k : ℕ) → k < i → refusal_of (get_or parts k []) ≢ None)
      → (k : ℕ) → k < i + 1 → refusal_of (get_or parts k []) ≢ None
  refused_more parts i here before k lt = elim (cases_lt k i) [
    | inl less ↦ before k less
    | inr ge ↦ let e : k ≡ i = omega arith in rw e here
  ]

  is_refused : (o : Option AdmitError) → o ≢ None → is_none o ≡ false
  is_refused None not = absurd (not refl)
  is_refused (Some e) not = refl

  -- if the parts before i refuse the server, and part i takes it, it stands there
  pub placed_here : (parts : List (List ℕ)) (i : ℕ) → i < length parts → ((k : ℕ) → k < i → refusal_of (get_or parts k []) ≢ None)
      → refusal_of (get_or parts i []) ≡ None → placed bound rates s parts ≡ set parts i (get_or parts i [] ++ s ∷ [])
  placed_here [] i lt before here = absurd (omega arith)
  placed_here (p ∷ parts) zero lt before here = rw here refl
  placed_here (p ∷ parts) (suc i) lt before here =
      let over = is_refused (refusal_of p) (before 0 (omega arith)) in
      rw over (ap (λ xs. p ∷ xs) (placed_here parts i (omega arith) (λ k less. before (suc k) (omega arith)) here))

  -- if all parts refuse the server, it gets a new part
  pub placed_new : (parts : List (List ℕ)) → ((k : ℕ) → k < length parts → refusal_of (get_or parts k []) ≢ None)
      → placed bound rates s parts ≡ parts ++ (s ∷ []) ∷ []
  placed_new [] before = refl
  placed_new (p ∷ parts) before =
      let over = is_refused (refusal_of p) (before 0 (omega arith)) in
      rw over (ap (λ xs. p ∷ xs) (placed_new parts (λ k less. before (suc k) (omega arith))))
