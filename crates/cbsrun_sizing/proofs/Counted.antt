-- How many jobs a server has finished, after a job more and after a unit.
use Rattle.std.proofs.Common.{false, ◌≡◌, ◌≢◌, ℕ, ◌+◌, ◌≤◌, ◌<◌, true, eqb, [], ◌∷◌, ◌++◌, length, take, arith, sym, ap, ◌∙◌}
use Rattle.std.proofs.Common.{inl, inr, Some, length-append}
use Rattle.std.specs.Prelude.{if◌then◌else◌}
use Rattle.std.specs.List.{sum_by, AllByRecursion}
use Rattle.std.proofs.lemmas.Bool.{cases_Bool, cases_lt}
use Rattle.std.proofs.lemmas.Bool.Decides.{nat_tests}
use Rattle.std.proofs.lemmas.List.{take_all, take-append-le, length-map}
use Rattle.std.proofs.lemmas.List.Sums.{sum_by-cons, sum_by-append, sum_by_more}
use Rattle.cbs_lists.specs.Lists.{changed_at}
use Rattle.cbs_lists.proofs.Lists.{changed_here, changed_elsewhere, AllByRecursion-get}
use Rattle.cbs_steps.specs.Accounts.{Account, need, finished, no_account, account_with_job, account_with_unit, account_with_replenishment, account_let_go}
use Rattle.cbs_steps.specs.History.{World, account, let_go, after_run}
use Rattle.cbs_steps.proofs.FinishedJobs.{count_done-le, count_done_within, count_done_beyond, count_done-is}
use Rattle.cbs_steps.proofs.Running.{replenished_account, loose_account}
use Rattle.cbsrun_simulate.specs.Loading.{loading}
use Rattle.cbsrun_simulate.specs.declared.load_job.LoadJob.{LoadJob}

-- a job more finishes none
pub finished_job : (now : ℕ) (j : LoadJob) (a : Account LoadJob) → a.got ≤ sum_by loading.left a.accepted → 0 < loading.left j
    → finished loading (account_with_job loading now j a) ≡ finished loading a
finished_job now j a paid some =
    let xs = a.accepted in
    let k = finished loading a in
    let le = count_done-le loading.left xs a.got in
    let more = length-append xs (j ∷ []) in
    let same : take k (xs ++ j ∷ []) ≡ take k xs = take-append-le k xs (j ∷ []) le in
    let within : sum_by loading.left (take k (xs ++ j ∷ [])) ≤ a.got = rw same (count_done_within loading.left xs a.got) in
    let beyond : a.got < sum_by loading.left (take (k + 1) (xs ++ j ∷ [])) = elim (cases_lt k (length xs)) [
      | inl lt ↦
          let e : take (k + 1) (xs ++ j ∷ []) ≡ take (k + 1) xs = take-append-le (k + 1) xs (j ∷ []) (omega arith) in
          rw e (count_done_beyond loading.left xs a.got lt)
      | inr ge ↦
          let e : take (k + 1) (xs ++ j ∷ []) ≡ xs ++ j ∷ [] = take_all (k + 1) (xs ++ j ∷ []) (omega arith) in
          rw e (omega (arith, sum_by-append loading.left xs (j ∷ []), sum_by-cons loading.left j []))
    ] in
    count_done-is loading.left (xs ++ j ∷ []) a.got k (omega arith) within (λ lt. beyond)

-- a unit that does not suffice for the first unfinished job finishes none
pub finished_same : (a : Account LoadJob) → finished loading a < length a.accepted
    → eqb (need loading a (finished loading a + 1)) (a.got + 1) ≡ false → finished loading (account_with_unit a) ≡ finished loading a
finished_same a lt n =
    let xs = a.accepted in
    let k = finished loading a in
    let within = count_done_within loading.left xs a.got in
    let beyond = count_done_beyond loading.left xs a.got lt in
    let other : need loading a (k + 1) ≢ a.got + 1 = λ e. let y : eqb (need loading a (k + 1)) (a.got + 1) ≡ true = grind (arith, nat_tests) in cc in
    count_done-is loading.left xs (a.got + 1) k (omega arith) (omega arith) (λ more. omega (arith, other))

-- a unit finishes the first unfinished job, if that needs no more
pub finished_unit : (a : Account LoadJob) → AllByRecursion (λ j. 0 < loading.left j) a.accepted → finished loading a < length a.accepted
    → finished loading (account_with_unit a)
    ≡ (let k = finished loading a in if eqb (need loading a (k + 1)) (a.got + 1) then k + 1 else k)
finished_unit a some lt =
    let xs = a.accepted in
    let k = finished loading a in
    let within = count_done_within loading.left xs a.got in
    let beyond = count_done_beyond loading.left xs a.got lt in
    elim (cases_Bool (eqb (need loading a (k + 1)) (a.got + 1))) [
      | inl y ↦
          let last : need loading a (k + 1) ≡ a.got + 1 = grind (arith, nat_tests) in
          let d : LoadJob = record { left = 0; overrun = 0 } in
          rw y (count_done-is loading.left xs (a.got + 1) (k + 1) (omega arith) (omega arith) (λ more.
          let next = sum_by_more loading.left xs (k + 1) d more in
          let positive = AllByRecursion-get (λ (j : LoadJob). 0 < loading.left j) xs (k + 1) d some more in
          omega arith))
      | inr n ↦ rw n (finished_same a lt n)
    ]

-- the account of the server that got a unit, and that of another one
pub run_here : (w : World LoadJob) (t : ℕ) → t < length w.accounts
    → account (after_run w (Some t)).accounts t ≡ account_with_replenishment (w.now + 1) (account_with_unit (account_let_go (account w.accounts t)))
run_here w t lt =
    let xs = (let_go w).accounts in
    let there : t < length xs = omega (arith, length-map w.accounts (account_let_go {W = LoadJob})) in
    replenished_account (w.now + 1) (changed_at account_with_unit xs t) t
    ∙ ap (account_with_replenishment (w.now + 1)) (changed_here account_with_unit xs t no_account there ∙ ap account_with_unit (loose_account w.accounts t))

pub run_elsewhere : (w : World LoadJob) (t s : ℕ) → t ≢ s
    → account (after_run w (Some t)).accounts s ≡ account_with_replenishment (w.now + 1) (account_let_go (account w.accounts s))
run_elsewhere w t s ne =
    let xs = (let_go w).accounts in
    replenished_account (w.now + 1) (changed_at account_with_unit xs t) s
    ∙ ap (account_with_replenishment (w.now + 1)) (changed_elsewhere account_with_unit xs t s no_account (λ e. ne (sym e)) ∙ loose_account w.accounts s)
