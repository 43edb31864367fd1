-- The charge that is owed after a run, which its server may be charged.
use Rattle.std.proofs.Common.{◌≡◌, ℕ, zero, suc, ◌+◌, ◌<◌, true, false, eqb, leb, ltb, List, [], ◌∷◌, length, map, get_or, refl, sym, ◌∙◌, ap, arith}
use Rattle.std.proofs.Common.{inl, inr, Option, Some, None}
use Rattle.std.specs.Prelude.{if◌then◌else◌, drop}
use Rattle.std.specs.Option.{option_and_then}
use Rattle.std.proofs.lemmas.Bool.{cases_Bool}
use Rattle.std.proofs.lemmas.Bool.Decides.{nat_tests}
use Rattle.std.proofs.lemmas.List.{length-map}
use Rattle.cbs_job.specs.Work.{Meaning, whole}
use Rattle.cbs_rules.specs.Rules.{clock_end}
use Rattle.cbs_core.specs.Agreement.{AgreesJobs, Agrees}
use Rattle.cbs_core.specs.Held.{CoreHeld, DoesRun, front_output, held_at}
use Rattle.cbs_lists.specs.Lists.{changed_at}
use Rattle.cbs_lists.proofs.Lists.{length-changed_at, within_lists, AllZip-get}
use Rattle.cbs_steps.specs.Accounts.{no_account, need, face_of, finished, account_with_unit, account_with_replenishment, account_let_go}
use Rattle.cbs_steps.specs.Choice.{IsChoice}
use Rattle.cbs_steps.specs.Faces.{Face, face_at, ranks}
use Rattle.cbs_steps.specs.History.{World, History, account, faces, chosen, let_go, runner, run_reply, unit_reply, after_run, world_after}
use Rattle.cbs_steps.specs.declared.reply.Ran.{Ran}
use Rattle.cbs_steps.specs.declared.reply.Ran.TheVariants as ran
use Rattle.cbs_steps.proofs.Choices.{choice_is}
use Rattle.cbs_steps.proofs.Histories.{account_face}
use Rattle.cbs_steps.proofs.Running.{runs_run}
use Rattle.cbsrun_simulate.specs.Moves.{owing_of, owing_for, overrun_in}
use Rattle.cbsrun_simulate.specs.Simulating.{owing_told}
use Rattle.cbsrun_simulate.specs.declared.charge.Charge.{Charge}

-- a server may be charged if it exists and runs
pub record MayBeCharged {W : Type 0} (w : World W) (c : Charge) : Type 0 where
  pub some : 0 < c.ticks
  pub there : c.server < length w.accounts
  pub runs : (account w.accounts c.server).runs ≡ true

-- the choice sees each server
pub length_ranks : (fs : List Face) → length (ranks fs) ≡ length fs
length_ranks [] = refl
length_ranks (f ∷ fs) = ap suc (length_ranks fs)

-- a charge that is owed is of that server, and of at least one tick
pub owing_is : (s n : ℕ) (c : Charge) → owing_of s n ≡ Some c → (s ≡ c.server) × (0 < c.ticks)
owing_is s zero c e = cc
owing_is s (suc n) c e = (cc, let f : suc n ≡ c.ticks = cc in omega arith)

module _ {W : Type 0} (work : Meaning W) where
  -- a unit of server s leaves the overrun of its first unfinished job owed
  pub unit_owes : (w : World W) (s : ℕ) → (let a = account w.accounts s in
      owing_for work w (unit_reply work a s) ≡ owing_of s (overrun_in work w s (finished work a)))
  unit_owes w s =
      let a = account w.accounts s in
      elim (cases_Bool (eqb (need work a (finished work a + 1)) (a.got + 1))) [ inl t ↦ rw t refl | inr f ↦ rw f refl ]

  -- the chosen server exists
  chosen_there : (w : World W) (s : ℕ) → Some s ≡ chosen work w → s < length w.accounts
  chosen_there w s e =
      let rs = ranks (faces work w) in
      let h : IsChoice rs (length rs) (Some s) = rw (← e) at (choice_is rs) in
      let lt = h.within in
      omega (arith, length_ranks (faces work w), length-map w.accounts (face_of work))

  -- the charge that is owed after a run may be made
  run_charged : (w : World W) (c : Charge) (o : Option ℕ) → o ≡ chosen work w → w.now < clock_end → owing_for work w (run_reply work w o) ≡ Some c
      → MayBeCharged (after_run w (if ltb w.now clock_end then o else None)) c
  run_charged w c None e early owed = cc
  run_charged w c (Some s) e early owed =
      let t : ltb w.now clock_end ≡ true = grind (arith, nat_tests) in
      let f : leb clock_end w.now ≡ false = grind (arith, nat_tests) in
      let unit : owing_for work w (unit_reply work (account w.accounts s) s) ≡ Some c = rw f at owed in
      let is = owing_is s (overrun_in work w s (finished work (account w.accounts s))) c (sym (unit_owes w s) ∙ unit) in
      let there = chosen_there w s e in
      let same = is.0 in
      let xs = (let_go w).accounts in
      let count : length (after_run w (Some s)).accounts ≡ length w.accounts =
      length-map (changed_at account_with_unit xs s) (account_with_replenishment (w.now + 1)) ∙ length-changed_at account_with_unit xs s
      ∙ length-map w.accounts account_let_go in
      let here : eqb s c.server ≡ true = grind (arith, nat_tests) in
      rw t (record { some = is.1; there = omega arith; runs = runs_run w s c.server there ∙ here })

  pub owed_runs : (w : World W) (c : Charge) → w.now < clock_end → owing_for work w (run_reply work w (chosen work w)) ≡ Some c
      → MayBeCharged (after_run w (runner work w)) c
  owed_runs w c early owed = run_charged w c (chosen work w) refl early owed

  module _ (constant : (j : W) → whole work j ≡ work.output j) where
    -- the output of the first job among those from number k on
    first_output : (r : ℕ) (rs : List ℕ) (xs : List W) (k : ℕ) → r ∷ rs ≡ map (whole work) (drop k xs) → r ≡ get_or (map work.output xs) k 0
    first_output r rs [] zero e = cc
    first_output r rs [] (suc k) e = cc
    first_output r rs (x ∷ xs) zero e = let same : r ≡ whole work x = cc in same ∙ constant x
    first_output r rs (x ∷ xs) (suc k) e = first_output r rs xs k e

    -- the output of the first job of a server that a core holds
    first_held : (core : CoreHeld W) (M : History W) (s q r : ℕ) (rs : List ℕ) → Agrees work core M → q ≡ (held_at core s).face.finished
        → map (whole work) (held_at core s).jobs ≡ r ∷ rs → r ≡ overrun_in work (world_after work M) s q
    first_held core M s q r rs agrees number e =
        let w = world_after work M in
        let a = account w.accounts s in
        let some : 0 < length (held_at core s).jobs = let l = ap length e in omega (arith, length-map (held_at core s).jobs (whole work)) in
        let here = AllZip-get (AgreesJobs work) core.queues w.accounts s [] no_account agrees.world.jobs (within_lists core.queues s some) in
        let face : (held_at core s).face ≡ face_of work a = ap (λ fs. face_at fs s) agrees.world.shown ∙ account_face work w.accounts s in
        let is : q ≡ finished work a = number ∙ ap (λ f. f.finished) face in
        rw is (first_output r rs a.accepted (finished work a) (sym e ∙ here.results))

    -- the charge that a core shows after a run is the one that is owed
    pub told_is : (M : History W) (old new : CoreHeld W) (r : Ran) → Agrees work old M → DoesRun work r old new
        → owing_told work new r ≡ owing_for work (world_after work M) r
    told_is M old new ran.Idle agrees does = refl
    told_is M old new ran.ClockEnd agrees does = refl
    told_is M old new (ran.Unit s q) agrees does = front (held_at new s).jobs does.0.some does.0.results
      where
        front : (jobs : List W) → 0 < length jobs → map (whole work) jobs ≡ map (whole work) (held_at old s).jobs
            → option_and_then (owing_of s) (front_output work jobs) ≡ owing_of s (overrun_in work (world_after work M) s q)
        front [] some e = absurd (omega arith)
        front (j ∷ js) some e = ap (owing_of s) (sym (constant j) ∙ first_held old M s q (whole work j) (map (whole work) js) agrees does.0.number (sym e))
    told_is M old new (ran.Done c) agrees does =
        ap (owing_of c.server) (first_held old M c.server c.seq c.result (map (whole work) (held_at new c.server).jobs) agrees does.0.number does.0.results)
