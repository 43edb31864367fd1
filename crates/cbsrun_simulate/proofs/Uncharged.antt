-- A simulation without overruns: nothing is charged, so no step takes any server's time.
use Rattle.std.proofs.Common.{◌≡◌, ℕ, zero, suc, ◌≤◌, ltb, List, [], ◌∷◌, ◌++◌, map, get_or, refl, sym, subst, ◌∙◌, inl, inr, Option, Some, None}
use Rattle.std.specs.Prelude.{drop}
use Rattle.std.specs.List.{AllByRecursion}
use Rattle.std.proofs.lemmas.Bool.{cases_Bool}
use Rattle.cbs_job.specs.Work.{Meaning}
use Rattle.cbs_lists.specs.Lists.{changed_at}
use Rattle.cbs_rules.specs.Rules.{Terms, clock_end}
use Rattle.cbs_steps.specs.Accounts.{Account, new_account, account_with_job}
use Rattle.cbs_steps.specs.Faces.{submit_refusal}
use Rattle.cbs_steps.specs.History.{World, account, faces, after_submit, world_after, reply_in}
use Rattle.cbs_steps.specs.Quiet.{IsQuietAdvance, IsQuietStep, AreQuiet}
use Rattle.cbs_steps.specs.declared.error.CoreError.{CoreError}
use Rattle.cbs_steps.specs.declared.reply.Ran.{Ran}
use Rattle.cbs_steps.specs.declared.reply.Ran.TheVariants as ran
use Rattle.cbs_steps.specs.declared.step.Step.TheVariants as step
use Rattle.cbs_steps.proofs.Histories.{holds_run_step, holds_advance_step, holds_charge_step}
use Rattle.cbsrun_simulate.specs.Moves.{Move, submit, run, pass, charge, charged_by, overrun_in, owing_for, ran_in, step_of, Simulation, clock_of}
use Rattle.cbsrun_simulate.specs.Moves.{after_move, after_moves, AreNext}
use Rattle.cbsrun_simulate.specs.MoveLaws.{AllMoves, MovesQuietly, EachOnTick, since_after}
use Rattle.cbsrun_simulate.specs.Releases.{before}
use Rattle.cbsrun_simulate.specs.Simulating.{IsAtTick}
use Rattle.cbsrun_simulate.specs.declared.release.Release.{Release}
use Rattle.cbsrun_simulate.proofs.Clocks.{submit-now}
use Rattle.cbsrun_simulate.proofs.MoveSteps.{IsGoing}
use Rattle.cbsrun_simulate.proofs.Simulations.{well_next}

-- the first of the releases before `until` has no overrun if none has
first_plain : (until : ℕ) (rs : List Release) (r : Release) (rest : List Release) → before until rs ≡ r ∷ rest → AllByRecursion (λ r. r.overrun ≡ 0) rs
    → r.overrun ≡ 0
first_plain until [] r rest e plain = cc
first_plain until (q ∷ qs) r rest e plain = elim (cases_Bool (ltb q.tick until)) [
  | inl t ↦ let is : q ∷ before until qs ≡ r ∷ rest = rw t at e in let same : q ≡ r = cc in rw same at plain.0
  | inr f ↦ let g : [] ≡ r ∷ rest = rw f at e in cc
]

-- none of the releases after the first has an overrun
rest_plain : (rs : List Release) → AllByRecursion (λ r. r.overrun ≡ 0) rs → AllByRecursion (λ r. r.overrun ≡ 0) (drop 1 rs)
rest_plain [] plain = tt
rest_plain (r ∷ rs) plain = plain.1

module _ {W : Type 0} (work : Meaning W) where
  -- no job of the account has an overrun
  abbrev NoOverrun : Account W → Type 0
  NoOverrun a = (q : ℕ) → get_or (map work.output a.accepted) q 0 ≡ 0

  -- if one more job comes, which has no overrun, no job has one
  one_plain : (js : List W) (j : W) (q : ℕ) → work.output j ≡ 0 → ((q : ℕ) → get_or (map work.output js) q 0 ≡ 0)
      → get_or (map work.output (js ++ j ∷ [])) q 0 ≡ 0
  one_plain [] j zero none plain = none
  one_plain [] j (suc q) none plain = refl
  one_plain (x ∷ js) j zero none plain = plain 0
  one_plain (x ∷ js) j (suc q) none plain = one_plain js j q none (λ q. plain (suc q))

  -- a change that keeps one account without overruns keeps all of them so
  plain_changed : (f : Account W → Account W) (xs : List (Account W)) (t s : ℕ) → ((a : Account W) → NoOverrun a → NoOverrun (f a))
      → ((s : ℕ) → NoOverrun (account xs s))
      → NoOverrun (account (changed_at f xs t) s)
  plain_changed f [] t s keeps plain = plain s
  plain_changed f (a ∷ xs) zero zero keeps plain = keeps a (plain 0)
  plain_changed f (a ∷ xs) zero (suc s) keeps plain = plain (suc s)
  plain_changed f (a ∷ xs) (suc t) zero keeps plain = plain 0
  plain_changed f (a ∷ xs) (suc t) (suc s) keeps plain = plain_changed f xs t s keeps (λ s. plain (suc s))

  -- a submit of a job without overrun keeps all accounts without overruns
  plain_submit : (w : World W) (t s : ℕ) (j : W) (o : Option CoreError) → work.output j ≡ 0 → ((s : ℕ) → NoOverrun (account w.accounts s))
      → NoOverrun (account (after_submit work w t j o).accounts s)
  plain_submit w t s j None none plain = plain_changed (account_with_job work w.now j) w.accounts t s (λ a h q. one_plain a.accepted j q none h) plain
  plain_submit w t s j (Some e) none plain = plain s

  -- at the start there is no job
  plain_start : (ts : List Terms) (s : ℕ) → NoOverrun (account (map new_account ts) s)
  plain_start [] s q = refl
  plain_start (t ∷ ts) zero q = refl
  plain_start (t ∷ ts) (suc s) q = plain_start ts s q

  -- no run leaves a charge that is owed
  none_owing : (w : World W) (r : Ran) → ((s q : ℕ) → overrun_in work w s q ≡ 0) → owing_for work w r ≡ None
  none_owing w ran.Idle none = refl
  none_owing w ran.ClockEnd none = refl
  none_owing w (ran.Unit s q) none = rw (none s q) refl
  none_owing w (ran.Done c) none = rw (none c.server c.seq) refl

module _ {W : Type 0} (work : Meaning W) (job : Release → W) where
  -- no release to come and no job has an overrun, and no charge is owed
  pub record IsPlain (sim : Simulation W) : Type 0 where
    pub coming : AllByRecursion (λ r. r.overrun ≡ 0) sim.coming
    pub none : (s q : ℕ) → overrun_in work (world_after work sim.history) s q ≡ 0
    pub owing : sim.owing ≡ None

  module _ (output : (r : Release) → work.output (job r) ≡ r.overrun) where
    -- a move keeps that, if a release that it submits has no overrun
    plain_move : (sim : Simulation W) (m : Move) → ((r : Release) → m ≡ submit r → r.overrun ≡ 0) → IsPlain sim
        → IsPlain (after_move work job sim m)
    plain_move sim (submit r) none h = record {
      coming = rest_plain sim.coming h.coming;
      none = λ s q. let w = world_after work sim.history in
          plain_submit work w r.server s (job r) (submit_refusal sim.history.setup.backlog (faces work w) r.server) (output r ∙ none r refl) h.none q;
      owing = h.owing;
    }
    plain_move sim run none h = record {
      coming = h.coming;
      none = λ s q. holds_run_step work (λ now. NoOverrun work) (λ now a ready k. k) (λ now a k. k) (λ now a k. k) (λ now a k. k) sim.history.setup.backlog
          (world_after work sim.history) s (h.none s) q;
      owing = none_owing work (world_after work sim.history) (ran_in (reply_in work sim.history step.Run)) h.none;
    }
    plain_move sim (pass n) none h = record {
      coming = h.coming;
      none = λ s q. holds_advance_step work (λ now. NoOverrun work) (λ now a ready k. k) (λ now a k. k) (λ now a k. k)
          (λ now a k. k) sim.history.setup.backlog (world_after work sim.history) n s (h.none s) q;
      owing = refl;
    }
    plain_move sim (charge t n) none h = record {
      coming = h.coming;
      none = λ s q. holds_charge_step work (λ now. NoOverrun work) (λ now a ready k. k) (λ now a k. k) (λ now a k. k) (λ now a k. k) (λ now n a some runs k. k)
          sim.history.setup.backlog (world_after work sim.history) t n s (h.none s) q;
      owing = refl;
    }

    module _ (until : ℕ) (ends : until ≤ clock_end) where
      -- no move charges anything
      pub uncharged : (since : ℕ) (sim : Simulation W) (ms : List Move) → IsGoing work job until ends since sim → IsPlain sim → AreNext work job until sim ms
          → AllMoves work job (λ sim m. charged_by m ≡ None) sim ms
      uncharged since sim [] going plain each = tt
      uncharged since sim (m ∷ ms) going plain each =
          let well = well_next work job until ends since sim m going each.0 in
          let first : (r : Release) → m ≡ submit r → r.overrun ≡ 0 = λ r e. first_plain until sim.coming r _ (rw e at well.submits) plain.coming in
          let charges = well.charges.charge in (
            rw plain.owing at charges,
            uncharged (since_after work job since sim m) (after_move work job sim m) ms well.going
                (plain_move sim m first plain) each.1,
          )

  -- a move that advances quietly and charges nothing takes no server's time
  quiet_step : (w : World W) (m : Move) → charged_by m ≡ None → IsQuietAdvance work w (step_of work job m) → IsQuietStep work w (step_of work job m)
  quiet_step w (submit r) none quiet = quiet
  quiet_step w run none quiet = quiet
  quiet_step w (pass n) none quiet = quiet
  quiet_step w (charge s n) none quiet = cc

  -- the same for several such moves
  pub free_steps : (sim : Simulation W) (ms : List Move) → AllMoves work job (λ sim m. charged_by m ≡ None) sim ms
      → AllMoves work job (MovesQuietly work job) sim ms
      → AreQuiet work sim.history.setup sim.history.steps
      → AreQuiet work (after_moves work job sim ms).history.setup (after_moves work job sim ms).history.steps
  free_steps sim [] none quiet before = before
  free_steps sim (m ∷ ms) none quiet before =
      free_steps (after_move work job sim m) ms none.1 quiet.1 (before, quiet_step (world_after work sim.history) m none.0 quiet.0)

  -- if a move charges nothing, no release waits for it
  since_now : (sim : Simulation W) (m : Move) → charged_by m ≡ None
      → since_after work job (clock_of work job sim) sim m ≡ clock_of work job (after_move work job sim m)
  since_now sim (submit r) none = sym (submit-now work sim.history.setup.backlog (world_after work sim.history) r.server (job r))
  since_now sim run none = refl
  since_now sim (pass n) none = refl
  since_now sim (charge s n) none = cc

  -- each release is submitted exactly at its tick
  pub at_ticks : (sim : Simulation W) (ms : List Move) → AllMoves work job (λ sim m. charged_by m ≡ None) sim ms
      → EachOnTick work job (clock_of work job sim) sim ms
      → AllMoves work job (IsAtTick work job) sim ms
  at_ticks sim [] none each = tt
  at_ticks sim (m ∷ ms) none each = (
    each.0,
    at_ticks (after_move work job sim m) ms none.1
        (subst (λ t. EachOnTick work job t (after_move work job sim m) ms) (since_now sim m none.0) each.1),
  )

  -- a new simulation has no overruns, if its releases have none
  pub plain_new : (ts : List Terms) (backlog : ℕ) (coming : List Release) → AllByRecursion (λ r. r.overrun ≡ 0) coming
      → IsPlain (record { history = record { setup = record { servers = ts; backlog = backlog }; steps = [] }; coming = coming; owing = None })
  plain_new ts backlog coming plain = record { coming = plain; none = λ s q. plain_start work ts s q; owing = refl }
