-- The steps of each server take their ticks one after another.
use Rattle.std.proofs.Common.{◌≡◌, ℕ, zero, suc, ◌+◌, ◌≤◌, Bool, true, false, List, [], ◌∷◌, Option, Some, None, arith, refl, inl, inr}
use Rattle.std.specs.Prelude.{eqb, leb, ltb, if◌then◌else◌, get_or, map}
use Rattle.std.proofs.lemmas.Bool.{cases_Bool}
use Rattle.std.proofs.lemmas.Bool.Decides.{nat_tests}
use Rattle.cbsrun_chart.specs.Ticks.{AreInTurn}
use Rattle.cbs_job.specs.Work.{Meaning, whole}
use Rattle.cbsrun_figures.specs.Figures.{is_server, steps_of}
use Rattle.cbs_rules.specs.Rules.{clock_end}
use Rattle.cbs_steps.specs.Accounts.{finished, need}
use Rattle.cbs_steps.specs.Faces.{close_refusal, submit_refusal}
use Rattle.cbs_steps.specs.History.{World, History, ◌⊕◌, account, faces, world_after, chosen, after_submit, after_run, after_advance, after_closing, after_charging}
use Rattle.cbs_steps.specs.History.{charge_refusal, submit_reply, run_reply, unit_reply, close_reply, charge_reply}
use Rattle.cbs_steps.proofs.Running.{advance_jumps, charge_jumps}
use Rattle.cbs_steps.specs.declared.error.CoreError.{CoreError}
use Rattle.cbs_steps.specs.declared.error.CoreError.TheVariants as error
use Rattle.cbs_steps.specs.declared.reply.Ran.TheVariants as ran
use Rattle.cbs_steps.specs.declared.reply.Reply.TheVariants as reply
use Rattle.cbs_steps.specs.declared.step.Step.{Step}
use Rattle.cbs_steps.specs.declared.step.Step.TheVariants as step
use Rattle.cbsrun_events.specs.Events.{begun, server_of, ticks_of_run}
use Rattle.cbsrun_events.specs.declared.seen.Seen.{Seen}
use Rattle.cbsrun_runs.specs.Steps.{clock_after, seen_after, seen_from, seen_of_step}
use Rattle.cbsrun_runs.proofs.ThrottledTicks.{in_turn_later}

-- a step begins at the clock before it
module _ {W : Type 0} (work : Meaning W) (w : World W) where
  submit_begins : (s : ℕ) (job : W) (o : Option CoreError)
      → w.now ≤ begun (seen_of_step work (after_submit work w s job o) (step.Submit s job) (submit_reply w s job o))
  submit_begins s job None = omega arith
  submit_begins s job (Some e) = omega arith

  unit_takes : (t : ℕ) → ticks_of_run (unit_reply work (account w.accounts t) t) ≡ 1
  unit_takes t =
      let a = account w.accounts t in
      let k = finished work a in
      of_either (eqb (need work a (k + 1)) (a.got + 1)) k (get_or (map (whole work) a.accepted) k 0)
    where
      of_either : (b : Bool) (k n : ℕ) → ticks_of_run (if b then ran.Done (record { server = t; seq = k; result = n }) else ran.Unit t k) ≡ 1
      of_either true k n = refl
      of_either false k n = refl

  run_begins : (o : Option ℕ)
      → (let v = after_run w (if ltb w.now clock_end then o else None) in w.now ≤ begun (seen_of_step work v step.Run (reply.Ran (run_reply work w o))))
  run_begins None = elim (cases_Bool (ltb w.now clock_end)) [
    | inl y ↦ rw y (omega arith)
    | inr n ↦ rw n (omega arith)
  ]
  run_begins (Some t) = elim (cases_Bool (ltb w.now clock_end)) [
    | inl y ↦
        let f : leb clock_end w.now ≡ false = grind (arith, nat_tests) in
        let one = unit_takes t in
        rw (y, f) (omega arith)
    | inr n ↦ let f : leb clock_end w.now ≡ true = grind (arith, nat_tests) in rw (n, f) (omega arith)
  ]

  advance_begins : (n : ℕ) (b : Bool)
      → (let v = if b then after_advance w n else w in
      w.now ≤ begun (seen_of_step work v (step.Advance n) (if b then reply.Advanced else reply.Refused error.ClockEnd)))
  advance_begins n false = omega arith
  advance_begins zero true = omega arith
  advance_begins (suc n) true = rw (advance_jumps w (suc n) (omega arith)) (omega arith)

  close_begins : (s : ℕ) (o : Option CoreError) → w.now ≤ begun (seen_of_step work (after_closing w s o) (step.Close s) (close_reply o))
  close_begins s None = omega arith
  close_begins s (Some e) = omega arith

  charge_begins : (s n : ℕ) (o : Option CoreError) → w.now ≤ begun (seen_of_step work (after_charging w s n o) (step.Charge s n) (charge_reply o))
  charge_begins s zero None = omega arith
  charge_begins s (suc n) None = rw (charge_jumps w s (suc n) (omega arith)) (omega arith)
  charge_begins s zero (Some e) = omega arith
  charge_begins s (suc n) (Some e) = omega arith

module _ {W : Type 0} (work : Meaning W) where
  step_begins : (M : History W) (x : Step W) → (world_after work M).now ≤ begun (seen_after work M x)
  step_begins M (step.Submit s job) = let w = world_after work M in submit_begins work w s job (submit_refusal M.setup.backlog (faces work w) s)
  step_begins M step.Run = let w = world_after work M in run_begins work w (chosen work w)
  step_begins M (step.Advance n) = let w = world_after work M in advance_begins work w n (leb (w.now + n) clock_end)
  step_begins M (step.Close s) = let w = world_after work M in close_begins work w s (close_refusal (faces work w) s)
  step_begins M (step.Charge s n) = let w = world_after work M in charge_begins work w s n (charge_refusal w s n)

  -- so the steps of a server are in turn
  pub steps_in_turn : (s : ℕ) (M : History W) (xs : List (Step W)) (seen : List Seen) → AreInTurn (world_after work M).now (steps_of s seen)
      → AreInTurn (clock_after work M xs) (steps_of s (seen_from work M xs seen))
  unfolding seen_from
  steps_in_turn s M [] seen turn = turn
  steps_in_turn s M (x ∷ xs) seen turn =
      let o = seen_after work M x in
      let began = step_begins M x in
      let next : AreInTurn o.clock (steps_of s (o ∷ seen)) = elim (cases_Bool (is_server s (server_of o.event))) [
        | inl y ↦ rw y (in_turn_later (world_after work M).now (begun o) (steps_of s seen) began turn, omega arith)
        | inr n ↦ rw n (in_turn_later (world_after work M).now o.clock (steps_of s seen) (omega arith) turn)
      ] in
      steps_in_turn s (M ⊕ x) xs (o ∷ seen) next
