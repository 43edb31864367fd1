-- Steps, as a core makes them.
use Rattle.std.proofs.Common.{◌≡◌, ◌∙◌, ℕ, true, false, List, [], ◌∷◌, ◌++◌, ap, arith, eqb, inl, inr, refl}
use Rattle.std.proofs.lemmas.Bool.{cases_Bool}
use Rattle.std.proofs.lemmas.Bool.Decides.{nat_tests}
use Rattle.std.proofs.lemmas.List.{append-nil}
use Rattle.cbs_core.specs.Agreement.{Agrees}
use Rattle.cbs_core.specs.Calls.{Makes}
use Rattle.cbs_core.specs.Held.{CoreHeld, held_at, CountsOn, DoesRun, OthersSame}
use Rattle.cbs_core.proofs.Completions.{step_tells}
use Rattle.cbs_job.specs.Work.{Meaning}
use Rattle.cbs_steps.specs.History.{History, ◌⊕◌, world_after}
use Rattle.cbs_steps.specs.Laws.{completion_in, completion_ran}
use Rattle.cbs_steps.specs.Replies.{is_lack}
use Rattle.cbs_steps.specs.declared.reply.Ran.{Ran}
use Rattle.cbs_steps.specs.declared.reply.Ran.TheVariants as ran
use Rattle.cbs_steps.specs.declared.reply.Reply.{Reply}
use Rattle.cbs_steps.specs.declared.step.Step.{Step}
use Rattle.cbsrun_events.specs.Steps.{seen_at}
use Rattle.cbsrun_events.specs.declared.seen.Event.{Event}
use Rattle.cbsrun_runs.specs.Steps.{event_of_step, seen_after, CompletesAll, HasMade, MakesStep}

module _ {W : Type 0} (work : Meaning W) (old new : CoreHeld W) where
  -- a call that finishes no job of server t, and leaves the other servers, finishes none
  pub finishes_none : (t : ℕ) → (held_at new t).face.finished ≡ (held_at old t).face.finished → OthersSame t old new
      → (s : ℕ) → (held_at new s).face.finished ≡ (held_at old s).face.finished
  finishes_none t here others s = elim (cases_Bool (eqb t s)) [
    | inl y ↦ let e : t ≡ s = grind (arith, nat_tests) in rw e at here
    | inr n ↦ (others s (λ e. let y : eqb t s ≡ true = grind (arith, nat_tests) in cc)).finished
  ]

  -- the jobs that a run finishes are counted by its result
  pub run_counts : (r : Ran) → DoesRun work r old new → CountsOn (completion_ran r) old new
  run_counts ran.Idle same = λ s. ap (λ (c : CoreHeld W). (held_at c s).face.finished) same
  run_counts ran.ClockEnd same = λ s. ap (λ (c : CoreHeld W). (held_at c s).face.finished) same
  run_counts (ran.Unit t q) ran = finishes_none t ran.0.finished ran.1
  run_counts (ran.Done c) ran = (ran.0.number, ran.0.finished, λ s other. (ran.1 s other).finished)

  -- a step is made, by its reply and by how many jobs it finishes, unless memory refused it
  pub step_made : (x : Step W) (r : Reply W) (e : Event) → is_lack r ≡ false → Makes work old new x r
      → CountsOn (completion_in r) old new
      → ((M : History W) → Agrees work new (M ⊕ x) → e ≡ event_of_step work (world_after work (M ⊕ x)) x r) → MakesStep work old x new e
  step_made x r e sure made counts is = λ M agrees.
      let answers = made.reply M agrees in
      let state = made.state M agrees in
      record {
        state = state;
        told = is M state ∙ ap (λ a. event_of_step work (world_after work (M ⊕ x)) x a) answers;
        completes = λ s. rw append-nil (rw answers at (step_tells work M x r s old new sure (rw sure answers) counts agrees (rw sure state)));
      }

module _ {W : Type 0} (work : Meaning W) where
  -- it is seen as the definitions say
  pub made_seen : (M : History W) (x : Step W) (new : CoreHeld W) (e : Event) → HasMade work M x new e
      → seen_at new.clock new.faces e ≡ seen_after work M x
  made_seen M x new e made =
      let w = made.state.world in
      rw (w.clock, w.shown, made.told) refl
