-- What a core counts as finished goes on by the completions that it returns.
use Rattle.std.proofs.Common.{◌≡◌, ◌≢◌, ℕ, ◌+◌, true, false, eqb, refl, sym, ◌∙◌, ap, arith}
use Rattle.std.proofs.Common.{Option, Some, None, inl, inr}
use Rattle.std.proofs.lemmas.Bool.{cases_Bool}
use Rattle.std.proofs.lemmas.Bool.Decides.{nat_tests}
use Rattle.cbs_job.specs.Work.{Meaning}
use Rattle.cbs_job.specs.declared.completion.Completion.{Completion}
use Rattle.cbs_steps.specs.Faces.{Face}
use Rattle.cbs_steps.specs.Accounts.{finished}
use Rattle.cbs_steps.specs.History.{History, ◌⊕◌}
use Rattle.cbs_core.specs.Agreement.{Agrees}
use Rattle.cbs_steps.specs.Replies.{is_lack, grown, Answers}
use Rattle.cbs_steps.specs.Laws.{account_in, completion_in, completion_of, Completes}
use Rattle.cbs_core.specs.Held.{CoreHeld, held_at, CountsOn}
use Rattle.cbs_steps.specs.declared.step.Step.{Step}
use Rattle.cbs_steps.specs.declared.reply.Reply.{Reply}
use Rattle.cbs_core.proofs.Agreements.{face_is}
use Rattle.cbs_steps.proofs.Completions.{accepted_grown, completes_told}

module _ {W : Type 0} (work : Meaning W) where
  -- a core counts as many finished jobs as are known
  finished_agrees : (core : CoreHeld W) (M : History W) → Agrees work core M → (s : ℕ) → (held_at core s).face.finished ≡ finished work (account_in work M s)
  finished_agrees core M agrees s = sym (ap (λ (f : Face). f.finished) (face_is {core = core} refl agrees s))

  -- one step
  pub step_completes : (M : History W) (x : Step W) (r : Reply W) (s : ℕ) (o : Option Completion) (old new : CoreHeld W) → o ≡ completion_in r
      → Answers work M x r → CountsOn o old new
      → Agrees work old M → Agrees work new (grown M x r) → Completes work (account_in work M s) (account_in work (grown M x r) s) (completion_of s o)
  step_completes M x r s None old new is answers counts agrees later =
      let f = finished_agrees old M agrees s in
      let g = finished_agrees new (grown M x r) later s in
      let n = counts s in
      record { jobs = accepted_grown work M x r s; numbers = refl; results = refl; finished = omega arith }
  step_completes M x r s (Some c) old new is answers counts agrees later =
      let f = finished_agrees old M agrees s in
      let g = finished_agrees new (grown M x r) later s in
      elim (cases_Bool (eqb c.server s)) [
        | inl t ↦
            let here : c.server ≡ s = grind (arith, nat_tests) in
            let seq : c.seq ≡ finished work (account_in work M s) = (rw here at counts.0) ∙ f in
            let count : finished work (account_in work (grown M x r) s) ≡ finished work (account_in work M s) + 1 =
            let k : (held_at new s).face.finished ≡ (held_at old s).face.finished + 1 = rw here at counts.1 in omega arith in
            rw t (completes_told work M x r s c is answers here seq count)
        | inr n ↦
            let other : s ≢ c.server = λ e. let y : eqb c.server s ≡ true = grind (arith, nat_tests) in cc in
            let k = counts.2 s other in
            rw n record { jobs = accepted_grown work M x r s; numbers = refl; results = refl; finished = omega arith }
      ]

  -- the same of one step that memory did not refuse
  pub step_tells : (M : History W) (x : Step W) (r : Reply W) (s : ℕ) (old new : CoreHeld W) → is_lack r ≡ false → Answers work M x r
      → CountsOn (completion_in r) old new
      → Agrees work old M → Agrees work new (grown M x r) → Completes work (account_in work M s) (account_in work (M ⊕ x) s) (completion_of s (completion_in r))
  step_tells M x r s old new sure answers counts agrees later =
      rw sure at (step_completes M x r s (completion_in r) old new refl answers counts agrees later)
