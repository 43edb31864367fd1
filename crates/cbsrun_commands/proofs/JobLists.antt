-- The lists of jobs of the servers, filled step by step.
use Rattle.std.proofs.Common.{◌≡◌, ℕ, ◌<◌, List, [], ◌∷◌, ◌++◌, length, map, get_or, replicate, set, refl, sym, ap, ◌∙◌, inl, inr, append_assoc, arith}
use Rattle.std.proofs.lemmas.Bool.{cases_lt}
use Rattle.std.proofs.lemmas.Bool.Decides.{eqb_tells}
use Rattle.std.proofs.lemmas.List.{append-nil, get_or-map, get_or-replicate, get_or-set_same, get_or-set_other, get_or_past, length-map}
use Rattle.std.proofs.lemmas.List.{length-replicate, map-set}
use Rattle.std.proofs.lemmas.List.Elements.{filter_map-append}
use Rattle.cbs_job.specs.declared.file.FileJob.{FileJob}
use Rattle.cbs_steps.specs.declared.step.Step.{Step}
use Rattle.cbs_steps.specs.declared.step.Step.TheVariants.{Submit}
use Rattle.cbsrun_commands.specs.ResultLines.{job_for, jobs_for}

-- this many lists, none of which has a job yet
pub none_listed : (lists : List (List FileJob)) (n : ℕ) → lists ≡ replicate n [] → (length lists ≡ n) × ((s : ℕ) → get_or lists s [] ≡ [])
none_listed lists n is =
    let count : length lists ≡ n = ap length is ∙ length-replicate {A = List FileJob} n [] in (
      count,
      λ s. elim (cases_lt s n) [
        | inl lt ↦ rw is (get_or-replicate n s [] [] lt)
        | inr ge ↦ get_or_past lists s [] (omega arith)
      ],
    )

-- a submit puts its job at the end of its server's list, and does not change the other lists
submit_listed : (lists : List (List FileJob)) (server s : ℕ) (job : FileJob) → server < length lists
    → get_or (set lists server (get_or lists server [] ++ job ∷ [])) s [] ≡ get_or lists s [] ++ jobs_for s (Submit server job ∷ [])
submit_listed lists server s job lt = elim (eqb_tells server s) [
  | inl e ↦ rw (e.0, ← e.1) (get_or-set_same lists server (get_or lists server [] ++ job ∷ []) [] lt)
  | inr n ↦ rw n.0 (get_or-set_other lists server s _ [] (λ e. n.1 (sym e)) ∙ sym (append-nil (get_or lists s [])))
]

module _ {X : Type 0} (jobs : X → List FileJob) (lists : List X) where
  -- the same, if y is the list of its server with the job at the end
  pub job_listed : (i server s : ℕ) (x y : X) (job : FileJob) → i ≡ server → server < length lists → x ≡ get_or lists i x → jobs y ≡ jobs x ++ job ∷ []
      → get_or (map jobs (set lists i y)) s [] ≡ get_or (map jobs lists) s [] ++ jobs_for s (Submit server job ∷ [])
  job_listed i server s x y job same lt at pushed =
      let was : jobs x ≡ get_or (map jobs lists) server [] =
      ap jobs at ∙ (ap (λ k. jobs (get_or lists k x)) same ∙ sym (get_or-map jobs lists server x [] lt)) in
      let is : jobs y ≡ get_or (map jobs lists) server [] ++ job ∷ [] = pushed ∙ ap (λ js. js ++ job ∷ []) was in
      let written : map jobs (set lists i y) ≡ set (map jobs lists) server (get_or (map jobs lists) server [] ++ job ∷ []) =
      map-set jobs lists i y ∙ rw (same, is) refl in
      rw written (submit_listed (map jobs lists) server s job (omega (arith, length-map lists jobs)))

-- a list has the jobs of one step more, and the jobs of the steps that are left are to follow
pub lists_on : (s : ℕ) (old new jobs : List FileJob) (x : Step FileJob) (xs steps : List (Step FileJob)) → steps ≡ x ∷ xs
    → new ≡ old ++ jobs_for s (x ∷ []) → old ++ jobs_for s steps ≡ jobs
    → new ++ jobs_for s xs ≡ jobs
lists_on s old new jobs x xs steps is more so_far =
    let parts : jobs_for s steps ≡ jobs_for s (x ∷ []) ++ jobs_for s xs = ap (jobs_for s) is ∙ filter_map-append (job_for s) (x ∷ []) xs in
    ap (λ js. js ++ jobs_for s xs) more ∙ (append_assoc old (jobs_for s (x ∷ [])) (jobs_for s xs) ∙ (ap (λ js. old ++ js) (sym parts) ∙ so_far))
