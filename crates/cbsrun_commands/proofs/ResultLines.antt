-- The lines of the servers, written one after another.
use Rattle.std.proofs.Common.{◌≡◌, ℕ, zero, suc, ◌+◌, List, [], ◌∷◌, ◌++◌, length, map, refl, sym, ap, ◌∙◌, arith}
use Rattle.std.proofs.lemmas.Grind.{flat_map-append}
use Rattle.std.proofs.lemmas.List.{append-nil}
use Rattle.std.proofs.lemmas.List.Folds.{flat_map-map}
use Rattle.std.proofs.lemmas.List.FromFn.{map-range_with_len_more}
use Rattle.std.specs.List.{flat_map, range_with_len}
use Rattle.cbs_job.specs.FileJobs.{of_files}
use Rattle.cbs_job.specs.Work.{whole}
use Rattle.cbsrun_commands.specs.ResultLines.{jobs_for, server_line, kept_lines, results_by_server, result_lines}
use Rattle.cbsrun_tasks.specs.TaskFiles.{File}

-- texts one after another are the pieces of a list of texts
joined : (f : ℕ → List ℕ) (a n : ℕ) → flat_map f (range_with_len a n) ≡ flat_map (λ (x : List ℕ). x) (map f (range_with_len a n))
joined f a n = sym (flat_map-map (λ (x : List ℕ). x) f (range_with_len a n))

-- one more line is written
pub line_more : (f : ℕ → List ℕ) (n : ℕ) (text new : List ℕ) → new ≡ text ++ server_line n (f n) → text ≡ kept_lines f n → new ≡ kept_lines f (n + 1)
line_more f n text new wrote so_far =
    let line = λ (s : ℕ). server_line s (f s) in
    let both : flat_map (λ (x : List ℕ). x) (map line (range_with_len 0 n) ++ line n ∷ [])
    ≡ flat_map (λ (x : List ℕ). x) (map line (range_with_len 0 n)) ++ line n =
    flat_map-append (λ (x : List ℕ). x) (map line (range_with_len 0 n)) (line n ∷ [])
    ∙ ap (λ t. flat_map (λ (x : List ℕ). x) (map line (range_with_len 0 n)) ++ t) (append-nil (line n)) in
    wrote ∙ (ap (λ t. t ++ line n) (so_far ∙ joined line 0 n)
    ∙ (sym both ∙ (ap (flat_map (λ (x : List ℕ). x)) (sym (map-range_with_len_more line 0 n n (omega arith))) ∙ sym (joined line 0 (n + 1)))))

-- the lines of the servers from s on, each with its results
abbrev lines_from : ℕ → List (List ℕ) → List ℕ
lines_from s [] = []
lines_from s (results ∷ others) = server_line s results ++ lines_from (s + 1) others

-- they are the lines of the servers, one after another
lines_are : (f : ℕ → List ℕ) (s n : ℕ) → lines_from s (map f (range_with_len s n)) ≡ flat_map (λ k. server_line k (f k)) (range_with_len s n)
lines_are f s zero = refl
lines_are f s (suc n) = ap (λ t. server_line s (f s) ++ t) (lines_are f (s + 1) n)

-- the lines of a house with the results of each server are what serving the file writes
pub result_lines_are : (f : File) (results : ℕ → List ℕ) → map results (range_with_len 0 (length f.plan.rates)) ≡ results_by_server f
    → kept_lines results (length f.plan.rates) ≡ result_lines f
result_lines_are f results are =
    sym (lines_are results 0 (length f.plan.rates)) ∙ (ap (lines_from 0) are
    ∙ lines_are (λ s. map (whole of_files) (jobs_for s f.steps)) 0 (length f.plan.rates))
