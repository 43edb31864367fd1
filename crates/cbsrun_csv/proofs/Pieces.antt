-- Lines of jobs and of servers, one after another.
use Rattle.std.proofs.Common.{◌≡◌, ◌∙◌, ℕ, zero, suc, ◌+◌, ◌<◌, List, [], ◌∷◌, ◌++◌, length, arith, refl, sym, ap, subst}
use Rattle.std.specs.Prelude.{flat_map, get_or, map, min}
use Rattle.std.proofs.lemmas.List.{get_or-map, get_or_default}
use Rattle.std.specs.List.{range_with_len}
use Rattle.cbsrun_text.proofs.Texts.{numbered_more}
use Rattle.cbsrun_events.specs.declared.seen.Seen.{Seen}
use Rattle.cbsrun_figures.specs.Figures.{steps_of}
use Rattle.cbsrun_csv.specs.Csv.{IsCsv, lines_of}
use Rattle.cbsrun_csv.specs.Jobs.{JobsSeen, first_charged, no_jobs, with_charged}
use Rattle.cbsrun_csv.specs.Kept.{jobs_at, kept_lines, kept_seen, new_kept}
use Rattle.cbsrun_csv.specs.Lines.{header, server_lines}
use Rattle.cbsrun_csv.specs.declared.job.CsvJob.{CsvJob}
use Rattle.cbsrun_csv.proofs.Keeping.{AreKept, all_kept}
use Rattle.cbsrun_csv.proofs.Reported.{as_reported}

-- as many unfinished jobs as jobs that wait
pub unfinished_count : (c : ℕ) (ws : List CsvJob) → length (first_charged c ws) ≡ length ws
unfinished_count c [] = refl
unfinished_count c (w ∷ ws) = refl

-- the first of them, and each other one
pub first_unfinished : (c : ℕ) (ws : List CsvJob) (w d : CsvJob) → 0 < length ws → w ≡ get_or ws 0 w → with_charged c w ≡ get_or (first_charged c ws) 0 d
first_unfinished c [] w d lt e = absurd (omega arith)
first_unfinished c (x ∷ ws) w d lt e = ap (with_charged c) e

pub later_unfinished : (c : ℕ) (ws : List CsvJob) (i : ℕ) (d : CsvJob) → 0 < i → get_or ws i d ≡ get_or (first_charged c ws) i d
later_unfinished c [] i d lt = refl
later_unfinished c (x ∷ ws) zero d lt = absurd (omega arith)
later_unfinished c (x ∷ ws) (suc i) d lt = refl

-- pieces for the first numbers are the same if each of them is
same_pieces : (f g : ℕ → List ℕ) (n : ℕ) → ((i : ℕ) → i < n → f i ≡ g i) → flat_map f (range_with_len 0 n) ≡ flat_map g (range_with_len 0 n)
same_pieces f g zero same = refl
same_pieces f g (suc n) same =
    let more : n + 1 ≡ suc n = omega arith in
    let before = same_pieces f g n (λ i lt. same i (omega arith)) in
    let here : f n ≡ g n = same n (omega arith) in
    subst (λ k. flat_map f (range_with_len 0 k) ≡ flat_map g (range_with_len 0 k)) more
    (numbered_more f n ∙ (ap (λ t. t ++ f n) before ∙ (ap (λ t. flat_map g (range_with_len 0 n) ++ t) here ∙ sym (numbered_more g n))))

-- a name, and the jobs, at a place where they stand
pub named_at : {X : Type 0} (bytes : X → List ℕ) (names : List X) (s : ℕ) (x : X) → s < length names → x ≡ get_or names s x
    → bytes x ≡ get_or (map bytes names) s []
named_at bytes names s x lt e = ap bytes e ∙ sym (get_or-map bytes names s x [] lt)

pub jobs_found : (kept : List JobsSeen) (s : ℕ) (x : JobsSeen) → s < length kept → x ≡ get_or kept s x → x ≡ jobs_at kept s
jobs_found kept s x lt e = e ∙ get_or_default kept s x no_jobs lt

-- the text of what is kept is the CSV of the steps that were seen
pub csv_kept : (names : List (List ℕ)) (count end : ℕ) (seen : List Seen) (kept : List JobsSeen) (first text : List ℕ) → length names ≡ count
    → kept ≡ kept_seen (new_kept count) seen → first ≡ header
    → text ≡ first ++ flat_map (kept_lines names end kept) (range_with_len 0 (min count (length kept))) → IsCsv names end seen text
csv_kept names count end seen kept first text named is begins written =
    let each : AreKept count seen kept = rw is (all_kept count seen) in
    let all : min count (length kept) ≡ length names = let c = each.servers in omega arith in
    let f = kept_lines names end kept in
    let lines = same_pieces f (lines_of names end seen) (length names) (λ s lt. ap (server_lines (get_or names s []) end) (each.each s (omega arith))) in
    record {
      exact = written ∙ (ap (λ t. t ++ flat_map f (range_with_len 0 (min count (length kept)))) begins
          ∙ (ap (λ n. header ++ flat_map f (range_with_len 0 n)) all ∙ ap (λ t. header ++ t) lines));
      as_reported = λ s. as_reported (steps_of s seen);
    }
