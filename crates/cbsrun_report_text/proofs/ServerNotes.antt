-- The notes of the servers that are not in time.
use Rattle.std.proofs.Common.{◌≡◌, ℕ, ◌+◌, ◌<◌, List, [], ◌∷◌, ◌++◌, codes, length, drop, get_or, refl, sym, ap, ◌∙◌, add-one, ◌≤◌, arith, Option}
use Rattle.std.specs.Prelude.{slice_get}
use Rattle.std.proofs.lemmas.List.{append_assoc, append-nil, drop_all}
use Rattle.std.proofs.Math.Seq.{drop-cons}
use Rattle.cbsrun_report_text.specs.Notes.{note_if_wrong, notes_from, notes_text}
use Rattle.cbsrun_report_text.specs.declared.report.ServerReport.{ServerReport}
use Rattle.cbsrun_sizing.specs.declared.server_load.ServerLoad.{ServerLoad}

-- if some servers are not in time, an empty line stands before the notes
pub notes_are : (tick : Option ℕ) (clock : ℕ) (servers : List ServerReport) (loads : List ServerLoad) (wrong : List ServerReport) → 0 < length wrong
    → notes_text tick clock servers loads wrong ≡ codes "\n" ++ notes_from tick clock servers loads 0 servers
notes_are tick clock servers loads [] h = absurd (omega arith)
notes_are tick clock servers loads (s ∷ wrong) h = refl

-- the note of the next server, and those of the servers after it
pub notes_step : (tick : Option ℕ) (clock : ℕ) (servers : List ServerReport) (loads : List ServerLoad) (n : ℕ) (d : ServerReport) → n < length servers
    → notes_from tick clock servers loads n (drop n servers)
    ≡ note_if_wrong tick clock servers (get_or servers n d) (slice_get loads n) ++ notes_from tick clock servers loads (n + 1) (drop (n + 1) servers)
unfolding notes_from
notes_step tick clock servers loads n d lt =
    rw (drop-cons servers n d lt) (ap
    (λ (k : ℕ). note_if_wrong tick clock servers (get_or servers n d) (slice_get loads n) ++ notes_from tick clock servers loads (n + 1) (drop k servers))
    (sym (add-one n)))

-- what is written with the note of the next server, and the notes of the servers after it
pub notes_more : (tick : Option ℕ) (clock : ℕ) (servers : List ServerReport) (loads : List ServerLoad) (n : ℕ) (s : ServerReport) (load : Option ServerLoad)
    (old new whole : List ℕ) → n < length servers → s ≡ get_or servers n s → load ≡ slice_get loads n → new ≡ old ++ note_if_wrong tick clock servers s load
    → old ++ notes_from tick clock servers loads n (drop n servers) ≡ whole
    → new ++ notes_from tick clock servers loads (n + 1) (drop (n + 1) servers) ≡ whole
notes_more tick clock servers loads n s load old new whole lt here known wrote so_far =
    let rest = notes_from tick clock servers loads (n + 1) (drop (n + 1) servers) in
    let note = note_if_wrong tick clock servers s load in
    let same : note_if_wrong tick clock servers (get_or servers n s) (slice_get loads n) ≡ note =
    ap (λ (o : Option ServerLoad). note_if_wrong tick clock servers (get_or servers n s) o) (sym known)
    ∙ ap (λ (r : ServerReport). note_if_wrong tick clock servers r load) (sym here) in
    ap (λ (t : List ℕ). t ++ rest) wrote
    ∙ (append_assoc old note rest
    ∙ (ap (λ (t : List ℕ). old ++ (t ++ rest)) (sym same)
    ∙ (ap (λ (t : List ℕ). old ++ t) (sym (notes_step tick clock servers loads n s lt)) ∙ so_far)))

-- after the last server nothing is to come
pub notes_done : (tick : Option ℕ) (clock : ℕ) (servers : List ServerReport) (loads : List ServerLoad) (wrong : List ServerReport) (n : ℕ) (old new : List ℕ)
    → length servers ≤ n → 0 < length wrong
    → new ++ notes_from tick clock servers loads n (drop n servers) ≡ old ++ (codes "\n" ++ notes_from tick clock servers loads 0 servers)
    → new ≡ old ++ notes_text tick clock servers loads wrong
unfolding notes_from
notes_done tick clock servers loads wrong n old new le some so_far =
    let none : notes_from tick clock servers loads n (drop n servers) ≡ [] = rw (drop_all n servers le) refl in
    sym (append-nil new)
    ∙ (ap (λ (t : List ℕ). new ++ t) (sym none) ∙ (so_far ∙ ap (λ (t : List ℕ). old ++ t) (sym (notes_are tick clock servers loads wrong some))))
