-- Rows and notes by their parts.
use Rattle.std.proofs.Common.{◌≡◌, ℕ, ◌<◌, List, [], ◌++◌, ◌+◌, length, get_or, refl, sym, ap, ◌∙◌, Option}
use Rattle.std.specs.Prelude.{map}
use Rattle.std.specs.List.{flat_map, range_with_len}
use Rattle.std.proofs.lemmas.List.{append_assoc, get_or-map}
use Rattle.cbs_rate.specs.Rate.{Rate}
use Rattle.cbs_guarantee.specs.Parts.{rate_at}
use Rattle.cbs_rules.specs.declared.mode.Mode.{Mode}
use Rattle.cbs_rules.specs.declared.mode.Mode.TheVariants.{Soft}
use Rattle.cbsrun_simulate.specs.declared.terms.SourceTerms.{SourceTerms}
use Rattle.cbsrun_loads.specs.Loads.{LoadFile}
use Rattle.cbsrun_sizing.specs.ServerLoads.{least_within, no_load}
use Rattle.cbsrun_sizing.specs.declared.server_load.ServerLoad.{ServerLoad}
use Rattle.cbsrun_check_text.specs.Notes.{note_at, note_text}
use Rattle.cbsrun_check_text.specs.Tables.{server_row, row_at, source_row, row_of}
use Rattle.cbsrun_check_text.proofs.Rows.{flat_more}

-- the row of a server, by its parts
pub row_is : (tick : Option ℕ) (names : List (List ℕ)) (modes : List Mode) (rates : List Rate) (budgets : List ℕ) (s : ℕ) (name : List ℕ) (mode : Mode) (rate : Rate)
    (greatest : ℕ)
    → get_or names s [] ≡ name → get_or modes s Soft ≡ mode → rate_at rates s ≡ rate → get_or budgets s 0 ≡ greatest
    → row_at tick names modes rates budgets s ≡ server_row tick name mode rate greatest
row_is tick names modes rates budgets s name mode rate greatest e f g h = rw (e, f, g, h) refl

-- the note of a server, by its parts
pub note_is : (f : LoadFile) (loads : List ServerLoad) (s : ℕ) (name : List ℕ) (rate : Rate) (within : Option ℕ) (load : ServerLoad)
    → get_or f.names s [] ≡ name → rate_at f.plan.rates s ≡ rate → within ≡ least_within f.sources s → get_or loads s no_load ≡ load
    → note_at f loads s ≡ note_text f.tick name rate f.backlog within load
note_is f loads s name rate within load e r w g = rw (e, r, w, g) refl

-- a name that was read at a place
pub name_is : {X : Type 0} (f : X → List ℕ) (xs : List X) (i j : ℕ) (x : X) (name : List ℕ) → j < length xs → i ≡ j → x ≡ get_or xs i x → name ≡ f x
    → get_or (map f xs) j [] ≡ name
name_is f xs i j x name lt e is n = get_or-map f xs j x [] lt ∙ (ap f (sym (rw e at is)) ∙ sym n)

-- the notes with that of one more server
pub note_more : (f : LoadFile) (loads : List ServerLoad) (s : ℕ) (old new name : List ℕ) (rate : Rate) (within : Option ℕ) (load : ServerLoad)
    → new ≡ old ++ note_text f.tick name rate f.backlog within load → old ≡ flat_map (note_at f loads) (range_with_len 0 s)
    → get_or f.names s [] ≡ name → rate_at f.plan.rates s ≡ rate → within ≡ least_within f.sources s → get_or loads s no_load ≡ load
    → new ≡ flat_map (note_at f loads) (range_with_len 0 (s + 1))
note_more f loads s old new name rate within load wrote so_far e r w g =
    wrote ∙ rw (so_far, ← (note_is f loads s name rate within load e r w g)) (sym (flat_more (note_at f loads) s))

-- the row of a source, by its parts
pub source_row_is : (tick : Option ℕ) (names : List (List ℕ)) (rates : List Rate) (loads : List ServerLoad) (t : SourceTerms) (name : List ℕ) (rate : Rate) (load : ServerLoad)
    → get_or names t.server [] ≡ name → rate_at rates t.server ≡ rate → get_or loads t.server no_load ≡ load
    → row_of tick names rates loads t ≡ source_row tick name rate load.promised t
source_row_is tick names rates loads t name rate load e f g = rw (e, f, g) refl
