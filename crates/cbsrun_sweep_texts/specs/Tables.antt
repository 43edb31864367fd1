-- The table of the servers of many runs.
use Rattle.std.specs.Prelude.{ℕ, Bool, false, ltb, List, [], ◌∷◌, codes, decimal, get_or, length, map, Option, Some, None}
use Rattle.std.specs.List.{range_with_len}
use Rattle.cbsrun_text.specs.Columns.{CellText, plain, marked_if}
use Rattle.cbsrun_time_texts.specs.Texts.{time_text}
use Rattle.cbsrun_sweeps.specs.Servers.{no_sweep}
use Rattle.cbsrun_sweeps.specs.declared.server.ServerSweep.{ServerSweep}
use Rattle.cbsrun_sweeps.specs.declared.server.Worst.{Worst}
use Rattle.cbsrun_sweep_texts.specs.declared.cells.Shown.{Shown}
use Rattle.cbsrun_sweep_texts.specs.declared.cells.Shown.TheVariants as shown

-- the text of a cell
abbrev pub shown_text : Shown → List ℕ
shown_text (shown.Word word) = word.now
shown_text (shown.Number number) = decimal number
shown_text (shown.Bad number) = decimal number
shown_text (shown.Time tick ticks) = time_text tick ticks

-- whether a cell is marked
abbrev pub is_marked : Shown → Bool
is_marked (shown.Bad number) = ltb 0 number
is_marked _ = false

-- the cell that shows this
abbrev pub cell_of : Shown → CellText
cell_of s = marked_if (is_marked s) (shown_text s)

-- the worst response, or - if there is none; and its seed
abbrev pub response_cell : Option ℕ → Option Worst → CellText
response_cell tick None = plain (codes "-")
response_cell tick (Some w) = plain (time_text tick w.response)

abbrev pub seed_cell : Option Worst → CellText
seed_cell None = plain (codes "-")
seed_cell (Some w) = plain (decimal w.seed)

-- the row of a server: in how many runs a job was late, and how many jobs; the same of refused ones; the worst response
abbrev pub server_row : Option ℕ → List ℕ → ServerSweep → List CellText
server_row tick name s =
    plain name ∷ marked_if (ltb 0 s.late_in) (decimal s.late_in) ∷ plain (decimal s.late)
    ∷ marked_if (ltb 0 s.refused_in) (decimal s.refused_in) ∷ plain (decimal s.refused) ∷ response_cell tick s.worst ∷ seed_cell s.worst ∷ []

abbrev pub sweep_heading : List CellText
sweep_heading = map plain (codes "RUNS" ∷ codes "late in" ∷ codes "late jobs" ∷ codes "refused in" ∷ codes "refused jobs" ∷
    codes "greatest response" ∷ codes "of seed" ∷ [])

-- the row of server s
abbrev pub row_at : Option ℕ → List (List ℕ) → List ServerSweep → ℕ → List CellText
row_at tick names sweeps s = server_row tick (get_or names s []) (get_or sweeps s no_sweep)

-- the table: a row for each server
abbrev pub sweep_table : Option ℕ → List (List ℕ) → List ServerSweep → List (List CellText)
sweep_table tick names sweeps = sweep_heading ∷ map (row_at tick names sweeps) (range_with_len 0 (length sweeps))
