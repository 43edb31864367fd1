-- The text about many runs.
use Rattle.std.specs.Prelude.{ℕ, ◌-◌, ◌+◌, List, ◌++◌, codes, decimal, Option}
use Rattle.cbsrun_figures.specs.Figures.{told}
use Rattle.cbsrun_text.specs.Columns.{columns_text}
use Rattle.cbsrun_sweeps.specs.declared.sweep.Sweep.{Sweep}
use Rattle.cbsrun_sweep_texts.specs.Tables.{sweep_table}

-- the seed of the last run
abbrev pub last_seed : ℕ → ℕ → ℕ
last_seed first runs = told (first + (runs - 1))

-- the first and the last seed
unfoldable pub seeds_text : ℕ → ℕ → List ℕ
seeds_text first last = decimal first ++ codes " to " ++ decimal last

-- how many runs there are of which file
unfoldable pub count_text : List ℕ → ℕ → List ℕ
count_text file runs = file ++ codes ", " ++ decimal runs

-- .. and their seeds
unfoldable pub runs_text : List ℕ → ℕ → ℕ → List ℕ
runs_text file first runs = count_text file runs ++ codes " runs, with the seeds " ++ seeds_text first (last_seed first runs)

-- the whole text
abbrev pub sweep_text : List ℕ → Option ℕ → List (List ℕ) → Sweep → List ℕ
sweep_text file tick names s = runs_text file s.first s.runs ++ codes "\n\n" ++ columns_text (sweep_table tick names s.servers.items)
