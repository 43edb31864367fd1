-- By when the jobs of a source are to be finished, if it does not say so.
use Rattle.std.specs.Prelude.{ℕ, get_or, List, Option, Result, Ok}
use Rattle.toml.specs.Data.{Data}
use Rattle.cbs_rate.specs.Rate.{Rate}
use Rattle.cbsrun_simulate.specs.declared.terms.SourceTerms.{SourceTerms}
use Rattle.cbsrun_toml_tables.specs.declared.fault.FileKind.{FileKind}
use Rattle.cbsrun_toml_tables.specs.Fields.{◌>>=◌}
use Rattle.cbsrun_entries.specs.Sources.{SourceData, due_within, terms_entry}

-- the period of a server
abbrev pub period_at : List Rate → ℕ → ℕ
period_at rates server = (get_or rates server (record { budget = 0; period = 0 })).period

-- the source of an entry, in a file with servers of these names, which say within how many ticks the jobs of a source are
-- to be finished, if the entry does not
abbrev pub source_entry : Option ℕ → List (List ℕ) → (SourceTerms → ℕ) → Data → Result SourceData FileKind
source_entry tick names due entry = do
  source ← terms_entry tick names entry
  Ok (record source { terms = due_within (due source.terms) source.terms })

-- in a load a job is to be finished within its server's period
abbrev pub due_in_plan : List Rate → SourceTerms → ℕ
due_in_plan rates t = period_at rates t.server
