-- The whole report as text.
use Rattle.std.specs.Prelude.{ℕ, eqb, if◌then◌else◌, List, [], ◌++◌, codes, decimal, string_bytes}
use Rattle.cbsrun_text.specs.Columns.{CellText, columns_text}
use Rattle.cbsrun_sizing.specs.declared.server_load.ServerLoad.{ServerLoad}
use Rattle.cbsrun_report_text.specs.Notes.{notes_text, not_in_time, verdict_text}
use Rattle.cbsrun_report_text.specs.Numbers.{percent_text}
use Rattle.cbsrun_report_text.specs.Reports.{sum_of}
use Rattle.cbsrun_report_text.specs.Tables.{jobs_table, ticks_table, response_table, early_table, charges_table}
use Rattle.cbsrun_report_text.specs.declared.report.RunReport.{RunReport}

-- how many ticks were charged, if any were
abbrev pub charged_text : ℕ → List ℕ
charged_text charged = if eqb charged 0 then [] else decimal charged ++ codes " charged, "

-- the summary: the file, and how many ticks were run, charged and idle
unfoldable pub summary_text : RunReport → List ℕ
summary_text r =
    string_bytes r.file ++ codes ", ticks 0 to " ++ decimal r.clock ++ codes ": " ++ decimal (sum_of (λ f. f.run) r.servers.items) ++ codes " run ("
    ++ percent_text (sum_of (λ f. f.run) r.servers.items) r.clock ++ codes "), " ++ charged_text (sum_of (λ f. f.charged) r.servers.items)
    ++ decimal r.idle ++ codes " idle\n"

-- an empty line and a table
unfoldable pub table_text : List (List CellText) → List ℕ
table_text rows = codes "\n" ++ columns_text rows

-- the table of charges, if any tick was charged
abbrev pub charges_text : RunReport → List ℕ
charges_text r = if eqb (sum_of (λ f. f.charged) r.servers.items) 0 then [] else table_text (charges_table r.servers.items)

-- the tables
abbrev pub tables_text : RunReport → List ℕ
tables_text r =
    table_text (jobs_table r) ++ table_text (ticks_table r) ++ table_text (response_table r.tick r.servers.items)
    ++ table_text (early_table r.tick r.servers.items)
    ++ charges_text r

-- the whole report. `loads` has what `check` tells of each server of a load, and is empty for a task file
abbrev pub report_text : RunReport → List ServerLoad → List ℕ
report_text r loads =
    verdict_text r.servers.items ++ codes "\n" ++ summary_text r ++ tables_text r
    ++ notes_text r.tick r.clock r.servers.items loads (not_in_time r.servers.items)
