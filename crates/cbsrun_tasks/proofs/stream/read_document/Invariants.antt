use Rattle.std.proofs.Common.{◌≡◌, ℕ, ◌<◌, ◌≤◌, length, suc, []}
use denote.Text.{Utf8}
use denote.Shadow.{shadow}
use Rattle.toml.specs.Tables.{no_nodes}
use Rattle.toml.specs.Parse.{lines, skip_bom}
use Rattle.toml.specs.View.{table_view}
use Rattle.cbsrun_toml.specs.Reading.{nodes_of}
use Rattle.cbsrun_tasks.proofs.stream.read_document.Given as goal

abbrev pub invariant-lines : goal.invariant-lines
invariant-lines l =
    shadow (Utf8 l.rest) × (length l.rest ≤ length l.fn.s)
    × (m : ℕ) × (length l.rest < m)
    × (lines (suc (length l.fn.s)) (no_nodes, []) (skip_bom l.fn.s) ≡ lines m (nodes_of (table_view l.table), []) l.rest)

abbrev pub decreases-lines : goal.decreases-lines
decreases-lines l = length l.rest
