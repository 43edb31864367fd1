use Rattle.std.proofs.Common.{◌≡◌, ℕ, ◌<◌, ◌≤◌, length}
use denote.Text.{Utf8}
use denote.Shadow.{shadow}
use Rattle.toml.specs.Tables.{Nodes, no_nodes, Document}
use Rattle.toml.specs.Parse.{lines}
use Rattle.toml.specs.View.{table_view}
use Rattle.cbsrun_toml.specs.Reading.{IsPlace, nodes_of}
use Rattle.cbsrun_toml.proofs.lines.pairs.Given as goal

abbrev pub invariant-lines : goal.invariant-lines
invariant-lines l =
    shadow (Utf8 l.rest) × (length l.rest ≤ length l.fn.s)
    × ((n : ℕ) (at : Nodes → Document) → IsPlace at → length l.fn.s < n
    → (m : ℕ) × (length l.rest < m) × (lines n (at no_nodes) l.fn.s ≡ lines m (at (nodes_of (table_view l.found))) l.rest))

abbrev pub decreases-lines : goal.decreases-lines
decreases-lines l = length l.rest
