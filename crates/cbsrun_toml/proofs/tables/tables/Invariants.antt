use Rattle.std.proofs.Common.{◌≡◌, ℕ, ◌<◌, ◌≤◌, length, None}
use denote.Text.{Utf8}
use denote.Shadow.{shadow}
use Rattle.toml.specs.Data.{no_items}
use Rattle.toml.specs.Tables.{Nodes, no_nodes, get_node}
use Rattle.toml.specs.Parse.{lines}
use Rattle.toml.specs.View.{array_view}
use Rattle.cbsrun_toml.specs.Reading.{growing}
use Rattle.cbsrun_toml.proofs.tables.tables.Given as goal

abbrev pub invariant-tables : goal.invariant-tables
invariant-tables l =
    shadow (Utf8 l.rest) × (length l.rest ≤ length l.fn.s)
    × ((n : ℕ) (root : Nodes) → get_node l.fn.key root ≡ None → length l.fn.s < n
    → (m : ℕ) × (length l.rest < m)
    × (lines n (growing l.fn.key root no_items no_nodes) l.fn.s ≡ lines m (growing l.fn.key root (array_view l.found) no_nodes) l.rest))

abbrev pub decreases-tables : goal.decreases-tables
decreases-tables l = length l.rest
