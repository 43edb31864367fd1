use Rattle.std.proofs.Common.{◌≡◌, ℕ, ◌+◌, ◌*◌, ◌<◌, ◌≤◌, length}
use denote.Text.{Utf8}
use denote.Shadow.{shadow}
use Rattle.toml.specs.Data.{no_items}
use Rattle.toml.specs.View.{array_view, table_view}
use Rattle.toml.specs.Tables.{no_nodes}
use Rattle.toml.specs.Parse.{val, items, members}
use Rattle.cbsrun_toml.specs.Reading.{nodes_of}
use Rattle.cbsrun_toml.proofs.values.+value.Given as goal

abbrev pub decreases-array : goal.decreases-array
decreases-array l = 2 * l.depth + 2

abbrev pub decreases-inline_table : goal.decreases-inline_table
decreases-inline_table l = 2 * l.depth + 2

abbrev pub decreases-value : goal.decreases-value
decreases-value l = 2 * l.depth + 1

abbrev pub invariant-array-items : goal.invariant-array-items
invariant-array-items l =
    shadow (Utf8 l.rest) × (length l.rest ≤ length l.fn.s)
    × ((n : ℕ) → length l.fn.s < n → (m : ℕ) × (length l.rest < m)
    × (items (val l.fn.depth) n no_items l.fn.s ≡ items (val l.fn.depth) m (array_view l.found) l.rest))

abbrev pub decreases-array-items : goal.decreases-array-items
decreases-array-items l = length l.rest

abbrev pub invariant-inline_table-members : goal.invariant-inline_table-members
invariant-inline_table-members l =
    shadow (Utf8 l.rest) × (length l.rest ≤ length l.fn.s)
    × ((n : ℕ) → length l.fn.s < n → (m : ℕ) × (length l.rest < m)
    × (members (val l.fn.depth) n no_nodes l.fn.s ≡ members (val l.fn.depth) m (nodes_of (table_view l.found)) l.rest))

abbrev pub decreases-inline_table-members : goal.decreases-inline_table-members
decreases-inline_table-members l = length l.rest
