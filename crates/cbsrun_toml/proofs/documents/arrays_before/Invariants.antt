use Rattle.std.proofs.Common.{◌≡◌, ℕ, ◌<◌, ◌≤◌, List, length}
use denote.Text.{Utf8}
use denote.Shadow.{shadow}
use Rattle.toml.specs.Tables.{Nodes, close}
use Rattle.toml.specs.View.{table_view}
use Rattle.cbsrun_toml.proofs.Arrays.{ReadsUpTo}
use Rattle.cbsrun_toml.proofs.documents.arrays_before.Given as goal

abbrev pub invariant-arrays : goal.invariant-arrays
invariant-arrays l =
    shadow (Utf8 l.rest) × (length l.rest ≤ length l.fn.s)
    × ((n : ℕ) (root : Nodes) (path : List (List ℕ)) → close root ≡ table_view l.fn.table → length l.fn.s < n
    → (m : ℕ) × (now : Nodes) × (last : List (List ℕ)) × ReadsUpTo n (root, path) l.fn.s m now last l.rest (table_view l.table))

abbrev pub decreases-arrays : goal.decreases-arrays
decreases-arrays l = length l.rest
