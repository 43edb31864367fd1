use Rattle.std.proofs.Common.{◌≡◌, ℕ, ◌<◌, ◌≤◌, length, codes}
use denote.Text.{Utf8}
use denote.Shadow.{shadow}
use Rattle.toml.specs.Data.{Items, no_items}
use Rattle.toml.specs.Tables.{Nodes, no_nodes}
use Rattle.toml.specs.Parse.{lines}
use Rattle.cbsrun_toml.specs.Reading.{growing}
use Rattle.cbsrun_toml_tables.specs.Fields.{list_of}
use Rattle.cbsrun_task_steps.specs.Steps.{Spells}
use Rattle.cbsrun_task_steps.proofs.steps.step_tables.Given as goal

abbrev pub invariant-tables : goal.invariant-tables
invariant-tables l =
    shadow (Utf8 l.rest) × (length l.rest ≤ length l.fn.s)
    × ((n : ℕ) (root : Nodes) → length l.fn.s < n → (m : ℕ) × (done : Items) × (length l.rest < m)
    × (lines n (growing (codes "step") root no_items no_nodes) l.fn.s ≡ lines m (growing (codes "step") root done no_nodes) l.rest)
    × Spells l.fn.terms l.found (list_of done))

abbrev pub decreases-tables : goal.decreases-tables
decreases-tables l = length l.rest
