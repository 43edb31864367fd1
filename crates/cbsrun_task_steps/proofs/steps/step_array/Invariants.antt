use Rattle.std.proofs.Common.{◌≡◌, ℕ, ◌<◌, ◌≤◌, length}
use denote.Text.{Utf8}
use denote.Shadow.{shadow}
use Rattle.toml.specs.Data.{Items, no_items}
use Rattle.toml.specs.Parse.{val, items}
use Rattle.cbsrun_toml_tables.specs.Fields.{list_of}
use Rattle.cbsrun_task_steps.specs.Steps.{Spells}
use Rattle.cbsrun_task_steps.proofs.steps.step_array.Given as goal

abbrev pub invariant-items : goal.invariant-items
invariant-items l =
    shadow (Utf8 l.rest) × (length l.rest ≤ length l.fn.s)
    × ((n : ℕ) → length l.fn.s < n → (m : ℕ) × (ds : Items) × (length l.rest < m)
    × (items (val 79) n no_items l.fn.s ≡ items (val 79) m ds l.rest) × Spells l.fn.terms l.found (list_of ds))

abbrev pub decreases-items : goal.decreases-items
decreases-items l = length l.rest
