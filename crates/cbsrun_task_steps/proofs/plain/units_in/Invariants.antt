use Rattle.std.proofs.Common.{◌≡◌, ℕ, ◌<◌, ◌≤◌, length}
use denote.Text.{Utf8}
use denote.Shadow.{shadow}
use Rattle.cbs_rate.specs.Limits.{most_units}
use Rattle.toml.specs.Data.{Items, no_items}
use Rattle.toml.specs.Parse.{val, items}
use Rattle.cbsrun_task_steps.specs.Plain.{AreUnits}
use Rattle.cbsrun_task_steps.proofs.plain.units_in.Given as goal

-- the numbers so far are the items that were read
abbrev pub invariant-items : goal.invariant-items
invariant-items l =
    shadow (Utf8 l.rest) × (length l.units.items ≤ most_units) × (length l.rest ≤ length l.fn.s)
    × ((depth n : ℕ) → length l.fn.s < n → (m : ℕ) × (ds : Items) × (length l.rest < m)
    × (items (val depth) n no_items l.fn.s ≡ items (val depth) m ds l.rest) × AreUnits l.units.items ds)

abbrev pub decreases-items : goal.decreases-items
decreases-items l = length l.rest
