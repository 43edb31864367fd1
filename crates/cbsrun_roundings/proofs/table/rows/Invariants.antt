use Rattle.std.proofs.Common.{◌≡◌, ◌∷◌, take}
use Rattle.std.specs.Prelude.{map}
use Rattle.cbsrun_text.specs.Columns.{rows_of}
use Rattle.cbsrun_roundings.specs.Roundings.{rounded_view}
use Rattle.cbsrun_roundings.specs.Tables.{heading, row_of}
use Rattle.cbsrun_roundings.proofs.table.rows.Given as goal

abbrev pub invariant-loop-rounded : goal.invariant-loop-rounded
invariant-loop-rounded l = rows_of l.rows.items ≡ heading ∷ map (λ r. row_of l.tick (rounded_view r)) (take l.rounded-index l.shown)
