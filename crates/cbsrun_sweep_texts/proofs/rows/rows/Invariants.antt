use Rattle.std.proofs.Common.{◌≡◌, ◌∷◌, map}
use Rattle.std.specs.List.{range_with_len}
use Rattle.std.specs.Prelude.{string_bytes}
use Rattle.cbsrun_text.specs.Columns.{rows_of}
use Rattle.cbsrun_sweep_texts.specs.Tables.{row_at, sweep_heading}
use Rattle.cbsrun_sweep_texts.proofs.rows.rows.Given as goal

abbrev pub invariant-loop-server : goal.invariant-loop-server
invariant-loop-server l =
    rows_of l.rows.items ≡ sweep_heading ∷ map (row_at l.tick (map string_bytes l.names) l.sweeps) (range_with_len 0 l.server)
