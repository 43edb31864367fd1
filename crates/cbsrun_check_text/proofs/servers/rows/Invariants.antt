use Rattle.std.proofs.Common.{◌≡◌, ◌∷◌, string_bytes}
use Rattle.std.specs.Prelude.{map}
use Rattle.std.specs.List.{range_with_len}
use Rattle.cbsrun_text.specs.Columns.{rows_of}
use Rattle.cbsrun_check_text.specs.Tables.{servers_heading, row_at}
use Rattle.cbsrun_check_text.proofs.servers.rows.Given as goal

abbrev pub invariant-loop-server : goal.invariant-loop-server
invariant-loop-server l = rows_of l.rows.items
    ≡ servers_heading ∷ map (row_at l.tick (map string_bytes l.names) l.modes l.plan.rates l.budgets) (range_with_len 0 l.server)
