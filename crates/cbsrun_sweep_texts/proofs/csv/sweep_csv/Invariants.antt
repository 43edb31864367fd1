use Rattle.std.proofs.Common.{◌≡◌, ◌++◌, map, string_bytes}
use Rattle.std.specs.List.{flat_map, range_with_len}
use Rattle.cbsrun_sweep_texts.specs.Csv.{header, line_at}
use Rattle.cbsrun_sweep_texts.proofs.csv.sweep_csv.Given as goal

abbrev pub invariant-loop-server : goal.invariant-loop-server
invariant-loop-server l =
    string_bytes l.text ≡ header ++ flat_map (line_at (map string_bytes l.names) l.sweep.servers.items) (range_with_len 0 l.server)
