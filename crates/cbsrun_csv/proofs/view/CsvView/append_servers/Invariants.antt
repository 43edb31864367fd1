use Rattle.std.proofs.Common.{◌≡◌, ◌++◌, string_bytes}
use Rattle.std.specs.Prelude.{flat_map, map}
use Rattle.std.specs.List.{range_with_len}
use Rattle.cbsrun_csv.specs.Kept.{kept_lines}
use Rattle.cbsrun_csv.proofs.view.CsvView.append_servers.Given as goal

-- the lines of the first servers
abbrev pub invariant-loop-server : goal.invariant-loop-server
invariant-loop-server l =
    string_bytes l.text ≡ string_bytes l.fn.text ++ flat_map (kept_lines (map string_bytes l.names) l.end l.self) (range_with_len 0 l.server)
