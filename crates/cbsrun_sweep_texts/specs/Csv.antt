-- Many runs as CSV.
use Rattle.std.specs.Prelude.{ℕ, List, [], ◌++◌, codes, decimal, flat_map, get_or, length, Option, Some, None}
use Rattle.std.specs.List.{range_with_len}
use Rattle.cbsrun_sweeps.specs.Servers.{no_sweep}
use Rattle.cbsrun_sweeps.specs.declared.server.ServerSweep.{ServerSweep}
use Rattle.cbsrun_sweeps.specs.declared.server.Worst.{Worst}

-- the header line: the names of the columns
abbrev pub header : List ℕ
header = codes "server,late_runs,late_jobs,refused_runs,refused_jobs,greatest_response,seed\n"

-- two cells with numbers
abbrev pub two_text : ℕ → ℕ → List ℕ
two_text a b = codes "," ++ decimal a ++ codes "," ++ decimal b

-- the cells of the counts of a server
unfoldable pub counts_text : ServerSweep → List ℕ
counts_text s = two_text s.late_in s.late ++ two_text s.refused_in s.refused

-- the cells of the worst response, which are empty if there is none
abbrev pub worst_text : Option Worst → List ℕ
worst_text None = codes ",,"
worst_text (Some w) = two_text w.response w.seed

-- the line of a server
unfoldable pub server_line : List ℕ → ServerSweep → List ℕ
server_line name s = name ++ counts_text s ++ worst_text s.worst ++ codes "\n"

-- the line of server s
abbrev pub line_at : List (List ℕ) → List ServerSweep → ℕ → List ℕ
line_at names sweeps s = server_line (get_or names s []) (get_or sweeps s no_sweep)

-- the whole CSV
abbrev pub sweep_csv : List (List ℕ) → List ServerSweep → List ℕ
sweep_csv names sweeps = header ++ flat_map (line_at names sweeps) (range_with_len 0 (length sweeps))
