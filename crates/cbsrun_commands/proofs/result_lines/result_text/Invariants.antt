use Rattle.std.proofs.Common.{◌≡◌, string_bytes}
use Rattle.cbs_clients.specs.Houses.{results_of}
use Rattle.cbsrun_commands.specs.ResultLines.{kept_lines}
use Rattle.cbsrun_commands.proofs.result_lines.result_text.Given as goal

abbrev pub invariant-loop-server : goal.invariant-loop-server
invariant-loop-server l = string_bytes l.text ≡ kept_lines (results_of l.house) l.server
