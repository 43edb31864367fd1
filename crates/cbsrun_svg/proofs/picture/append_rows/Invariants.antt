use Rattle.std.proofs.Common.{◌≡◌, ◌++◌, ◌+◌, ◌*◌, take, string_bytes}
use Rattle.cbsrun_svg.specs.Pictures.{rows_text}
use Rattle.cbsrun_svg.proofs.picture.append_rows.Given as goal

abbrev pub invariant-loop-server : goal.invariant-loop-server
invariant-loop-server l = record {
  top : l.top ≡ 11000 + l.server-index * l.layout.row;
  text : string_bytes l.text ≡ string_bytes l.fn.text ++ rows_text l.nanoseconds l.axis l.layout l.window 11000 (take l.server-index l.servers);
}
