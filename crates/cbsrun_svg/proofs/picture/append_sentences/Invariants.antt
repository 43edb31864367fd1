use Rattle.std.proofs.Common.{◌≡◌, ◌++◌, take, string_bytes}
use Rattle.std.specs.Prelude.{flat_map}
use Rattle.cbsrun_svg.specs.Pictures.{server_sentence}
use Rattle.cbsrun_svg.proofs.picture.append_sentences.Given as goal

abbrev pub invariant-loop-server : goal.invariant-loop-server
invariant-loop-server l = string_bytes l.text ≡ string_bytes l.fn.text ++ flat_map (server_sentence l.nanoseconds l.window) (take l.server-index l.servers)
