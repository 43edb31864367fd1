use Rattle.std.proofs.Common.{◌≡◌, ◌++◌, take, codes, string_bytes}
use Rattle.std.specs.Prelude.{decimal, flat_map}
use Rattle.cbsrun_commands.proofs.result_lines.append_line.Given as goal

abbrev pub invariant-loop-value : goal.invariant-loop-value
invariant-loop-value l = string_bytes l.text ≡ string_bytes l.fn.text
    ++ (codes "server " ++ decimal l.fn.server ++ codes ":" ++ flat_map (λ r. codes " " ++ decimal r) (take l.value-index l.results))
