use Rattle.std.proofs.Common.{◌≡◌, ◌++◌, take, string_bytes}
use Rattle.std.specs.Prelude.{flat_map}
use Rattle.cbsrun_csv.specs.Lines.{refused_line}
use Rattle.cbsrun_csv.proofs.lines.append_all_refused.Given as goal

-- the lines of the first jobs
abbrev pub invariant-loop-came : goal.invariant-loop-came
invariant-loop-came l = string_bytes l.text ≡ string_bytes l.fn.text ++ flat_map (refused_line l.name) (take l.came-index l.refused)
