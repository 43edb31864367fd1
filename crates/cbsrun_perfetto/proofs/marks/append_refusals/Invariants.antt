use Rattle.std.proofs.Common.{◌≡◌, ◌++◌, take}
use Rattle.std.specs.Prelude.{flat_map}
use Rattle.cbsrun_perfetto.specs.Traces.{refusals_in}
use Rattle.cbsrun_perfetto.proofs.marks.append_refusals.Given as goal

abbrev pub invariant-loop-stretch : goal.invariant-loop-stretch
invariant-loop-stretch l = l.lines.items ≡ l.fn.lines.items ++ flat_map (refusals_in l.thread) (take l.stretch-index l.refused)
