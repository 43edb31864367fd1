use Rattle.std.proofs.Common.{◌≡◌, ◌++◌, take}
use Rattle.std.specs.Prelude.{flat_map}
use Rattle.cbsrun_perfetto.specs.Traces.{slice_of}
use Rattle.cbsrun_perfetto.proofs.slices.append_slices.Given as goal

abbrev pub invariant-loop-span : goal.invariant-loop-span
invariant-loop-span l =
    l.lines.items ≡ l.fn.lines.items ++ flat_map (λ p. slice_of l.thread l.chart.jobs.items p.kind p) (take l.span-index l.span-items)
