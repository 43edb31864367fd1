use Rattle.std.proofs.Common.{◌≡◌, ◌++◌, take, string_bytes}
use Rattle.std.specs.Prelude.{flat_map}
use Rattle.cbsrun_svg_shapes.specs.Spans.{span_text}
use Rattle.cbsrun_svg.proofs.row.append_spans.Given as goal

abbrev pub invariant-loop-span : goal.invariant-loop-span
invariant-loop-span l =
    string_bytes l.text
    ≡ string_bytes l.fn.text
    ++ flat_map (λ p. span_text l.place.tick l.place.axis l.place.layout l.place.mode l.place.name.now l.chart.jobs.items p.kind p) (take l.span-index l.span-items)
