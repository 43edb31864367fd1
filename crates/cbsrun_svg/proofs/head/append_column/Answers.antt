use Rattle.std.proofs.Common.{◌≡◌, append_assoc, arith, codes, refl, true}
use Rattle.std.specs.Prelude.{ltb, string_bytes}
use Rattle.cbsrun_svg.specs.Heads.{column_text}
use Rattle.cbsrun_svg.proofs.Frames.{pushed}
use Rattle.cbsrun_svg.proofs.head.append_column.Goals as goal

pub returns : goal.returns
unfolding column_text
returns c =
    let many : ltb 1 c.args.cell ≡ true = grind (arith, c.if-cell-le1.false) in
    rw many (pushed c.push_str-2.result (string_bytes c.push_str-2.new.self) (string_bytes c.append_ticks.new.text) (codes ".") _ c.push_str-2.ensures.bytes (simp (
      append_assoc,
      c.in_ok-append_ticks.ensures,
      c.in_ok-push_str.ensures.bytes,
    ) refl))
