use Rattle.std.proofs.Common.{◌++◌, append_assoc, codes, refl}
use Rattle.std.specs.Prelude.{string_bytes}
use Rattle.cbsrun_svg.specs.Rows.{row_text}
use Rattle.cbsrun_svg.proofs.Frames.{pushed}
use Rattle.cbsrun_svg.proofs.row.append_row.Goals as goal

pub returns : goal.returns
unfolding row_text
returns c =
    let p = c.args.place.now in
    let row = row_text p.tick p.axis p.layout c.args.window c.args.top p.name.now p.mode c.args.drawn.now in
    pushed c.push_str.result (string_bytes c.push_str.new.self) (string_bytes c.append_inside.new.text) (codes "</g>\n") (string_bytes c.args.text.now ++ row) c.push_str.ensures.bytes (simp (
      append_assoc,
      c.in_ok-append_inside.ensures,
      c.in_ok-append_units.ensures,
      c.units_of.ensures,
      c.charged_of.ensures,
      c.in_ok-append_names.ensures,
      c.in_ok-writeln.ensures.bytes,
    ) refl)
