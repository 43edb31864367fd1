use Rattle.std.proofs.Common.{◌++◌, append_assoc, codes, refl}
use Rattle.std.specs.Prelude.{string_bytes}
use Rattle.cbsrun_svg.specs.Heads.{figures_text}
use Rattle.cbsrun_svg.proofs.Frames.{pushed}
use Rattle.cbsrun_svg.proofs.head.append_figures.Goals as goal

pub returns : goal.returns
unfolding figures_text
returns c =
    let a = c.args in
    let figures = figures_text a.nanoseconds a.servers a.reserved a.units a.charged a.idle in
    pushed c.push_str.result (string_bytes c.push_str.new.self) (string_bytes c.append_ticks.new.text) (codes " idle.") (string_bytes a.text.now ++ figures) c.push_str.ensures.bytes (simp (
      append_assoc,
      c.in_ok-append_ticks.ensures,
      c.in_ok-append_charges.ensures,
      c.in_ok-write.ensures.bytes,
      c.in_ok-append_servers.ensures,
      c.tenths_of-tenths.ensures,
    ) refl)
