use Rattle.std.proofs.Common.{◌++◌, append_assoc, codes, refl}
use Rattle.std.specs.Prelude.{string_bytes}
use Rattle.cbsrun_timeline.specs.Timelines.{heading_text}
use Rattle.cbsrun_timeline.proofs.Growing.{pushed}
use Rattle.cbsrun_timeline.proofs.timeline.append_heading.Goals as goal

pub returns : goal.returns
unfolding heading_text
returns c =
    let heading = heading_text c.args.grid.now c.args.file.now in
    pushed c.push_str.result (string_bytes c.push_str.new.self) (string_bytes c.append_cell.new.text) (codes "\n") (string_bytes c.args.text.now ++ heading) c.push_str.ensures.bytes (simp (
      append_assoc,
      c.in_ok-append_cell.ensures,
      c.in_ok-append_times.ensures,
      c.nanoseconds.ensures,
      c.in_ok-write.ensures.bytes,
      c.from-from.ensures,
      c.to-to.ensures,
    ) refl)
