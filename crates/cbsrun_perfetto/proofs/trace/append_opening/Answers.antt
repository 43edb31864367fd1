use Rattle.std.proofs.Common.{◌∙◌}
use Rattle.cbsrun_perfetto.specs.Traces.{opening, opening_text, process_text}
use Rattle.cbsrun_perfetto.proofs.Growing.{two_pieces}
use Rattle.cbsrun_perfetto.proofs.trace.append_opening.Goals as goal

pub returns : goal.returns
unfolding opening_text
returns c =
    two_pieces c.push_str.result _ _ _ (opening c.args.nanoseconds) (process_text c.args.file.now) c.deref.result.now c.in_ok-append_heading.ensures
    c.push_str.ensures.bytes (c.deref.ensures ∙ c.in_ok-process.ensures)
