use Rattle.cbsrun_perfetto.specs.Times.{tick_text}
use Rattle.cbsrun_perfetto.proofs.Growing.{three_pieces}
use Rattle.cbsrun_perfetto.proofs.trace.append_heading.Goals as goal

pub returns : goal.returns
returns c =
    three_pieces c.push_str-2.result _ _ _ _ _ (tick_text c.args.nanoseconds) _ c.in_ok-push_str.ensures.bytes c.in_ok-append_tick.ensures
    c.push_str-2.ensures.bytes
