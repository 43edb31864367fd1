use Rattle.serde_json.specs.View.{view}
use Rattle.cbsrun_perfetto.specs.Events.{about_data}
use Rattle.cbsrun_perfetto.proofs.Floats.{about_plain, written}
use Rattle.cbsrun_perfetto.proofs.events.about_text.Goals as goal

pub returns : goal.returns
returns c =
    let a = c.args in
    written c.to_string.result (about_data a.what.now a.thread (view a.args)) (about_plain a.what.now a.thread (view a.args) c.requires)
    (rw c.in_ok-about_value.ensures at c.to_string.ensures.text)
