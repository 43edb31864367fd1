use Rattle.std.proofs.Common.{◌≡◌, ◌∙◌, ap, codes, string_bytes}
use Rattle.std.proofs.lemmas.Result.{IfOk-weaker}
use Rattle.serde_json.specs.Data.{Data}
use Rattle.serde_json.specs.View.{view}
use Rattle.serde_json.specs.Written.{compact_text}
use Rattle.cbsrun_perfetto.specs.Events.{about_data, named_args}
use Rattle.cbsrun_perfetto.specs.Traces.{process_text}
use Rattle.cbsrun_perfetto.proofs.trace.process_text.Goals as goal

pub returns : goal.returns
unfolding process_text
returns c =
    let about = λ (d : Data). compact_text (about_data (codes "process_name") 0 d) in
    IfOk-weaker c.about_text.result (λ text. string_bytes text ≡ about (view c.in_ok-args.args))
    (λ text. string_bytes text ≡ about (named_args c.args.file.now))
    (λ text is. is ∙ ap about c.in_ok-args.ensures.value) c.about_text.ensures
