use Rattle.std.proofs.Common.{◌≡◌, ◌∙◌, ◌++◌, codes, string_bytes, ap}
use Rattle.std.proofs.lemmas.Result.{IfOk-weaker}
use Rattle.serde_json.specs.Data.{Data}
use Rattle.serde_json.specs.View.{view}
use Rattle.serde_json.specs.Written.{compact_text, has_float}
use Rattle.cbsrun_check_json.specs.Json.{IsCheckJson}
use Rattle.cbsrun_check_json.proofs.Floats.{check_plain}
use Rattle.cbsrun_check_json.proofs.json.check_json.Goals as goal

pub line_of-requires : goal.line_of-requires
line_of-requires c =
    ap has_float c.in_ok-value.ensures.value ∙ check_plain c.args.name.now c.args.load.now c.deref.result.now c.deref-2.result.now

pub returns : goal.returns
returns c =
    let name = c.args.name.now in
    let f = c.args.load.now in
    let line = λ (d : Data). compact_text d ++ codes "\n" in
    IfOk-weaker c.line_of.result (λ text. string_bytes text ≡ line (view c.in_ok-value.value)) (λ text. IsCheckJson name f (string_bytes text))
    (λ text is. record {
      budgets = c.in_ok-budgets.budgets.items;
      loads = c.in_ok-loads.loads.items;
      greatest = rw c.plan.ensures at c.in_ok-budgets.ensures.greatest;
      told_of = c.in_ok-loads.ensures;
      late = c.in_ok-value.ensures.late;
      made_up = c.in_ok-value.ensures.made_up;
      text_is = is ∙ ap line (rw (c.deref.ensures.value, c.deref-2.ensures.value) at c.in_ok-value.ensures.value);
    }) c.line_of.ensures
