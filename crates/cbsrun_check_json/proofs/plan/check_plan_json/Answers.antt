use Rattle.std.proofs.Common.{◌≡◌, ◌∙◌, ◌++◌, codes, map, string_bytes, ap}
use Rattle.std.proofs.lemmas.Result.{IfOk-weaker}
use Rattle.serde_json.specs.Data.{Data}
use Rattle.serde_json.specs.View.{view}
use Rattle.serde_json.specs.Written.{compact_text, has_float}
use Rattle.cbsrun_check_json.specs.Json.{IsPlanJson}
use Rattle.cbsrun_check_json.proofs.Floats.{plan_plain}
use Rattle.cbsrun_check_json.proofs.plan.check_plan_json.Goals as goal

pub line_of-requires : goal.line_of-requires
line_of-requires c = ap has_float c.in_ok-value.ensures ∙ plan_plain c.args.name.now (map string_bytes c.args.names.now) c.args.modes.now c.args.plan.now c.deref.result.now

pub returns : goal.returns
returns c =
    let line = λ (d : Data). compact_text d ++ codes "\n" in
    IfOk-weaker c.line_of.result (λ text. string_bytes text ≡ line (view c.in_ok-value.value))
    (λ text. IsPlanJson c.args.name.now (map string_bytes c.args.names.now) c.args.modes.now c.args.plan.now (string_bytes text))
    (λ text is. record {
      budgets = c.in_ok-budgets.budgets.items;
      greatest = c.in_ok-budgets.ensures.greatest;
      text_is = is ∙ ap line (rw c.deref.ensures.value at c.in_ok-value.ensures);
    }) c.line_of.ensures
