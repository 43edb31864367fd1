use Rattle.std.proofs.Common.{◌≡◌, ◌∙◌, ap, rules, Some}
use Rattle.std.proofs.lemmas.Result.{IfOk-weaker}
use Rattle.clap.specs.declared.builder.action.ArgAction.TheVariants.{Append}
use Rattle.clap.specs.Words.{Rule, app_of, rule_of, with_rule}
use Rattle.cbsrun_command_line.specs.Words.{option}
use Rattle.cbsrun_command_line.proofs.words.with_options.Goals as goal

pub returns-clause-app : goal.returns-clause-app
returns-clause-app c =
    let option_is : rule_of c.action.result ≡ record (option c.args.name.now) { action = Some Append } = search rules in
    IfOk-weaker c.arg.result _ _ (λ r h. h.shape (search rules) ∙ ap (λ (rule : Rule). with_rule (app_of c.args.verb) rule) option_is) c.arg.ensures
