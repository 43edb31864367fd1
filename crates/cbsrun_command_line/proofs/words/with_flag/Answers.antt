use Rattle.std.proofs.Common.{◌≡◌, ◌∙◌, ap, rules, Some}
use Rattle.std.proofs.lemmas.Result.{IfOk-weaker}
use Rattle.clap.specs.declared.builder.action.ArgAction.TheVariants.{SetTrue}
use Rattle.clap.specs.Words.{Rule, app_of, new_rule, rule_of, with_rule}
use Rattle.cbsrun_command_line.proofs.words.with_flag.Goals as goal

pub returns-clause-app : goal.returns-clause-app
returns-clause-app c =
    let flag_is : rule_of c.action.result ≡ record (new_rule c.args.name.now) { long = Some c.args.name.now; action = Some SetTrue } = search rules in
    IfOk-weaker c.arg.result _ _ (λ r h. h.shape (search rules) ∙ ap (λ (rule : Rule). with_rule (app_of c.args.verb) rule) flag_is) c.arg.ensures
