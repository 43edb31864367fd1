use Rattle.std.proofs.Common.{◌≡◌, ◌∙◌, ap, ap₂, rules, Some}
use Rattle.std.proofs.lemmas.Result.{IfOk-weaker}
use Rattle.clap.specs.declared.builder.action.ArgAction.TheVariants.{Append}
use Rattle.clap.specs.Words.{app_of, new_app, rule_of, with_rule}
use Rattle.clap.specs.Simple.{app_of_fields}
use Rattle.cbsrun_command_line.specs.Words.{file}
use Rattle.cbsrun_command_line.proofs.words.on_files.Goals as goal

pub returns-clause-app : goal.returns-clause-app
returns-clause-app c =
    let files_are : rule_of c.action.result ≡ record file { action = Some Append } = search rules in
    let named_is : app_of c.about.result ≡ new_app c.args.name.now = ap app_of_fields c.about.ensures ∙ c.new-2.ensures.app in
    IfOk-weaker c.arg.result _ _ (λ r h. h.shape (search rules) ∙ ap₂ with_rule named_is files_are) c.arg.ensures
