use Rattle.std.proofs.Common.{◌≡◌, ◌∙◌, ap, codes}
use Rattle.clap.specs.Words.{App, app_of, new_app}
use Rattle.clap.specs.Simple.{app_of_fields}
use Rattle.cbsrun_command_line.specs.Words.{required, with_version}
use Rattle.cbsrun_command_line.proofs.words.bare_program.Goals as goal

pub returns : goal.returns
returns c =
    let app : App = with_version (new_app (codes "cbsrun")) in
    let named_is : app_of c.about.result ≡ new_app (codes "cbsrun") = ap app_of_fields c.about.ensures ∙ c.new.ensures.app in
    let versioned_is : app_of c.version.result ≡ app = ap app_of_fields c.version.ensures ∙ ap with_version named_is in
    let told_is : app_of c.after_help.result ≡ app = ap app_of_fields c.after_help.ensures ∙ versioned_is in
    let guided_is : app_of c.after_long_help.result ≡ app = ap app_of_fields c.after_long_help.ensures ∙ told_is in
    ap app_of_fields c.subcommand_required.ensures ∙ ap required guided_is
