use Rattle.std.proofs.Common.{◌≡◌, ◌∙◌, ap₂, codes}
use Rattle.std.specs.Prelude.{IfOk, IsOkAnd, Result, Ok, Err}
use Rattle.std.specs.declared.alloc.AllocError.{AllocError}
use Rattle.std.proofs.lemmas.Result.{IfOk-weaker}
use Rattle.clap.specs.Words.{App, app_of}
use Rattle.clap.specs.declared.builder.command.Command.{Command}
use Rattle.cbsrun_command_line.specs.Words.{bare_program, checking, on_file, replaying, simulating, sizing, with_verb}
use Rattle.cbsrun_command_line.proofs.words.command_line.Goals as goal

-- what one more verb makes of a program, by what the verb is that could be made
made : (program : App) (verb : App) (before after : Command) (r : Result Command AllocError) → app_of before ≡ program
    → IfOk r (λ v. app_of v ≡ verb) → IsOkAnd r (λ v. app_of after ≡ with_verb (app_of before) (app_of v)) → app_of after ≡ with_verb program verb
made program verb before after (Ok v) known is h = h ∙ ap₂ with_verb known is
made program verb before after (Err e) known is h = absurd h

pub returns : goal.returns
returns c =
    let first = made bare_program checking c.bare_program.result c.in_ok-program.program c.checking.result
    c.bare_program.ensures c.checking.ensures.app c.in_ok-program.ensures in
    let second = made (with_verb bare_program checking) sizing c.in_ok-program.program c.in_ok-program-2.program c.sizing.result
    first c.sizing.ensures.app c.in_ok-program-2.ensures in
    let third = made (with_verb (with_verb bare_program checking) sizing) simulating c.in_ok-program-2.program c.in_ok-program-3.program
    c.simulating.result second c.simulating.ensures.app c.in_ok-program-3.ensures in
    let planning = with_verb (with_verb (with_verb bare_program checking) sizing) simulating in
    let fourth = made planning replaying c.in_ok-program-3.program c.in_ok-program-4.program c.replaying.result
    third c.replaying.ensures.app c.in_ok-program-4.ensures in
    IfOk-weaker c.with_verb-5.result _ _
    (λ r h. made (with_verb planning replaying) (on_file (codes "serve")) c.in_ok-program-4.program r c.on_file.result fourth c.on_file.ensures.app h)
    c.with_verb-5.ensures
