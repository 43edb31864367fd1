use Rattle.std.proofs.Common.{ap, sym, ◌∙◌}
use Rattle.toml_parser.specs.Lexical.{skip_ws, skip_blank}
use Rattle.cbsrun_toml_plain.proofs.Trivia as blanks
use Rattle.cbsrun_toml_plain.proofs.blanks.after_space.Goals as goal

pub returns-then-first-eq32-clause-rest : goal.returns-then-first-eq32-clause-rest
returns-then-first-eq32-clause-rest c =
    ap skip_ws c.skip.ensures.rest ∙ sym (blanks.after_space c.args.s.now (sym c.first.ensures ∙ c.if-first-eq32.true))

pub returns-then-first-eq32-clause-blank : goal.returns-then-first-eq32-clause-blank
returns-then-first-eq32-clause-blank c =
    ap skip_blank c.skip.ensures.rest ∙ sym (blanks.space_blank c.args.s.now (sym c.first.ensures ∙ c.if-first-eq32.true))
