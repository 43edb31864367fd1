use Rattle.std.proofs.Common.{ap, sym, ◌∙◌}
use Rattle.toml_parser.specs.Lexical.{is_ws}
use Rattle.cbsrun_toml_plain.proofs.Trivia.{after_none}
use Rattle.cbsrun_toml_plain.proofs.blanks.after_blanks.Goals as goal

pub returns-else-is_ws-clause-rest : goal.returns-else-is_ws-clause-rest
returns-else-is_ws-clause-rest c =
    let none = ap is_ws (sym c.first.ensures) ∙ sym c.is_ws.ensures ∙ c.if-is_ws.false in
    sym (after_none c.after_space-rest.result.now none) ∙ c.after_space-rest.ensures.rest
