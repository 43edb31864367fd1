use Rattle.std.proofs.Common.{ap, sym, ◌∙◌}
use Rattle.cbsrun_toml_plain.specs.Pairs.{begins_trivia}
use Rattle.cbsrun_toml_plain.proofs.Trivia.{blank_none}
use Rattle.cbsrun_toml_plain.proofs.blanks.after_trivia.Goals as goal

pub returns-else-begins_trivia-clause-rest : goal.returns-else-begins_trivia-clause-rest
returns-else-begins_trivia-clause-rest c =
    let none = ap begins_trivia (sym c.first.ensures) ∙ sym c.begins_trivia.ensures ∙ c.if-begins_trivia.false in
    sym (blank_none c.after_space-rest.result.now none) ∙ c.after_space-rest.ensures.blank
