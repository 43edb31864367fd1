use Rattle.cbsrun_toml_plain.proofs.pairs.next_value.Goals as goal

pub returns-in-Inline : goal.returns-in-Inline
returns-in-Inline c = rw c.in-Inline.is c.next_inline.ensures

pub returns-in-Lines : goal.returns-in-Lines
returns-in-Lines c = rw c.in-Lines.is c.next_line.ensures
