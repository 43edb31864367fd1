use Rattle.cbsrun_toml_plain.proofs.pairs.table_end.Goals as goal

pub returns-in-Inline : goal.returns-in-Inline
returns-in-Inline c = rw c.in-Inline.is c.inline_end.ensures

pub returns-in-Lines : goal.returns-in-Lines
returns-in-Lines c = rw c.in-Lines.is c.lines_end.ensures
