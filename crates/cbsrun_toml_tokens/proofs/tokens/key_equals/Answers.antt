use Rattle.std.proofs.Common.{rules}
use Rattle.toml.specs.Parse.{key_equals}
use Rattle.cbsrun_toml_tokens.proofs.tokens.key_equals.Goals as goal

pub returns-then-first-ne61-clause-value : goal.returns-then-first-ne61-clause-value
unfolding key_equals
returns-then-first-ne61-clause-value c e = search rules

pub returns-else-first-ne61-clause-value : goal.returns-else-first-ne61-clause-value
unfolding key_equals
returns-else-first-ne61-clause-value c = search rules

pub returns-in-Err-clause-value : goal.returns-in-Err-clause-value
unfolding key_equals
returns-in-Err-clause-value c e = let none = c.in-Err.ensures.value (c.stop.ensures.memory e) in search rules
