use Rattle.std.proofs.Common.{rules, arith}
use Rattle.std.proofs.lemmas.Grind.{common_steps}
use Rattle.std.proofs.lemmas.Bool.Decides.{nat_tests}
use Rattle.toml.specs.Parse.{atom}
use Rattle.toml.proofs.Views.{view-String}
use Rattle.cbsrun_toml_tokens.proofs.tokens.atom.Goals as goal

pub returns-in-Ok-clause-value : goal.returns-in-Ok-clause-value
unfolding atom
returns-in-Ok-clause-value c = rw (view-String c.in-Ok.text) (grind (arith, nat_tests, common_steps))

pub returns-in-Err-clause-value : goal.returns-in-Err-clause-value
unfolding atom
returns-in-Err-clause-value c e = let none = c.in-Err.ensures.value (c.stop.ensures.memory e) in search rules

pub returns-in-Ok-unquoted-clause-value : goal.returns-in-Ok-unquoted-clause-value
unfolding atom
returns-in-Ok-unquoted-clause-value c = search rules

pub returns-in-Err-unquoted-clause-value : goal.returns-in-Err-unquoted-clause-value
unfolding atom
returns-in-Err-unquoted-clause-value c e = let none = c.in-Err-unquoted.ensures.value (c.stop-in-Err-unquoted.ensures.memory e) in search rules
