use Rattle.std.proofs.Common.{◌≡◌, [], string_bytes, codes, rules, arith}
use Rattle.std.proofs.lemmas.Grind.{common_steps}
use Rattle.toml_parser.specs.Reading.{path_view}
use Rattle.toml.proofs.Turns.{path_view-none}
use Rattle.cbsrun_tasks.proofs.stream.is_step.Goals as goal

pub returns-then-is_empty : goal.returns-then-is_empty
returns-then-is_empty c e =
    let none : path_view c.args.key.now.path.items ≡ [] = path_view-none c.args.key.now.path.items (grind (arith, common_steps)) in
    let last : string_bytes c.args.key.now.last ≡ codes "step" = search rules in
    rw (none, last)
