use Rattle.std.proofs.Common.{◌≡◌, ◌++◌, ◌==◌, ◌+◌, true, length, ◌∙◌, ap, arith}
use Rattle.std.proofs.lemmas.Grind.{common_steps}
use Rattle.std.proofs.lemmas.List.{length-append}
use Rattle.toml_parser.specs.Lexical.{first, skip_ws}
use Rattle.cbsrun_toml_plain.proofs.Tables.{starts_pair}
use Rattle.cbsrun_toml_plain.proofs.pairs.value_of.Goals as goal

pub returns : goal.returns
returns c =
    let is : c.args.s.now ≡ c.args.key.now ++ c.in_ok-named.named.now = c.in_ok-named.ensures in
    let equals : (first c.after_blanks-rest.result.now == 61) ≡ true = grind (arith, common_steps) in
    let within = c.after_blanks-rest.ensures.within in
    let less = c.skip.ensures.shorter in
    let at_within = c.after_blanks.ensures.within in
    let whole : length c.args.s.now ≡ length c.args.key.now + length c.in_ok-named.named.now =
    ap length is ∙ length-append c.args.key.now c.in_ok-named.named.now in
    starts_pair c.args.s.now c.args.key.now c.in_ok-named.named.now c.after_blanks-rest.result.now c.after_blanks.result.now is c.requires.bare c.requires.some
    c.after_blanks-rest.ensures.rest equals (c.after_blanks.ensures.rest ∙ ap skip_ws c.skip.ensures.rest) (omega arith)
