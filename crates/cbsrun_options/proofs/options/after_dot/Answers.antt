use Rattle.std.proofs.Common.{arith}
use Rattle.std.proofs.lemmas.Str.Pattern.{strip_prefix_char}
use Rattle.cbsrun_options.proofs.AfterDot.{after_dot-from}
use Rattle.cbsrun_options.proofs.options.after_dot.Goals as goal

pub returns : goal.returns
returns c = after_dot-from c.args.text.now c.strip_prefix.result (strip_prefix_char 46 c.args.text.now c.strip_prefix.result c.strip_prefix.ensures.cases (omega arith))
