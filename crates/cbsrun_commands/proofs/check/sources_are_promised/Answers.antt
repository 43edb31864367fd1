use Rattle.std.proofs.Common.{◌∙◌, ap₂}
use Rattle.cbsrun_commands.specs.Outputs.{all_promised}
use Rattle.cbsrun_commands.proofs.check.sources_are_promised.Goals as goal

pub returns : goal.returns
returns c =
    (c.in_ok-loads.loads.items, c.in_ok-loads.ensures, c.all_promised.ensures ∙ ap₂ all_promised c.deref.ensures.value c.sources.ensures.value)
