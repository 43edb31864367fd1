use Rattle.std.proofs.Common.{arith, sym, ◌∙◌}
use Rattle.std.proofs.lemmas.Grind.{common_steps}
use Rattle.toml.specs.View.{view}
use Rattle.cbsrun_faults.proofs.Refusals.{none_spelled}
use Rattle.cbsrun_faults.proofs.refused.reservations.Goals as goal

pub returns-in_default : goal.returns-in_default
returns-in_default c =
    none_spelled c.args.tick view c.args.servers.now c.loop-entry.entry-index c.entry-item.result c.in_default.field-0 c.loop-entry-test.true c.entry-item.is
    (sym c.reservation_of.ensures ∙ c.in_default.is)

pub loop-entry-preserved : goal.loop-entry-preserved
loop-entry-preserved c = grind (arith, common_steps)

pub returns : goal.returns
returns c = grind (arith, common_steps)
