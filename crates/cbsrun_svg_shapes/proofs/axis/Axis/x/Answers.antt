use Rattle.std.proofs.Common.{refl}
use Rattle.cbsrun_svg_shapes.specs.Axes.{x_at}
use Rattle.cbsrun_svg_shapes.proofs.axis.Axis.x.Goals as goal

pub returns-clause-value : goal.returns-clause-value
unfolding x_at
returns-clause-value c = rw (c.min-ticks.ensures, c.saturating_sub.ensures, ← c.self.view_is) refl
