use Rattle.std.proofs.Common.{◌≡◌, sym, ◌∙◌, arith}
use Rattle.cbs_steps.proofs.IdleSpans.{somebody, nobody}
use Rattle.cbs_steps.specs.Waiting.{wake_of}
use Rattle.cbs_core.proofs.servers.Servers.idle_span.Goals as goal

pub returns-then-is_some : goal.returns-then-is_some
returns-then-is_some g c = somebody c.args.self.now c.choose.result c.choose.ensures.choice (sym c.is_some.ensures ∙ c.if-is_some.true)

pub returns : goal.returns
returns g c =
    let kept : c.self.inside.waits.wakes ≡ wake_of c.args.self.now = rw c.self.view_is at c.self.invariant.2.wakes in (
      nobody c.args.self.now c.choose.result c.choose.ensures.choice (sym c.is_some.ensures ∙ c.if-is_some.false),
      omega (arith, kept, c.saturating_sub.ensures, c.max.ensures, c.min.ensures),
    )
