use Rattle.cbsrun_runs.proofs.Servers.{stands}
use Rattle.std.proofs.Common.{◌≡◌, ◌<◌, arith, length}
use Rattle.cbsrun_runs.proofs.picture.drawn.Goals as goal

pub unwrap-requires : goal.unwrap-requires
unwrap-requires g c =
    let plan = g.R.Run.run c.args.run.now in
    let moded : length plan.modes ≡ length plan.plan.rates = c.modes.ensures.servers.moded in
    let lt : c.args.server < length plan.modes = omega (arith, moded, c.requires) in
    rw (c.get.ensures, c.modes.ensures.value) (stands plan.modes c.args.server lt)

pub unwrap-requires-2 : goal.unwrap-requires-2
unwrap-requires-2 g c = rw (c.get-2.ensures.value, c.plan.ensures) (stands (g.R.Run.run c.args.run.now).plan.rates c.args.server c.requires)
