use Rattle.std.proofs.Common.{rules, arith, ◌≤◌, ◌<◌, ◌*◌, ◌+◌, ◌-◌, ◌^◌, length, min, sum, take}
use Rattle.cbs_live.proofs.Below.{sum_more, enough, too_few, all, is_before}
use Rattle.cbs_live.proofs.spread.Spread.at_most.Goals as goal

pub returns-then-wanted-found-clause-enough : goal.returns-then-wanted-found-clause-enough
returns-then-wanted-found-clause-enough c = λ numbers is counted.
    let at : c.loop-power.power < length c.args.self.now.powers = search rules in
    let found : c.from.result * c.from-2.result ≤ 1000 * sum (take (c.loop-power.power + 1) c.args.self.now.powers) =
    omega (arith, sum_more c.args.self.now.powers c.loop-power.power at) in
    rw (c.min-then-wanted-found.ensures, c.end_of.ensures)
    (enough c.args.self.now numbers (min c.args.per_mille 1000) c.loop-power.power (c.from.result * c.from-2.result) is counted (search rules) (omega arith) (cc) found)

pub returns-then-wanted-found-clause-least : goal.returns-then-wanted-found-clause-least
returns-then-wanted-found-clause-least c = λ numbers is counted k from.
    let within : c.min-then-wanted-found.result ≤ 2 ^ c.loop-power.power - 1 = omega arith in
    let before : k < c.loop-power.power = is_before k c.loop-power.power c.min-then-wanted-found.result from within in
    too_few c.args.self.now numbers (min c.args.per_mille 1000) k (c.from.result * c.from-2.result) is counted (search rules) (omega arith) (cc) (c.loop-power.invariant.before k before)

pub returns-clause-enough : goal.returns-clause-enough
returns-clause-enough c = λ numbers is counted. all c.args.self.now numbers (min c.args.per_mille 1000) is (omega arith)

pub returns-clause-least : goal.returns-clause-least
returns-clause-least c = λ numbers is counted k from.
    let within : c.args.self.now.greatest ≤ 2 ^ 64 - 1 = search rules in
    let before : k < 64 = is_before k 64 c.args.self.now.greatest from within in
    let last : k < c.loop-power.power = omega arith in
    too_few c.args.self.now numbers (min c.args.per_mille 1000) k (c.from.result * c.from-2.result) is counted (search rules) (omega arith) (cc) (c.loop-power.invariant.before k last)
