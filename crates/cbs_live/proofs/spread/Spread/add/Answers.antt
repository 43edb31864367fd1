use Rattle.std.proofs.Common.{arith, rules}
use Rattle.cbs_live.proofs.Added.{total_more, least_more, powers_more}
use Rattle.cbs_live.proofs.spread.Spread.add.Goals as goal
use Rattle.cbs_live.proofs.spread.Spread.add.Goals.{in-0, in_default}

pub returns : goal.returns
returns c = λ numbers h. record {
  count = omega arith;
  total = total_more numbers c.args.number c.args.self.now.total _ h.total c.saturating_add-self-2.ensures;
  least = least_more numbers c.args.number c.args.self.now.count c.args.self.now.least _ h.count h.least
      (λ none. elim c.match-self.branch [ in-0 w ↦ omega arith | in_default w ↦ omega arith ])
      (λ some. elim c.match-self.branch [ in-0 w ↦ omega arith | in_default w ↦ omega arith ]);
  greatest = omega arith;
  powers = powers_more c.args.self.now.powers numbers c.args.number c.power_of-power.result c.saturating_add.result (search rules) c.power_of-power.ensures.within c.power_of-power.ensures.power c.saturating_add.ensures h.powers;
}
