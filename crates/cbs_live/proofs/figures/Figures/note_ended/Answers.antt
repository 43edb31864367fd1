use Rattle.std.proofs.Common.{arith}
use Rattle.cbs_live.proofs.Added.{total_more}
use Rattle.cbs_live.proofs.figures.Figures.note_ended.Goals as goal

pub returns : goal.returns
returns c = λ past are. record {
  ticks = are.ticks;
  accepted = are.accepted;
  units = omega arith;
  charged = total_more past.charges c.args.unit.charged c.args.self.now.charged _ are.charged c.saturating_add-self-2.ensures;
  responses = rw (c.time_of_done-came.ensures past are) at (c.add_response.ensures past.responses are.responses);
  lateness = c.add.ensures past.latenesses are.lateness;
  remembered = are.remembered;
}
