use Rattle.cbs_pacer.proofs.pacer.Pacer.prepare.Goals as goal

pub returns-clause-prepares : goal.returns-clause-prepares
returns-clause-prepares g c = record {
  paid = c.pay.new.house;
  after = c.pay.new.self.pace;
  pays = c.pay.ensures.pays;
  caught_up = c.catch_up.new.house;
  passes = c.catch_up.ensures.passes;
  polls = c.poll_marked-polls.ensures.polled;
}
