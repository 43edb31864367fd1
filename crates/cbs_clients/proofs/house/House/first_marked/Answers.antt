use Rattle.cbs_clients.proofs.house.House.first_marked.Goals as goal

pub returns-clause-some : goal.returns-clause-some
returns-clause-some g c = rw (← c.args.self.now.housed.ring_count) c.first_marked.ensures.some

pub returns-clause-none : goal.returns-clause-none
returns-clause-none g c = rw (← c.args.self.now.housed.ring_count) c.first_marked.ensures.none
