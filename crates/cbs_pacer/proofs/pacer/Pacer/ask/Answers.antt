use Rattle.std.proofs.Common.{true, false, refl}
use Rattle.cbs_pacer.proofs.pacer.Pacer.ask.Goals as goal

pub returns-in-None : goal.returns-in-None
returns-in-None g c = record {
  between = c.prepare.new.house;
  out_of_memory = false;
  prepares = rw (c.go_on.ensures.pace, c.go_on.ensures.taken, ← c.if-prepare.false) c.prepare.ensures.prepares;
  answers = rw (c.go_on.ensures.pace, c.go_on.ensures.taken) (c.go_on.ensures.does c.args.self.now.listens);
}

pub returns-in-Some : goal.returns-in-Some
returns-in-Some g c = record {
  between = c.prepare.new.house;
  out_of_memory = false;
  prepares = rw (c.rest.ensures.pace, c.rest.ensures.taken, ← c.if-prepare.false) c.prepare.ensures.prepares;
  answers = rw (c.rest.ensures.pace, c.rest.ensures.taken, ← c.prepare.ensures.listens) c.rest.ensures.does;
}

pub returns-then-prepare : goal.returns-then-prepare
returns-then-prepare g c = record {
  between = c.prepare.new.house;
  out_of_memory = true;
  prepares = rw (← c.if-prepare.true) c.prepare.ensures.prepares;
  answers = (refl, refl, c.prepare.ensures.done);
}
