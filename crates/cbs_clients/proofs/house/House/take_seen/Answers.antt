use Rattle.std.proofs.Common.{◌<◌, length, ◌∙◌, arith}
use Rattle.cbs_clients.proofs.MadeSteps.{polled_after, polled_there}
use Rattle.cbs_clients.proofs.Moves.{polled_on_time}
use Rattle.cbs_clients.proofs.PacedMoves.{polled_paced}
use Rattle.cbs_clients.proofs.RingLooks.{seen_within}
use Rattle.cbs_clients.specs.Houses.{core_of}
use Rattle.cbs_clients.proofs.house.House.take_seen.Goals as goal

pub returns : goal.returns
returns g c =
    let a = c.args.self.now in
    let p = c.prepare in
    let t = c.take_next in
    let polled = polled_after g.W.Work.meaning a p.new.self t.new.self c.args.server t.result p.ensures.made p.ensures.core t.ensures.polled in
    let rings = a.housed.ring_count in
    let ring = seen_within a.rings c.args.server c.requires in
    let within : c.args.server < length (core_of a).faces = omega (arith, ring, rings) in
    record {
      polled = polled;
      on_time = polled_on_time g.W.Work.meaning a t.new.self c.args.server t.result a.housed.history polled;
      paced = polled_paced g.W.Work.meaning a t.new.self c.args.server t.result a.housed.history polled;
      rings = t.ensures.rings ∙ p.ensures.made.rings;
      results = λ s. t.ensures.results s ∙ p.ensures.results s;
      same = polled_there g.W.Work.meaning a t.new.self c.args.server t.result polled within;
    }

pub returns-in-Some : goal.returns-in-Some
returns-in-Some g c =
    let a = c.args.self.now in
    let p = c.prepare in
    let rings = a.housed.ring_count in
    let ring = seen_within a.rings c.args.server c.requires in
    let within : c.args.server < length (core_of a).faces = omega (arith, ring, rings) in
    record {
      polled = c.in-Some.ensures.some;
      on_time = polled_on_time g.W.Work.meaning a p.new.self c.args.server c.in-Some.answer a.housed.history c.in-Some.ensures.some;
      paced = polled_paced g.W.Work.meaning a p.new.self c.args.server c.in-Some.answer a.housed.history c.in-Some.ensures.some;
      rings = p.ensures.made.rings;
      results = p.ensures.results;
      same = polled_there g.W.Work.meaning a p.new.self c.args.server c.in-Some.answer c.in-Some.ensures.some within;
    }
