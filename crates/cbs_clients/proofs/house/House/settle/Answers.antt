use Rattle.std.proofs.Common.{[], refl, rules, sym}
use Rattle.cbs_clients.proofs.HouseInvariant.{housed_all, same_shelf}
use Rattle.cbs_clients.proofs.house.House.settle.Goals as goal

pub returns-clause-value : goal.returns-clause-value
returns-clause-value g c = search rules

pub returns-clause-looked : goal.returns-clause-looked
returns-clause-looked g c =
    let looked = c.settle.ensures.looked in
    record { core = refl; rings = looked.rings; tape = refl; seats = λ s. record { same = rw (looked.received s) refl; known = looked.known s } }

pub returns-clause-lawful : goal.returns-clause-lawful
returns-clause-lawful g c = sym c.settle.ensures.lawful

pub invariant_of-self : goal.invariant_of-self
invariant_of-self g c =
    let a = c.args.self.now in
    let looked = c.settle.ensures.looked in
    record {
      housed = housed_all g.W.Work.meaning a.core a.core a.rings c.settle.new.self a.collector a.collector a.housed looked.rings refl refl []
          (λ M agrees. agrees) (λ s. record { jobs = refl; accepted = refl; finished = refl; closed = refl }) looked.received (λ s. same_shelf _);
    }
