use Rattle.std.proofs.Common.{refl, sym, ◌≡◌, ◌∙◌, length}
use Rattle.cbs_clients.specs.Clients.{server_of, ring_of}
use Rattle.cbs_clients.specs.Rings.{rings_in}
use Rattle.cbs_clients.proofs.NewHouses.{new_rings, housed_new, same_count, all_opened}
use Rattle.cbs_clients.proofs.open.house_of.Goals as goal

pub invariant_of-house : goal.invariant_of-house
invariant_of-house g c =
    let core = c.args.core in
    let made = c.in-Ok-open_rings in
    let count : length core.faces ≡ c.servers-servers.result = sym c.servers-servers.ensures.value in
    record {
      housed = housed_new g.W.Work.meaning core c.requires.new.0 c.requires.new.1 made.rings c.in-Ok.collector
          (same_count ring_of server_of (rings_in made.rings) made.clients.items c.servers-servers.result made.ensures.rings made.ensures.clients ∙ sym count)
          (c.in-Ok.ensures.count ∙ sym count) made.ensures.new c.in-Ok.ensures.empty c.requires.new.2;
    }

pub returns-clause-made : goal.returns-clause-made
returns-clause-made g c =
    let made = c.in-Ok-open_rings in
    record {
      same = refl;
      few = rw (← c.servers-servers.ensures.value) c.servers-servers.ensures.few;
      empty = λ s. let r = new_rings made.rings made.ensures.new s in
          rw (r.0, r.1, (c.in-Ok.ensures.empty s).results, (c.in-Ok.ensures.empty s).handed, (c.in-Ok.ensures.empty s).early) refl;
      untold = refl;
      servers = rw (← c.servers-servers.ensures.value) made.ensures.clients;
      unused = made.ensures.unused;
      opened = all_opened (rings_in made.rings) made.clients.items c.servers-servers.result made.ensures.rings made.ensures.clients;
    }
