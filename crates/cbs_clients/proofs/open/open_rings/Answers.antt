use Rattle.std.proofs.Common.{◌≡◌, [], ◌∷◌, ap, length, map, length-append, sym, ◌∙◌, arith}
use Rattle.cbs_clients.specs.Clients.{server_of, ring_of}
use Rattle.cbs_clients.specs.Opened.{IsNewEnd, IsUnused}
use Rattle.cbs_clients.specs.Rings.{consumer_ring}
use Rattle.cbs_clients.proofs.RingLooks.{pair_ring}
use Rattle.cbs_clients.proofs.NewHouses.{map_pushed, numbered_pushed, new_known, same_count}
use Rattle.std.proofs.lemmas.List.{length-map}
use Rattle.cbs_lists.proofs.Lists.{All_pushed}
use Rattle.cbs_clients.proofs.open.open_rings.Goals as goal

pub loop-server-preserved : goal.loop-server-preserved
loop-server-preserved g c =
    let l = c.loop-server in
    let made = c.in_ok-producer in
    let client = c.new-in-loop-server-2.result in
    let is = c.new-in-loop-server-2.ensures in
    let ends' = c.push_reserved.new.self.items in
    let clients' = c.push_reserved-in-loop-server.new.self.items in
    let a = c.push_reserved.ensures.items in
    let b = c.push_reserved-in-loop-server.ensures.items in
    record {
      ends = omega (arith, ap length a, length-append l.ends.items (made.consumer ∷ []), c.push_reserved.ensures.capacity, l.invariant.ends);
      places = omega (arith, ap length b, length-append l.clients.items (client ∷ []), c.push_reserved-in-loop-server.ensures.capacity, l.invariant.places);
      new = All_pushed IsNewEnd l.ends.items ends' made.consumer a
          (record { received = made.ensures.consumer.0; known = made.ensures.consumer.1 }) l.invariant.new;
      rings = map_pushed consumer_ring ring_of l.ends.items ends' l.clients.items clients' made.consumer client a b
          (pair_ring made.producer made.consumer made.ensures.pair ∙ sym is.ring) l.invariant.rings;
      clients = numbered_pushed server_of l.clients.items clients' client l.server b is.server l.invariant.clients;
      unused = All_pushed (IsUnused c.args.slots) l.clients.items clients' client b
          (record { sent = is.sent; free = omega (arith, is.free, made.ensures.producer.1) }) l.invariant.unused;
    }

pub returns-clause-new : goal.returns-clause-new
returns-clause-new g c = c.loop-server.invariant.new

pub returns-clause-rings : goal.returns-clause-rings
returns-clause-rings g c = c.loop-server.invariant.rings

pub returns-clause-clients : goal.returns-clause-clients
returns-clause-clients g c = let e : c.loop-server.server ≡ c.args.servers = omega arith in rw (← e) c.loop-server.invariant.clients

pub returns-clause-unused : goal.returns-clause-unused
returns-clause-unused g c = c.loop-server.invariant.unused

pub invariant_of-rings : goal.invariant_of-rings
invariant_of-rings g c =
    let l = c.loop-server in
    let count = same_count ring_of server_of (map consumer_ring l.ends.items) l.clients.items l.server l.invariant.rings l.invariant.clients in
    record {
      few = omega (arith, count, length-map l.ends.items consumer_ring, c.requires.few, l.auto.server-end);
      quiet = λ s below unmarked. new_known l.ends.items l.invariant.new s;
    }
