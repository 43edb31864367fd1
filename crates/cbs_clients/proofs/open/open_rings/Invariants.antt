use Rattle.std.proofs.Common.{◌≡◌, ◌≤◌, ◌+◌, ◌-◌, length, map, vec_capacity}
use Rattle.std.specs.List.{All, range_with_len}
use Rattle.cbs_clients.specs.Clients.{server_of, ring_of}
use Rattle.cbs_clients.specs.Opened.{IsNewEnd, IsUnused}
use Rattle.cbs_clients.specs.Rings.{consumer_ring}
use Rattle.cbs_clients.proofs.open.open_rings.Given as goal

abbrev pub invariant-loop-server : goal.invariant-loop-server
invariant-loop-server g l =
    record {
      ends : length l.ends.items + (l.servers - l.server) ≤ vec_capacity l.ends;
      places : length l.clients.items + (l.servers - l.server) ≤ vec_capacity l.clients;
      new : All IsNewEnd l.ends.items;
      rings : map consumer_ring l.ends.items ≡ map ring_of l.clients.items;
      clients : map server_of l.clients.items ≡ range_with_len 0 l.server;
      unused : All (IsUnused l.slots) l.clients.items;
    }
