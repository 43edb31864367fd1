-- The rings: to which ring an end belongs, and what a contract says about the house's ends.
use Rattle.std.specs.Prelude.{ℕ, ◌≡◌, ◌≤◌, ◌<◌, List, [], map, get_or}
use mathlib.Core.List.{IsPrefix}
use denote.RawPtr.{Ptr}
use Rattle.rtrb.specs.Ring.{received, known_items}
use Rattle.rtrb.specs.declared.producer.Producer.{Producer}
use Rattle.rtrb.specs.declared.consumer.Consumer.{Consumer}
use Rattle.cbs_job.specs.declared.work.Work.{Ghosts}
use Rattle.cbs_clients.specs.declared.message.Message.{Message}
use Rattle.cbs_clients.specs.declared.rings.Rings.{Rings}

-- A ring: its memory, its allocator and the names by which proofs know it. A producer and a consumer are the two ends
-- of one ring if their rings are equal.
abbrev pub Ring : Type 0 → Type 0
Ring A = Ptr × Ptr × (ℕ × (ℕ × ℕ)) × A

module _ {T A P : Type 0} where
  -- the ring that a producer pushes into
  abbrev pub producer_ring : Producer T A P → Ring A
  producer_ring p = (p.end.words, p.end.slots, p.end.names, p.end.heap)

  -- the ring that a consumer pops from
  abbrev pub consumer_ring : Consumer T A P → Ring A
  consumer_ring c = (c.end.words, c.end.slots, c.end.names, c.end.heap)

module _ {W A : Type 0} {g : Ghosts W} where
  -- the ring of each server
  abbrev pub rings_in : Rings W A g → List (Ring A)
  rings_in r = map consumer_ring r.ends.items

  -- the messages that were popped for server s, oldest first
  abbrev pub received_in : Rings W A g → ℕ → List (Message W)
  received_in r s = get_or (map received r.ends.items) s []

  -- the messages that were seen in the ring of server s and not yet popped, oldest first
  abbrev pub known_in : Rings W A g → ℕ → List (Message W)
  known_in r s = get_or (map known_items r.ends.items) s []

  -- no message is known of the servers from `first` to below `end`
  abbrev pub KnowsNone : Rings W A g → ℕ → ℕ → Type 0
  KnowsNone r first end = (s : ℕ) → first ≤ s → s < end → known_in r s ≡ []

  -- the house looked at its rings: nothing was popped, and no message seen before is lost
  pub record Looked (old new : Rings W A g) : Type 0 where
    pub rings : rings_in new ≡ rings_in old
    pub received : (s : ℕ) → received_in new s ≡ received_in old s
    pub known : (s : ℕ) → IsPrefix (known_in old s) (known_in new s)
