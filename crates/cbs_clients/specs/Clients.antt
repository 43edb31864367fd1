-- What a contract says about a client.
use Rattle.std.specs.Prelude.{ℕ, ◌≡◌, ◌-◌, ◌<◌, ◌⊎◌, List, ◌∷◌, ◌++◌, length, map, slice_get, Some}
use Rattle.rtrb.specs.Ring.{sent, known_free, producer_capacity}
use Rattle.cbs_job.specs.declared.work.Work.{Ghosts}
use Rattle.cbs_clients.specs.declared.message.Message.{Message}
use Rattle.cbs_clients.specs.declared.client.Client.{Client}
use Rattle.cbs_clients.specs.Messages.{jobs_among}
use Rattle.cbs_clients.specs.Rings.{Ring, producer_ring}

-- how many jobs a client can count
abbrev pub most_jobs : ℕ
most_jobs = 18446744073709551615

module _ {W A : Type 0} {g : Ghosts W} where
  -- the client's server
  abbrev pub server_of : Client W A g → ℕ
  server_of c = c.server

  -- the ring that the client pushes into
  abbrev pub ring_of : Client W A g → Ring A
  ring_of c = producer_ring c.ring

  -- the messages that the client pushed into its ring, oldest first
  abbrev pub sent_by : Client W A g → List (Message W)
  sent_by c = sent c.ring

  -- How many free slots of its ring the client knows of, for what it sends. One more slot is kept: a client that is
  -- dropped sends its end there, however full the ring is.
  abbrev pub free : Client W A g → ℕ
  free c = known_free c.ring - 1

  -- how many slots the ring has for what the client sends: all but the kept one
  abbrev pub slots_of : Client W A g → ℕ
  slots_of c = producer_capacity c.ring - 1

  -- the client knows of a free slot in its ring, and has sent fewer jobs than it can count
  abbrev pub HasSlot : Client W A g → Type 0
  HasSlot c = (0 < free c) × (length (jobs_among (sent_by c)) < most_jobs)

  -- the client knows of no free slot in its ring, or has sent as many jobs as it can count
  abbrev pub HasNoSlot : Client W A g → Type 0
  HasNoSlot c = (free c ≡ 0) ⊎ (length (jobs_among (sent_by c)) ≡ most_jobs)

  -- the client has the same server and the same ring
  abbrev pub SameClient : Client W A g → Client W A g → Type 0
  SameClient old new = (server_of new ≡ server_of old) × (ring_of new ≡ ring_of old)

  -- the client pushes into the ring of its server
  abbrev pub IsOpened : List (Ring A) → Client W A g → Type 0
  IsOpened rings c = slice_get rings (server_of c) ≡ Some (ring_of c)

  -- IsOpened for each of several clients
  abbrev pub AreOpened : List (Ring A) → List (Client W A g) → Type 0
  AreOpened rings cs = map (λ c. slice_get rings (server_of c)) cs ≡ map (λ c. Some (ring_of c)) cs

  -- IsOpened for each client, at whatever place among them
  abbrev pub EachOpened : List (Ring A) → List (Client W A g) → Type 0
  EachOpened rings cs = (front back : List (Client W A g)) (c : Client W A g) → cs ≡ front ++ c ∷ back → IsOpened rings c
