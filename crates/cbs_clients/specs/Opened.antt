-- A house that was just opened, with its clients.
use Rattle.std.specs.Prelude.{ℕ, ◌≡◌, ◌≤◌, ◌||◌, eqb, ltb, if◌then◌else◌, List, [], length, map, Option, Some, None}
use Rattle.std.specs.List.{All, range_with_len}
use Rattle.cbs_rate.specs.Limits.{most_backlog, most_ring, most_servers}
use Rattle.rtrb.specs.declared.AnyItems.{AnyItems}
use Rattle.rtrb.specs.declared.consumer.Consumer.{Consumer}
use Rattle.rtrb.specs.Ring.{received, known_items}
use Rattle.cbs_job.specs.declared.work.Work.{Ghosts}
use Rattle.cbs_core.specs.Held.{CoreHeld}
use Rattle.cbs_clients.specs.declared.client.Client.{Client}
use Rattle.cbs_clients.specs.declared.error.HouseError.{HouseError}
use Rattle.cbs_clients.specs.declared.error.HouseError.TheVariants.{BadBacklog, BadRing}
use Rattle.cbs_clients.specs.declared.house.House.{House}
use Rattle.cbs_clients.specs.declared.message.Message.{Message}
use Rattle.cbs_clients.specs.Clients.{server_of, sent_by, free, IsOpened}
use Rattle.cbs_clients.specs.Houses.{core_of, rings_of, tape_of, seat_at, new_seat}

-- why a house is not opened, if it is not: a backlog is 1 to 4096 jobs, and a ring 1 to 1024 messages
abbrev pub open_refusal : ℕ → ℕ → Option HouseError
open_refusal backlog ring =
    if eqb backlog 0 || ltb most_backlog backlog then Some BadBacklog
    else if eqb ring 0 || ltb most_ring ring then Some BadRing
    else None

module _ {W A : Type 0} where
  -- an end of a ring from which nothing was popped, and in which no message was seen
  pub record IsNewEnd (c : Consumer (Message W) A AnyItems) : Type 0 where
    pub received : received c ≡ []
    pub known : known_items c ≡ []

module _ {W A : Type 0} {g : Ghosts W} where
  -- a client that has sent nothing, and that knows so many free slots in its ring
  pub record IsUnused (slots : ℕ) (c : Client W A g) : Type 0 where
    pub sent : sent_by c ≡ []
    pub free : free c ≡ slots

  -- The house has this core, of at most 64 servers, with nothing received, no result and no tape. It has one client for each
  -- server, in order of their numbers. The clients were opened with the house, and have sent nothing into their rings
  -- of so many slots.
  pub record HousesCore (core : CoreHeld W) (ring : ℕ) (h : House W A g) (cs : List (Client W A g)) : Type 0 where
    pub same : core_of h ≡ core
    pub few : length core.faces ≤ most_servers
    pub empty : (s : ℕ) → seat_at h s ≡ new_seat
    pub untold : tape_of h ≡ None
    pub servers : map server_of cs ≡ range_with_len 0 (length core.faces)
    pub unused : All (IsUnused ring) cs
    pub opened : All (IsOpened (rings_of h)) cs
