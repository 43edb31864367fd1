-- What the opening of a house puts into handles.
use Rattle.std.specs.Prelude.{ℕ, ◌≡◌, ◌≢◌, ◌⊎◌, OnOk, OnErr, Option, Some, None, Result, Ok, Err, List, length, map}
use Rattle.std.specs.List.{All, range_with_len}
use Rattle.cbs_rate.specs.Rate.{Rate}
use Rattle.cbs_rules.specs.declared.mode.Mode.{Mode}
use Rattle.cbs_steps.specs.Setups.{setup_of}
use Rattle.cbs_clients.specs.Calls.{IsNewHouse}
use Rattle.cbs_clients.specs.Clients.{server_of, IsOpened}
use Rattle.cbs_clients.specs.Houses.{rings_of}
use Rattle.cbs_clients.specs.Opened.{open_refusal, IsUnused}
use Rattle.cbs_clients.specs.declared.error.HouseError.{HouseError}
use Rattle.cbs_clients.specs.declared.error.HouseError.TheVariants.{OutOfMemory}
use Rattle.cbs_embed.specs.Calls.{TheHouse, TheClient}
use Rattle.cbs_embed.specs.Handles.{held_by}
use Rattle.cbs_embed.specs.Jobs.{counting}
use Rattle.cbs_embed.specs.Plans.{setup_refusal, setup_with, whole_processor}
use Rattle.cbs_embed.specs.declared.handle.Handle.{Handle}
use Rattle.cbs_embed.specs.declared.server.Server.{Server}
use Rattle.cbs_embed.specs.declared.held.Held.{Held}
use Rattle.cbs_embed.specs.declared.held.Held.TheVariants.{House, Client}
use Rattle.cbs_embed.specs.declared.refusal.HandleError.TheVariants.{WrongCount}
use Rattle.cbs_embed.specs.declared.refusal.Refusal.{Refusal}
use Rattle.cbs_embed.specs.declared.refusal.Refusal.TheVariants as refused

-- One handle holds a new house, and the others hold its clients, in order of their servers, which have sent nothing.
-- This is all that is known of a house that was just opened.
pub record Opens (modes : List Mode) (rates : List Rate) (backlog ring : ℕ) (held : Option Held) (others : List (Option Held)) : Type 0 where
  pub house : TheHouse
  pub clients : List TheClient
  pub holds : held ≡ Some (House house)
  pub hold : others ≡ map (λ c. Some (Client c)) clients
  pub new : IsNewHouse counting (setup_of modes rates backlog) house
  pub servers : map server_of clients ≡ range_with_len 0 (length rates)
  pub unused : All (IsUnused ring) clients
  pub opened : All (IsOpened (rings_of house)) clients

-- Opens for a house of these servers
abbrev pub OpensServers : List Server → ℕ → ℕ → Option Held → List (Option Held) → Type 0
OpensServers servers = let setup = setup_with whole_processor servers in Opens setup.modes setup.plan.rates

-- The opening of a house is refused, with so many servers and so many handles for its clients. The reason is their
-- count, or a reason why a house is not opened, memory included
abbrev pub RefusesOpening : ℕ → ℕ → ℕ → ℕ → Refusal → Type 0
RefusesOpening servers handles backlog ring error =
    ((handles ≢ servers) × (error ≡ refused.Handle WrongCount))
    ⊎ ((handles ≡ servers) × ((why : HouseError) × (error ≡ refused.House why)
    × ((open_refusal backlog ring ≡ Some why) ⊎ ((open_refusal backlog ring ≡ None) × (why ≡ OutOfMemory)))))

-- the house is opened if nothing refuses it; the first server that does not fit refuses it before all else
abbrev pub OpensOrRefuses : List Server → ℕ → ℕ → ℕ → Result (Unit {0}) Refusal → Type 0
OpensOrRefuses servers handles backlog ring (Ok x) = (setup_refusal whole_processor servers ≡ None) × (handles ≡ length servers)
    × (open_refusal backlog ring ≡ None)
OpensOrRefuses servers handles backlog ring (Err error) =
    (setup_refusal whole_processor servers ≡ Some error) ⊎ ((setup_refusal whole_processor servers ≡ None)
    × RefusesOpening (length servers) handles backlog ring error)

-- What the opening does, by its result. On success the handles hold a house of these servers and its clients; after a
-- refusal they are as they were. The refusal gives the reason
pub record OpenOf (servers : List Server) (backlog ring : ℕ) (house house' : Handle) (clients clients' : List Handle)
    (answer : Result (Unit {0}) Refusal) : Type 0 where
  pub ok : OnOk answer (OpensServers servers backlog ring (held_by house') (map held_by clients'))
  pub err : OnErr answer ((house' ≡ house) × (clients' ≡ clients))
  pub refusal : OpensOrRefuses servers (length clients) backlog ring answer
