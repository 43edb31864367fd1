-- The room of the slab is each server's.
use Rattle.std.proofs.Common.{◌≡◌, ℕ, ◌-◌, ◌<◌, List, length, inl, inr, arith}
use Rattle.std.proofs.lemmas.Bool.{cases_lt}
use Rattle.std.proofs.lemmas.List.{get_or-map, get_or_past, length-map}
use Rattle.slab.specs.Slab.{Slab, slab_len, HasRoomFor}
use Rattle.cbs_queues.specs.Queues.{room_of, KeepsRoom}
use Rattle.cbs_queues.specs.declared.chains.Node.{Node}
use Rattle.cbs_queues.specs.declared.chains.Ends.{Ends}
use Rattle.cbs_queues.specs.Chains.{no_ends, rooms_of}

module _ {T : Type 0} where
  -- room in the slab is room for a server
  pub room_there : (nodes : Slab (Node T)) (ends : List Ends) (t : ℕ) → t < length ends → HasRoomFor nodes 1
      → 0 < room_of (rooms_of nodes ends) t
  room_there nodes ends t lt has =
      rw (get_or-map (λ (_ : Ends). nodes.capacity - slab_len nodes) ends t no_ends 0 lt) (omega arith)

  -- a server with room is one of the table
  within_rooms : (nodes : Slab (Node T)) (ends : List Ends) (t : ℕ) → 0 < room_of (rooms_of nodes ends) t
      → t < length ends
  within_rooms nodes ends t has = elim (cases_lt t (length ends)) [
    | inl lt ↦ lt
    | inr ge ↦
        let count = length-map ends (λ (_ : Ends). nodes.capacity - slab_len nodes) in
        let past = get_or_past (rooms_of nodes ends) t 0 (omega arith) in
        absurd (omega arith)
  ]

  -- room for a server is room in the slab
  pub room_here : (nodes : Slab (Node T)) (ends : List Ends) (t : ℕ) → 0 < room_of (rooms_of nodes ends) t
      → HasRoomFor nodes 1
  room_here nodes ends t has =
      let within = within_rooms nodes ends t has in
      let here = get_or-map (λ (_ : Ends). nodes.capacity - slab_len nodes) ends t no_ends 0 within in
      omega arith

  -- a slab that keeps its room keeps that of each server
  pub rooms_kept : (nodes later : Slab (Node T)) (ends ends_later : List Ends) → length ends_later ≡ length ends
      → (HasRoomFor nodes 1 → HasRoomFor later 1) → KeepsRoom (rooms_of nodes ends) (rooms_of later ends_later)
  rooms_kept nodes later ends ends_later same keeps t has =
      let within = within_rooms nodes ends t has in
      room_there later ends_later t (omega arith) (keeps (room_here nodes ends t has))
