-- The list of each server as a chain of keys in one slab.
use Rattle.std.specs.Prelude.{◌≡◌, ℕ, zero, suc, ◌+◌, ◌-◌, ◌<◌, eqb, if◌then◌else◌, List, [], ◌∷◌, map, get_or, Option, Some, None, is_some, IsSome}
use Rattle.std.specs.Prelude.{count_by, slice_set}
use Rattle.std.specs.List.{sum_by}
use Rattle.slab.specs.Slab.{Slab, slab_len}
use Rattle.cbs_queues.specs.declared.chains.Node.{Node}
use Rattle.cbs_queues.specs.declared.chains.Ends.{Ends}

-- the ends of an empty list
abbrev pub no_ends : Ends
no_ends = record { head = 0; tail = 0; len = 0 }

-- the ends of the list of a server
abbrev pub ends_at : List Ends → ℕ → Ends
ends_at ends s = get_or ends s no_ends

-- the ends of a list after the value at key q was put at its end
abbrev pub ends_pushed : Ends → ℕ → Ends
ends_pushed e q = record { head = if eqb e.len 0 then q else e.head; tail = q; len = e.len + 1 }

-- the ends of a list after its first value was taken; n is the key of the next value
abbrev pub ends_popped : Ends → ℕ → Ends
ends_popped e n = record { head = n; tail = e.tail; len = e.len - 1 }

module _ {T : Type 0} where
  -- the node at a key, if there is one
  abbrev pub node_at : List (Option (Node T)) → ℕ → Option (Node T)
  node_at slots k = get_or slots k None

  -- the key after this node
  abbrev pub next_of : Option (Node T) → ℕ
  next_of None = 0
  next_of (Some node) = node.next

  -- the key that is reached from k after i links
  abbrev pub key_from : List (Option (Node T)) → ℕ → ℕ → ℕ
  key_from slots k zero = k
  key_from slots k (suc i) = key_from slots (next_of (node_at slots k)) i

  -- the list with the node's value put first, if there is a node
  abbrev pub value_before : Option (Node T) → List T → List T
  value_before None rest = rest
  value_before (Some node) rest = node.value ∷ rest

  -- the values of n nodes, followed from key k
  abbrev pub chain : List (Option (Node T)) → ℕ → ℕ → List T
  chain slots zero k = []
  chain slots (suc n) k = value_before (node_at slots k) (chain slots n (next_of (node_at slots k)))

  -- the values of the list with these ends
  abbrev pub list_of : List (Option (Node T)) → Ends → List T
  list_of slots e = chain slots e.len e.head

  -- the list of each server
  abbrev pub lists_of : List (Option (Node T)) → List Ends → List (List T)
  lists_of slots ends = map (list_of slots) ends

  -- the key of value i of server s
  abbrev pub key_at : List (Option (Node T)) → List Ends → ℕ → ℕ → ℕ
  key_at slots ends s i = key_from slots (ends_at ends s).head i

  -- Each key of a list holds a value. No key is on two lists, or twice on one. The tail is the last key. Every value is
  -- on a list.
  pub record IsSound (slots : List (Option (Node T))) (ends : List Ends) : Type 0 where
    pub held : (s i : ℕ) → i < (ends_at ends s).len → IsSome (node_at slots (key_at slots ends s i))
    pub apart : (s t i j : ℕ) → i < (ends_at ends s).len → j < (ends_at ends t).len
        → key_at slots ends s i ≡ key_at slots ends t j → (s ≡ t) × (i ≡ j)
    pub tails : (s : ℕ) → 0 < (ends_at ends s).len
        → (ends_at ends s).tail ≡ key_at slots ends s ((ends_at ends s).len - 1)
    pub counted : sum_by (λ e. e.len) ends ≡ count_by is_some slots

  -- for each server, how many more values fit without an allocation: as many as fit in the slab
  abbrev pub rooms_of : Slab (Node T) → List Ends → List ℕ
  rooms_of nodes ends = map (λ (_ : Ends). nodes.capacity - slab_len nodes) ends

  -- the node with q as the key after it, if there is a node
  abbrev pub linked_to : ℕ → Option (Node T) → Option (Node T)
  linked_to q None = None
  linked_to q (Some node) = Some (record { value = node.value; next = q })

  -- the slots after the last value of a list, if there is one, was linked to key q
  abbrev pub linked : List (Option (Node T)) → Ends → ℕ → List (Option (Node T))
  linked slots e q = if eqb e.len 0 then slots else slice_set slots e.tail (linked_to q (node_at slots e.tail))
