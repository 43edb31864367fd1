-- What the lists hold after a mutable borrow of the first value of one list ends.
use Rattle.std.specs.Prelude.{ℕ, ◌∷◌, drop}
use Rattle.std.specs.Borrow.{Lends, Fml, RattleType, MutBor}
use Rattle.std.specs.declared.alloc.Allocator.{Ghosts}
use Rattle.cbs_lists.specs.Lists.{changed_at}
use Rattle.cbs_queues.specs.Queues.{Queued}
use Rattle.cbs_queues.specs.contracts.chains.Chains.{the_row}

-- the queues with another first value in the list of s
abbrev pub with_first : {T : Type 0} → Queued T → ℕ → T → Queued T
with_first q s w = record q { lists = changed_at (λ values. w ∷ drop 1 values) q.lists s }

module _ (T A : RattleType) (alloc : Ghosts A.Denot) (q : MutBor (Queued T.Denot)) (s : ℕ) where
  -- once the borrow r ends, the list of s begins with the last value written through r
  abbrev pub lends_first : MutBor T.Denot → Fml
  lends_first r = Lends (the_row T A alloc) T q r (with_first q.now s)
