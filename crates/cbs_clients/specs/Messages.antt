-- What a list of messages contains.
use Rattle.std.specs.Prelude.{Bool, true, false, List, [], ◌∷◌}
use Rattle.cbs_clients.specs.declared.message.Message.{Message}
use Rattle.cbs_clients.specs.declared.message.Message.TheVariants.{Job, End}

module _ {W : Type 0} where
  -- the jobs among the messages, in order
  abbrev pub jobs_among : List (Message W) → List W
  jobs_among [] = []
  jobs_among (Job w ∷ ms) = w ∷ jobs_among ms
  jobs_among (End ∷ ms) = jobs_among ms

  -- whether an end is among the messages
  abbrev pub has_end : List (Message W) → Bool
  has_end [] = false
  has_end (Job w ∷ ms) = has_end ms
  has_end (End ∷ ms) = true

  -- whether there is nothing in the list
  abbrev pub is_nothing : List (Message W) → Bool
  is_nothing [] = true
  is_nothing (m ∷ ms) = false

  -- whether nothing comes after an end
  abbrev pub end_is_last : List (Message W) → Bool
  end_is_last [] = true
  end_is_last (Job w ∷ ms) = end_is_last ms
  end_is_last (End ∷ ms) = is_nothing ms
