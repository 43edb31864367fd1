-- The servers whose rings a house looks at.
use Rattle.std.specs.Prelude.{ℕ, ◌≡◌, ◌<◌, List, [], map, get_or}
use Rattle.std.specs.Int.{bit_at}
use Rattle.rtrb.specs.Ring.{known_items}
use Rattle.rtrb.specs.declared.consumer.Consumer.{Consumer}
use Rattle.cbs_clients.specs.declared.marks.Marked.{Marked}

-- server s is not marked
abbrev pub IsUnmarked : Marked → ℕ → Type 0
IsUnmarked m s = bit_at m.bits s ≡ 0

-- no message is known of a server that is not marked
abbrev pub KnowsNoOthers : {T A P : Type 0} → Marked → List (Consumer T A P) → Type 0
KnowsNoOthers m ends = (s : ℕ) → s < 64 → IsUnmarked m s → get_or (map known_items ends) s [] ≡ []
