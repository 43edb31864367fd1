-- When each of several sources releases next, and which of them releases first.
use Rattle.std.specs.Prelude.{◌≡◌, ℕ, ◌+◌, ◌*◌, ◌/◌, ◌≤◌, ◌<◌, ◌≢◌, Bool, ◌&&◌, ◌||◌, eqb, ltb, if◌then◌else◌}
use Rattle.std.specs.Prelude.{List, [], length, slice_get, get_or, Option, Some, None}
use Rattle.cbs_rules.specs.Rules.{clock_end}
use Rattle.cbsrun_simulate.specs.declared.release.Release.{Release}
use Rattle.cbsrun_simulate.specs.declared.turns.Turn.{Turn}

-- the tick of a source that releases nothing more, later than any release
abbrev pub never : ℕ
never = 18446744073709551615

-- the turn of the source at a place, by the release that comes next from it
abbrev pub turn_of : ℕ → Option Release → Turn
turn_of place None = record { tick = never; place = place }
turn_of place (Some r) = record { tick = r.tick; place = place }

-- the tick of the release that a turn is of, if it is of one
abbrev pub due_of : Turn → Option ℕ
due_of turn = if ltb turn.tick never then Some turn.tick else None

-- one turn comes before another: at an earlier tick, or at the same tick from a lower place
abbrev pub is_before : Turn → Turn → Bool
is_before a b = ltb a.tick b.tick || (eqb a.tick b.tick && ltb a.place b.place)

-- the first of two turns
abbrev pub first_of : Turn → Turn → Turn
first_of a b = if is_before b a then b else a

-- a node of a tree of turns
abbrev pub node : List Turn → ℕ → Turn
node nodes k = get_or nodes k (turn_of 0 None)

-- a tree of turns has an even number of nodes, and the leaves are the second half of them. Nodes 2 k and 2 k + 1 lie below
-- node k, which has the first of their turns. So node 1 has the first of all turns
pub record IsTree (nodes : List Turn) : Type 0 where
  pub even : length nodes ≡ length nodes / 2 * 2
  pub first : (k : ℕ) → 0 < k → k < length nodes / 2 → node nodes k ≡ first_of (node nodes (2 * k)) (node nodes (2 * k + 1))

-- the leaf of a place becomes this turn, and the other leaves stay
pub record SetsLeaf (place : ℕ) (turn : Turn) (old new : List Turn) : Type 0 where
  pub size : length new ≡ length old
  pub leaf : node new (length old / 2 + place) ≡ turn
  pub others : (k : ℕ) → length old / 2 ≤ k → k ≢ length old / 2 + place → node new k ≡ node old k

-- the release that comes next from the source at a place
abbrev pub next_of : List (List Release) → ℕ → Option Release
next_of rss place = slice_get (get_or rss place []) 0

-- the leaves of the first so many places are the turns of the sources, each of which releases before the clock's end
pub record HasTurns (count : ℕ) (rss : List (List Release)) (nodes : List Turn) : Type 0 where
  pub size : length nodes ≡ length rss * 2
  pub leaves : (i : ℕ) → i < count → node nodes (length rss + i) ≡ turn_of i (next_of rss i)
  pub early : (i : ℕ) (r : Release) → i < count → next_of rss i ≡ Some r → r.tick < clock_end
