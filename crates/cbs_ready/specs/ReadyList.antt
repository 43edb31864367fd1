-- The list of the ready servers.
use Rattle.std.specs.Prelude.{◌≡◌, ◌≢◌, ◌≤◌, ℕ, suc, Bool, true, ◌&&◌, ◌||◌, eqb, ltb, if◌then◌else◌, List, [], ◌∷◌, ◌++◌, length, take, drop, Option, Some, None}
use Rattle.std.specs.List.{AllByRecursion, insert}
use Rattle.cbs_ready.specs.declared.entries.Entry.{Entry}

-- whether entry a comes before entry b: by deadline, and of equal deadlines by number
abbrev pub is_ahead : Entry → Entry → Bool
is_ahead a b = ltb a.deadline b.deadline || (eqb a.deadline b.deadline && ltb a.server b.server)

-- the deadline with which server s is listed, if it is
abbrev pub listed : List Entry → ℕ → Option ℕ
listed [] s = None
listed (e ∷ es) s = if eqb e.server s then Some e.deadline else listed es s

-- the server of the first entry
abbrev pub first_of : List Entry → Option ℕ
first_of [] = None
first_of (e ∷ es) = Some e.server

-- the list with one more entry, which stands before the first entry that it comes before
abbrev pub entered : Entry → List Entry → List Entry
entered x [] = x ∷ []
entered x (e ∷ es) = if is_ahead x e then x ∷ e ∷ es else e ∷ entered x es

-- the list without the entry of server s
abbrev pub without : ℕ → List Entry → List Entry
without s [] = []
without s (e ∷ es) = if eqb e.server s then es else e ∷ without s es

-- the entry of server s stands at this place, or no entry is of server s, and the place is after the last
pub record IsPlaceOf (s : ℕ) (es : List Entry) (place : ℕ) : Type 0 where
  pub within : place ≤ length es
  pub rest : without s es ≡ take place es ++ drop (suc place) es

-- entry a comes before entry b, and is another server's
pub record IsApart (a b : Entry) : Type 0 where
  pub ahead : is_ahead a b ≡ true
  pub other : a.server ≢ b.server

-- each entry comes before each later one, and no server is listed twice
abbrev pub IsOrdered : List Entry → Type 0
IsOrdered [] = Unit {0}
IsOrdered (e ∷ es) = AllByRecursion (IsApart e) es × IsOrdered es

-- Entry x is on its way from the back of a list to its place. The slot at this place is free, and the entries from
-- there on come after x and stand one slot further back.
pub record IsMoved (x : Entry) (es slots : List Entry) (place : ℕ) : Type 0 where
  pub within : place ≤ length es
  pub moved : (free : Entry) × (slots ≡ insert es place free)
  pub behind : AllByRecursion (λ e. is_ahead x e ≡ true) (drop place es)
