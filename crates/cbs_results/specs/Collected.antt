-- What a collector holds.
use Rattle.std.specs.Prelude.{Bool, true, false, ℕ, ◌≡◌, ◌≢◌, ◌+◌, ◌<◌, ◌≤◌, ◌⊎◌, ◌||◌, leb, ltb, if◌then◌else◌, List, [], ◌∷◌, ◌++◌, length, get_or, Option, Some, None, Result}
use Rattle.std.specs.Result.{MatchResult}
use Rattle.cbs_job.specs.declared.completion.Completion.{Completion}
use Rattle.cbs_results.specs.declared.error.CollectError.{CollectError}
use Rattle.cbs_results.specs.declared.error.CollectError.TheVariants.{Stranger, Double, Early, OutOfMemory}

-- What a collector holds of one server: how many results were handed out, and the results kept, which were taken after
-- those, in order. Then how many completions were announced, and how many more can be announced without an allocation.
-- Last, whether a result was taken that is one of a job that ended early
pub record Shelved : Type 0 where
  pub handed : ℕ
  pub results : List ℕ
  pub announced : ℕ
  pub spare : ℕ
  pub early : Bool

-- what is held of a server before its first result, and if there is no such server
abbrev pub no_shelf : Shelved
no_shelf = record { handed = 0; results = []; announced = 0; spare = 0; early = false }

-- what is held of server s
abbrev pub shelf_at : List Shelved → ℕ → Shelved
shelf_at c s = get_or c s no_shelf

-- how many results were taken: those handed out, and those kept
abbrev pub taken : Shelved → ℕ
taken h = h.handed + length h.results

-- results and announcements of a server are as before, and if one more could be announced without an allocation, it
-- still can
pub record SameShelf (old new : Shelved) : Type 0 where
  pub handed : new.handed ≡ old.handed
  pub results : new.results ≡ old.results
  pub announced : new.announced ≡ old.announced
  pub spare : 0 < old.spare → 0 < new.spare
  pub early : new.early ≡ old.early

-- results and announcements of every server but s are as before
abbrev pub OtherShelvesSame : ℕ → List Shelved → List Shelved → Type 0
OtherShelvesSame s old new = (t : ℕ) → t ≢ s → SameShelf (shelf_at old t) (shelf_at new t)

-- results and announcements of every server are as before
abbrev pub AllShelvesSame : List Shelved → List Shelved → Type 0
AllShelvesSame old new = (t : ℕ) → SameShelf (shelf_at old t) (shelf_at new t)

-- server s is there; or the call refuses, since it is not there, or since memory was refused
abbrev pub NeedsServer : {T : Type 0} → List Shelved → ℕ → Result T CollectError → Type 0
NeedsServer c s result = MatchResult result (λ _. s < length c)
    (λ e. ((e ≡ Stranger) × (length c ≤ s)) ⊎ ((e ≡ OutOfMemory) × (s < length c)))

-- one more completion was announced
pub record Announces (old new : Shelved) : Type 0 where
  pub handed : new.handed ≡ old.handed
  pub results : new.results ≡ old.results
  pub announced : new.announced ≡ old.announced + 1
  pub early : new.early ≡ old.early

-- a result was put after the others, and if one more could be announced without an allocation, it still can
pub record TakesResult (result : ℕ) (old new : Shelved) : Type 0 where
  pub handed : new.handed ≡ old.handed
  pub results : new.results ≡ old.results ++ result ∷ []
  pub announced : new.announced ≡ old.announced
  pub spare : 0 < old.spare → 0 < new.spare
  pub early : new.early ≡ old.early

-- the same of the result of a job that ended early
pub record TakesEarly (result : ℕ) (old new : Shelved) : Type 0 where
  pub handed : new.handed ≡ old.handed
  pub results : new.results ≡ old.results ++ result ∷ []
  pub announced : new.announced ≡ old.announced
  pub spare : 0 < old.spare → 0 < new.spare
  pub early : new.early ≡ true

-- the results were handed out: none of them is kept, and all are counted
pub record HandsOut (old new : Shelved) : Type 0 where
  pub handed : new.handed ≡ taken old
  pub results : new.results ≡ []
  pub announced : new.announced ≡ old.announced
  pub early : new.early ≡ old.early

-- a completion was announced and not taken
abbrev pub IsWaiting : Shelved → Type 0
IsWaiting h = taken h < h.announced

-- every completion that was announced was taken
abbrev pub IsComplete : Shelved → Type 0
IsComplete h = h.announced ≡ taken h

-- the completion is the next one: its server is known, its number is the number of results taken so far, and it was
-- announced
pub record IsNext (c : List Shelved) (done : Completion) : Type 0 where
  pub known : done.server < length c
  pub number : done.seq ≡ taken (shelf_at c done.server)
  pub announced : done.seq < (shelf_at c done.server).announced

-- why a completion of job seq is refused, if it is, by what is held of its server
abbrev pub shelf_refusal : Shelved → ℕ → Option CollectError
shelf_refusal h seq =
    if ltb seq (taken h) then Some Double
    else if ltb (taken h) seq || leb h.announced seq then Some Early
    else None

-- why a completion is refused, if it is
abbrev pub take_refusal : List Shelved → Completion → Option CollectError
take_refusal c done = if leb (length c) done.server then Some Stranger else shelf_refusal (shelf_at c done.server) done.seq
