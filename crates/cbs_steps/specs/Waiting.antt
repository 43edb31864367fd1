-- How long servers wait for replenishment, and how long no server will be ready. An executor uses these definitions;
-- public contracts speak of quiet advances.
use Rattle.std.specs.Prelude.{◌≡◌, ◌≤◌, ◌-◌, ℕ, true, false, ◌&&◌, min, max, if◌then◌else◌, List, [], ◌∷◌}
use Rattle.std.specs.List.{AllByRecursion}
use Rattle.cbs_rules.specs.Rules.{clock_end}
use Rattle.cbs_steps.specs.Faces.{Face, is_active, is_ready}

-- the greatest tick that is kept, later than the clock's end
abbrev pub most : ℕ
most = 18446744073709551615

-- the server is not due for replenishment before a tick
abbrev pub IsNotDueBefore : ℕ → Face → Type 0
IsNotDueBefore tick f = f.state.throttled ≡ true → tick ≤ f.state.deadline

-- no server is due for replenishment before a tick
abbrev pub NoneDueBefore : ℕ → List Face → Type 0
NoneDueBefore tick faces = AllByRecursion (IsNotDueBefore tick) faces

-- the tick at which a throttled server with a job is ready again; the greatest tick if the server is no such server
abbrev pub wake : Face → ℕ
wake f = if f.state.throttled && is_active f then min most f.state.deadline else most

-- the least such tick of all servers
abbrev pub wake_of : List Face → ℕ
wake_of [] = most
wake_of (f ∷ fs) = min (wake f) (wake_of fs)

-- no server is ready
abbrev pub NoneReady : List Face → Type 0
NoneReady faces = AllByRecursion (λ f. is_ready f ≡ false) faces

-- For how many ticks no server will be ready, if none is now. They last until the first waiting server is due, but at
-- least one tick, and at most up to the clock's end
abbrev pub span_of : ℕ → List Face → ℕ
span_of now faces = min (clock_end - now) (max 1 (wake_of faces - now))
