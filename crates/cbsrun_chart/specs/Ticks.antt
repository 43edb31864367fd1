-- What a server does in one tick, by its steps and by what it shows after them. The steps stand with the newest first.
use Rattle.std.specs.Prelude.{ℕ, ◌≤◌, Bool, false, ◌&&◌, ◌||◌, leb, ltb, if◌then◌else◌, List, [], ◌∷◌, Option, Some, None}
use Rattle.cbs_steps.specs.declared.view.ServerView.{ServerView}
use Rattle.cbsrun_events.specs.Events.{begun}
use Rattle.cbsrun_events.specs.declared.seen.Seen.{Seen}
use Rattle.cbsrun_window.specs.Stretches.{same_kind}
use Rattle.cbsrun_window.specs.declared.stretch.Kind.{Kind}
use Rattle.cbsrun_window.specs.declared.stretch.Kind.TheVariants as kind
use Rattle.cbsrun_chart.specs.Rows.{at_start, came_of, has_job, kind_of}

-- a job came at tick t or before, if one came
abbrev pub has_come : Option ℕ → ℕ → Bool
has_come None t = false
has_come (Some came) t = leb came t

-- what a server with this view does in tick t, if it makes no step, by when the job came that its next step accepts. It
-- is throttled until its deadline, with a job or with none. Otherwise it waits, if it has a job, and else it does nothing
abbrev pub kind_shown : ServerView → Option ℕ → ℕ → Option Kind
kind_shown v came t =
    if v.throttled && ltb t v.deadline then Some (if has_job v || has_come came t then kind.Throttled else kind.Resting)
    else if has_job v || has_come came t then Some kind.Waits
    else None

-- the same of a server that may show nothing
abbrev pub kind_between : Option ServerView → Option ℕ → ℕ → Option Kind
kind_between None came t = None
kind_between (Some v) came t = kind_shown v came t

-- what a server does in tick t, by when the job came that its step after these accepts. Its step that takes the tick is
-- a unit or a charge. If no step takes it, what counts is what the server shows after its last step before, and whether
-- the job came that its next one accepts
abbrev pub kind_before : Option ℕ → ℕ → List Seen → Option Kind
kind_before came t [] = kind_shown at_start.view came t
kind_before came t (o ∷ own) =
    if ltb t (begun o) then kind_before (came_of o.event) t own
    else if ltb t o.clock then Some (kind_of o.event)
    else kind_between o.view came t

-- the same, if no step comes after these
abbrev pub kind_at : ℕ → List Seen → Option Kind
kind_at t own = kind_before None t own

-- it does this
abbrev pub is_kind : Kind → Option Kind → Bool
is_kind k None = false
is_kind k (Some does) = same_kind does k

-- the steps took their ticks one after another, up to a tick: each ended when the next one began, or before
abbrev pub AreInTurn : ℕ → List Seen → Type 0
AreInTurn to [] = Unit {0}
AreInTurn to (o ∷ own) = AreInTurn (begun o) own × (o.clock ≤ to)
