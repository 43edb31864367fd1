-- What the view keeps: the jobs of each server. For the code alone.
use Rattle.std.specs.Prelude.{ℕ, ltb, if◌then◌else◌, List, [], ◌∷◌, get_or, length, replicate, set, Option, Some, None}
use Rattle.cbsrun_events.specs.Events.{server_of}
use Rattle.cbsrun_events.specs.declared.seen.Seen.{Seen}
use Rattle.cbsrun_csv.specs.Jobs.{JobsSeen, jobs_after, no_jobs}
use Rattle.cbsrun_csv.specs.Lines.{server_lines}

-- the jobs of server s
abbrev pub jobs_at : List JobsSeen → ℕ → JobsSeen
jobs_at kept s = get_or kept s no_jobs

-- what is kept after one more step, of server s or of none
abbrev pub kept_with : Option ℕ → Seen → List JobsSeen → List JobsSeen
kept_with None o kept = kept
kept_with (Some s) o kept = if ltb s (length kept) then set kept s (jobs_after o.clock o.event (jobs_at kept s)) else kept

-- what is kept after all steps, the newest first
abbrev pub kept_seen : List JobsSeen → List Seen → List JobsSeen
kept_seen first [] = first
kept_seen first (o ∷ seen) = kept_with (server_of o.event) o (kept_seen first seen)

-- what is kept of this many servers before the first step
abbrev pub new_kept : ℕ → List JobsSeen
new_kept count = replicate count no_jobs

-- the lines of server s, of what is kept
abbrev pub kept_lines : List (List ℕ) → ℕ → List JobsSeen → ℕ → List ℕ
kept_lines names end kept s = server_lines (get_or names s []) end (jobs_at kept s)
