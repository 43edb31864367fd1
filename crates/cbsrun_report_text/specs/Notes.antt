-- The verdict of a report, and the notes below its tables.
use Rattle.std.specs.List.{fold}
use Rattle.std.specs.Prelude.{ℕ, Bool, ◌&&◌, bytes_eq, eqb, not, if◌then◌else◌, List, [], ◌∷◌, ◌++◌, codes, decimal, filter, length, string_bytes, ◌+◌, ◌*◌, ◌||◌, ltb}
use Rattle.std.specs.Prelude.{slice_get, Option, Some, None}
use Rattle.cbsrun_figures.specs.declared.figures.Figures.{Figures}
use Rattle.cbsrun_report_text.specs.Reports.{accepted, released, late, is_in_time, sum_of}
use Rattle.cbsrun_report_text.specs.declared.report.ServerReport.{ServerReport}
use Rattle.std.specs.Int.{div_ceil}
use Rattle.cbsrun_remedy_texts.specs.Remedies.{remedy_text}
use Rattle.cbsrun_sizing.specs.declared.server_load.ServerLoad.{ServerLoad}
use Rattle.cbsrun_time_texts.specs.Texts.{time_text}
use Rattle.cbsrun_report_text.specs.Numbers.{great_text, percent_text}

-- a job of the server is late or was refused
abbrev pub is_wrong : ServerReport → Bool
is_wrong s = not (is_in_time s.figures)

-- the servers with a job that is late or was refused
abbrev pub not_in_time : List ServerReport → List ServerReport
not_in_time servers = filter is_wrong servers

-- how many of the accepted jobs are late
abbrev pub late_text : Figures → List ℕ
late_text f = decimal (late f) ++ codes " of " ++ decimal (accepted f) ++ codes " jobs late"

-- how many of the jobs that came were refused
abbrev pub refused_text : Figures → List ℕ
refused_text f = decimal f.refused ++ codes " of " ++ decimal (released f) ++ codes " refused"

-- what is wrong with a server: late jobs, refused jobs, or both
abbrev pub wrong_text : Figures → List ℕ
wrong_text f =
    if eqb f.refused 0 then late_text f
    else if eqb (late f) 0 then refused_text f
    else late_text f ++ codes ", " ++ refused_text f

-- how many more servers there are
abbrev pub others_text : ℕ → List ℕ
others_text n =
    if eqb n 0 then []
    else if eqb n 1 then codes ", and 1 server more"
    else codes ", and " ++ decimal n ++ codes " servers more"

-- a server that is not in time, with what is wrong with it, and how many more such servers there are
abbrev pub server_text : ServerReport → ℕ → List ℕ
server_text s others = codes "not in time: " ++ string_bytes s.name ++ codes ": " ++ wrong_text s.figures ++ others_text others

-- the first of the servers that are not in time, or that there is none
abbrev pub first_text : ℕ → List ServerReport → List ℕ
first_text jobs [] = codes "in time: no job late, none refused, of " ++ decimal jobs
first_text jobs (s ∷ others) = server_text s (length others)

-- the verdict: all jobs are in time, or the first server with a job that is late or was refused
unfoldable pub verdict_text : List ServerReport → List ℕ
verdict_text servers = first_text (sum_of released servers) (not_in_time servers) ++ codes "\n"

-- how many ticks a server was asked for: the units of its jobs, and the ticks that it was charged
abbrev pub wanted : ServerReport → ℕ
wanted s = s.figures.asked + s.figures.charged

-- what share of the time a server was asked for, and what share it has
abbrev pub asked_text : ℕ → ServerReport → List ℕ
asked_text clock s =
    codes "note: " ++ string_bytes s.name ++ codes " asked for " ++ percent_text (wanted s) clock ++ codes " of the time and has "
    ++ percent_text s.reservation.budget s.reservation.period ++ codes " reserved\n"

-- the least budget in every period that gives this many ticks up to the clock, if there is one. If the clock is 0 there
-- is none
abbrev pub cover_of : ℕ → ℕ → ℕ → Option ℕ
cover_of ticks period clock =
    if eqb clock 0 || ltb period (div_ceil (ticks * period) clock) then None else Some (div_ceil (ticks * period) clock)

-- the budget that covers what was asked for, or that no budget covers it
abbrev pub cover_text : Option ℕ → Option ℕ → ℕ → List ℕ
cover_text tick None period = codes "      no budget covers that\n"
cover_text tick (Some budget) period =
    codes "      " ++ great_text tick budget ++ codes " in every " ++ time_text tick period ++ codes " would cover it; 'cbsrun check' says what fits\n"

-- how many ticks a server was charged, if there is one
abbrev pub charged_to : Option ServerReport → ℕ
charged_to None = 0
charged_to (Some o) = o.figures.charged

-- the server was charged more than another one so far, and is not s
abbrev pub delays_more : ServerReport → Option ServerReport → ServerReport → Bool
delays_more s so_far o = not (bytes_eq (string_bytes o.name) (string_bytes s.name)) && ltb (charged_to so_far) o.figures.charged

-- the one of these servers, other than s, that was charged most, if one was charged; of two that were charged as much, the
-- first
abbrev pub delaying : ServerReport → List ServerReport → Option ServerReport
delaying s servers = fold (λ so_far o. if delays_more s so_far o then Some o else so_far) None servers

-- how a server of this name, whose greatest charge is so many ticks, may have delayed another
unfoldable pub delay_text : Option ℕ → List ℕ → ℕ → List ℕ
delay_text tick name ticks = codes "units of " ++ name ++ codes " overran by up to " ++ time_text tick ticks

-- .. if there is such a server
unfoldable pub delay_if : Option ℕ → Option ServerReport → List ℕ
delay_if tick None = []
delay_if tick (Some o) = delay_text tick (string_bytes o.name) o.figures.greatest_charge ++ codes ", "

-- why the jobs of a server are late or refused, although the server has enough. If another server was charged, that may be
-- why
unfoldable pub enough_text : Option ℕ → Option ServerReport → List ℕ
enough_text tick other =
    codes "      that is enough: " ++ delay_if tick other ++ codes "its jobs come in bursts, or less time is wanted than they take\n"

-- what would do, as `check` tells it, if something is needed
abbrev pub would_do_text : Option ℕ → ServerLoad → List ℕ
would_do_text tick l = elim l.remedy [ None ↦ [] | Some m ↦ remedy_text tick m l.kept l.room ]

-- .. of a server of a load
abbrev pub load_text : Option ℕ → Option ServerLoad → List ℕ
load_text tick None = []
load_text tick (Some l) = would_do_text tick l

-- what would do for a server that was asked for more than it has: of a server of a load what `check` tells, and of one of a
-- task file which budget would cover what it was asked for
abbrev pub short_text : Option ℕ → Option ℕ → ℕ → Option ServerLoad → List ℕ
short_text tick cover period None = cover_text tick cover period
short_text tick cover period (Some l) = would_do_text tick l

-- why a server is not in time although it has enough, or else nothing; and what would do
abbrev pub advice_text : Option ℕ → ℕ → List ServerReport → ServerReport → Option ServerLoad → List ℕ
advice_text tick clock servers s load =
    if ltb (s.reservation.budget * clock) (wanted s * s.reservation.period)
    then short_text tick (cover_of (wanted s) s.reservation.period clock) s.reservation.period load
    else enough_text tick (delaying s servers) ++ load_text tick load

-- the note of one of these servers that is not in time. What `check` tells of it is known if it is a server of a load
unfoldable pub note_text : Option ℕ → ℕ → List ServerReport → ServerReport → Option ServerLoad → List ℕ
note_text tick clock servers s load = asked_text clock s ++ advice_text tick clock servers s load

-- the note of a server, if it is not in time
abbrev pub note_if_wrong : Option ℕ → ℕ → List ServerReport → ServerReport → Option ServerLoad → List ℕ
note_if_wrong tick clock servers s load = if is_wrong s then note_text tick clock servers s load else []

-- the notes of the servers `rest`, the first of which is number n of all these servers
unfoldable pub notes_from : Option ℕ → ℕ → List ServerReport → List ServerLoad → ℕ → List ServerReport → List ℕ
notes_from tick clock servers loads n [] = []
notes_from tick clock servers loads n (s ∷ rest) =
    note_if_wrong tick clock servers s (slice_get loads n) ++ notes_from tick clock servers loads (n + 1) rest

-- an empty line and the notes of the servers that are not in time, if there are any. `loads` has what `check` tells of each
-- server of a load, and is empty for a task file
abbrev pub notes_text : Option ℕ → ℕ → List ServerReport → List ServerLoad → List ServerReport → List ℕ
notes_text tick clock servers loads [] = []
notes_text tick clock servers loads (s ∷ wrong) = codes "\n" ++ notes_from tick clock servers loads 0 servers
