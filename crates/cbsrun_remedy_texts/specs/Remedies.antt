-- What would do for a server whose jobs are not promised in time, as text.
use Rattle.std.specs.Prelude.{ℕ, leb, if◌then◌else◌, List, [], ◌++◌, codes, decimal, Option, Some, None}
use Rattle.cbsrun_proposals.specs.declared.remedy.Proposal.{Proposal}
use Rattle.cbsrun_proposals.specs.declared.remedy.Remedy.{Remedy}
use Rattle.cbsrun_time_texts.specs.Texts.{time_text}

-- a backlog that would do, if there is one
unfoldable pub backlog_text : Option ℕ → List ℕ
backlog_text None = []
backlog_text (Some n) = codes "      a backlog of " ++ decimal n ++ codes " would do\n"

-- whether a budget fits, if there is room for so much at its period
unfoldable pub fit_text : Option ℕ → ℕ → ℕ → List ℕ
fit_text tick budget room =
    if leb budget room then codes ", and fits\n" else codes ", but at most " ++ time_text tick room ++ codes " fits\n"

-- the `within` that a source has to say besides, if there is one
unfoldable pub kept_text : Option ℕ → Option ℕ → List ℕ
kept_text tick None = []
kept_text tick (Some within) = codes ", with within = " ++ time_text tick within ++ codes ","

-- a budget in every period, and what has to be said besides
unfoldable pub proposal_text : Option ℕ → Proposal → Option ℕ → List ℕ
proposal_text tick r kept = codes "      " ++ time_text tick r.budget ++ codes " in every " ++ time_text tick r.period ++ kept_text tick kept

-- that no reservation was found, or that none would do, since the others may delay the jobs for longer than is wanted
unfoldable pub none_text : Option ℕ → Option ℕ → List ℕ
none_text tick None = codes "      no reservation that was tried would do\n"
none_text tick (Some delay) = codes "      no reservation would do: units of others may delay it by " ++ time_text tick delay ++ codes "\n"

-- a reservation that would do, and whether it fits
unfoldable pub found_text : Option ℕ → Proposal → Option ℕ → ℕ → List ℕ
found_text tick r kept room = proposal_text tick r kept ++ codes " would do" ++ fit_text tick r.budget room

-- .. or that there is none
abbrev pub reservation_text : Option ℕ → Remedy → Option ℕ → ℕ → List ℕ
reservation_text tick m kept room = elim m.reservation [ None ↦ none_text tick m.delayed | Some r ↦ found_text tick r kept room ]

-- what would do: a backlog, if one does, and a reservation, or that there is none
unfoldable pub remedy_text : Option ℕ → Remedy → Option ℕ → ℕ → List ℕ
remedy_text tick m kept room = backlog_text m.backlog ++ reservation_text tick m kept room
