-- What is told of a server that a plan does not take.
use Rattle.std.specs.Prelude.{◌≡◌, List, ◌++◌, codes, Option, IfSome, ℕ, ◌⊎◌, decimal, length}
use Rattle.cbsrun_faults.specs.Spots.{label_of}
use Rattle.cbsrun_faults.specs.declared.spot.Spot.{Spot}
use Rattle.cbsrun_toml_tables.specs.Faults.{place_text}
use Rattle.cbsrun_toml_tables.specs.declared.fault.Place.{Place}
use Rattle.toml.specs.Data.{Data, Members}
use Rattle.cbs_rate.specs.Limits.{greatest_common_multiple, most_servers}
use Rattle.cbs_rate.specs.Plan.{common_multiple, with_rate}
use Rattle.cbs_rate.specs.declared.error.AdmitError.{AdmitError}
use Rattle.cbs_rate.specs.declared.error.AdmitError.TheVariants.{TooManyServers, PeriodsTooFine, OverBound}
use Rattle.cbsrun_faults.specs.Refused.{IsRefusedAt}
use Rattle.cbsrun_faults.specs.declared.refused.Refused.{Refused}
use Rattle.cbsrun_refusal_texts.specs.Over.{IsOverText}
use Rattle.cbsrun_refusal_texts.specs.Pages.{PageText, AppendsA, IsNote, bar, marked_line, printable}

-- the end of a line, and a line with the file, the place in it, and what is written beside that, if it is known
pub record IsPlaceLine (file : List ℕ) (place : Place) (beside : Option (List ℕ)) (text : List ℕ) : Type 0 where
  pub label : List ℕ
  pub known : IfSome beside (λ known. label ≡ known)
  pub bytes : text ≡ codes "\n  --> " ++ printable file ++ codes ": " ++ place_text place ++ label ++ codes "\n"

-- the line of this spot
abbrev pub IsSpotLine : Spot → List ℕ → Type 0
IsSpotLine spot = IsPlaceLine spot.document.name.now spot.place (label_of spot)

-- ---- Too many servers

-- how many servers there are, and how many there may be
unfoldable pub too_many_line : ℕ → List ℕ
too_many_line count = codes "error: there are " ++ decimal count ++ codes " servers, and there may be at most " ++ decimal most_servers

-- the words on who serves the others
abbrev pub others_words : List ℕ
others_words = codes "an executor has at most " ++ decimal most_servers ++ codes " servers: take a second one for the others"

-- the explanation of more servers than there may be, with a help
pub record IsTooManyText (IsPlace : List ℕ → Type 0) (entries : List Data) (text : List ℕ) : Type 0 where
  pub place : List ℕ
  pub help : List ℕ
  pub is_place : IsPlace place
  pub is_help : IsNote 2 (codes "help") others_words help
  pub bytes : text ≡ too_many_line (length entries) ++ place ++ bar 2 ++ help

-- ---- Periods that are too fine

-- the first line: after how many ticks the periods come together with this server, and how many are allowed
unfoldable pub too_fine_line : ℕ → ℕ → List ℕ
too_fine_line server ticks =
    codes "error: with server " ++ decimal server ++ codes " the periods come together every " ++ decimal ticks ++ codes " ticks only, and at most "
    ++ decimal greatest_common_multiple ++ codes " are allowed"

-- the line of a period, with carets below its digits, and a bar
unfoldable pub period_lines : ℕ → List ℕ
period_lines period = marked_line (codes "  ") (codes "period = " ++ decimal period) 9 (length (decimal period)) ++ codes "\n" ++ bar 2

-- the words on how often the periods of the servers before come together
abbrev pub before_words : ℕ → List ℕ
before_words ticks = codes "the periods of the servers before it come together every " ++ decimal ticks ++ codes " ticks"

abbrev pub coarser_words : List ℕ
coarser_words = codes "take a period that shares more factors with the others, as 10 with 20"

-- the lines on the period of a server, a note on those before it, and a help
pub record IsPeriodText (refused : Refused) (text : List ℕ) : Type 0 where
  pub note : List ℕ
  pub help : List ℕ
  pub is_note : IsNote 2 (codes "note") (before_words (common_multiple refused.plan.rates)) note
  pub is_help : IsNote 2 (codes "help") coarser_words help
  pub bytes : text ≡ period_lines refused.reservation.period ++ note ++ help

-- the explanation of a server that makes the periods too fine
pub record IsTooFineText (IsPlace : List ℕ → Type 0) (refused : Refused) (text : List ℕ) : Type 0 where
  pub place : List ℕ
  pub rest : List ℕ
  pub is_place : IsPlace place
  pub on_period : IsPeriodText refused rest
  pub bytes : text ≡
      too_fine_line refused.number (common_multiple (with_rate refused.plan refused.reservation).rates) ++ place ++ rest

-- ---- All reasons

-- the explanation of a server that is refused for this reason
abbrev pub IsRefusalText : AdmitError → (List ℕ → Type 0) → List Data → Refused → List ℕ → Type 0
IsRefusalText TooManyServers IsPlace entries refused = IsTooManyText IsPlace entries
IsRefusalText PeriodsTooFine IsPlace entries refused = IsTooFineText IsPlace refused
IsRefusalText OverBound IsPlace entries refused = IsOverText IsPlace entries refused

-- the plan of the servers before this one does not refuse it
abbrev pub IsNotRefusedAt : Members → List Data → ℕ → Type 0
IsNotRefusedAt top entries server = (refused : Refused) → ¬ (IsRefusedAt top entries server refused)

-- the text tells why the plan of the servers before this one refuses it
pub record TellsRefusal (IsPlace : List ℕ → Type 0) (top : Members) (entries : List Data) (server : ℕ) (text : List ℕ) : Type 0 where
  pub refused : Refused
  pub is_refused : IsRefusedAt top entries server refused
  pub told : IsRefusalText refused.why IsPlace entries refused text

-- such a text was appended, or the server is not refused
abbrev pub AppendsRefusal : (List ℕ → Type 0) → Members → List Data → ℕ → PageText → PageText → Type 0
AppendsRefusal IsPlace top entries server old new =
    IsNotRefusedAt top entries server ⊎ AppendsA (TellsRefusal IsPlace top entries server) old new
