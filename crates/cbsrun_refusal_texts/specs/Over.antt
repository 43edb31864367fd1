-- What is told of a server that takes a plan over its bound: by how much, and what would fit.
use Rattle.std.specs.Prelude.{◌≡◌, ℕ, ◌+◌, ◌*◌, ◌^◌, ◌<◌, ◌≤◌, zero, suc, ◌-◌, ◌⊎◌, eqb, if◌then◌else◌, List, [], ◌∷◌, ◌++◌, codes, decimal, length, max, Option}
use Rattle.std.specs.Prelude.{Some, None}
use Rattle.std.specs.Int.{◌∣◌}
use Rattle.cbs_rate.specs.declared.ratio.Ratio.{Ratio}
use Rattle.toml.specs.Data.{Data}
use Rattle.cbs_rate.specs.Bound.{Fraction}
use Rattle.cbs_rate.specs.Rate.{Rate}
use Rattle.cbs_rate.specs.Plan.{Planned, IsGreatestBudget, common_multiple, with_rate}
use Rattle.cbs_rate.specs.Room.{IsBandwidth, IsExcess, IsLeastPeriod}
use Rattle.cbsrun_sizing.specs.Budgets.{reserved}
use Rattle.cbs_guarantee.specs.Parts.{AreParts, IsSplitReason}
use Rattle.cbs_guarantee.specs.declared.parts.Part.{Part}
use Rattle.cbs_guarantee.specs.declared.parts.SplitError.TheVariants as error
use Rattle.cbsrun_check_text.specs.Fractions.{fraction_text, percent_text}
use Rattle.cbsrun_time_texts.specs.Texts.{time_text}
use Rattle.cbsrun_faults.specs.Documents.{name_at}
use Rattle.cbsrun_faults.specs.Refused.{AreReservations}
use Rattle.cbsrun_faults.specs.declared.refused.Refused.{Refused}
use Rattle.cbsrun_refusal_texts.specs.declared.over.Columns.{Columns}
use Rattle.cbsrun_refusal_texts.specs.Pages.{IsNote, bar, left_in, right_in, printable}

-- a fraction whose numbers are not too great to be written in per cent
pub record IsShare (r : Ratio) : Type 0 where
  pub some : 0 < r.whole
  pub small : r.part + r.whole < 2 ^ 112

-- the share of a reservation: its budget and its period are below 2^64
pub record IsShort (r : Ratio) : Type 0 where
  pub some : 0 < r.whole
  pub budget : r.part < 2 ^ 64
  pub period : r.whole < 2 ^ 64

-- The same fraction, shortened: its numbers times `divisor` are those of the other. No number times the other is whole
-- and below its whole
pub record IsShortened (r shortest : Ratio) : Type 0 where
  pub divisor : ℕ
  pub part : divisor * shortest.part ≡ r.part
  pub whole : divisor * shortest.whole ≡ r.whole
  pub least : (n : ℕ) → 0 < n → r.whole ∣ n * r.part → shortest.whole ≤ n

-- ---- The sum

-- the first line: the share of all servers with this one, and the bound
unfoldable pub over_line : Ratio → ℕ → Fraction → List ℕ
over_line total server bound =
    codes "error: over the bound: " ++ fraction_text total.part total.whole ++ codes " of the time with server " ++ decimal server
    ++ codes ", and the bound is " ++ fraction_text bound.num bound.den

-- a row in columns: a label, a share as a fraction and in per cent, and the end of the row
unfoldable pub row : Columns → List ℕ → ℕ → ℕ → List ℕ → List ℕ
row columns label part whole end =
    codes "   | " ++ left_in columns.label label ++ codes "  " ++ right_in columns.fraction (fraction_text part whole) ++ codes "  "
    ++ right_in 7 (percent_text part whole) ++ end ++ codes "\n"

-- the label of the servers before this one
abbrev pub before_label : ℕ → List ℕ
before_label server = if eqb server 1 then codes "server 0" else codes "servers 0 to " ++ decimal (server - 1)

-- the label of this server, by its budget and its period. Times are in milliseconds, if the nanoseconds of a tick are known
abbrev pub own_label : Option ℕ → Ratio → List ℕ
own_label tick own = codes "budget = " ++ time_text tick own.part ++ codes ", period = " ++ time_text tick own.whole

-- how long a fraction is, as it is written
abbrev pub fraction_length : Ratio → ℕ
fraction_length r = length (fraction_text r.part r.whole)

-- the columns of the sum: wide enough for the label of this server, and for each of the fractions
abbrev pub columns_for : Option ℕ → Ratio → Ratio → Ratio → Columns
columns_for tick together own excess = record {
  label = max 24 (length (own_label tick own));
  fraction = max (max (max 10 (fraction_length together)) (fraction_length own)) (fraction_length excess);
}

-- the share of all servers with these rates
abbrev pub share_of : List Rate → Ratio
share_of rates = record { part = reserved rates; whole = common_multiple rates }

-- the row of the servers before this one, which have this share, if there are any
unfoldable pub before_row : Columns → ℕ → Ratio → List ℕ
before_row columns server together =
    if eqb server 0 then [] else row columns (before_label server) together.part together.whole []

-- the row of this server
unfoldable pub own_row : Columns → Option ℕ → Ratio → List ℕ
own_row columns tick own = row columns (own_label tick own) own.part own.whole []

-- the rows, between two bars: the servers before this one, this one, and what is too much
abbrev pub rows_text : Columns → Option ℕ → ℕ → Ratio → Ratio → Ratio → List ℕ
rows_text columns tick server together own excess =
    bar 3 ++ before_row columns server together ++ own_row columns tick own ++ row columns [] excess.part excess.whole (codes "  too much") ++ bar 3

-- the sum in its columns
abbrev pub sum_text : Option ℕ → ℕ → List Rate → Ratio → Ratio → List ℕ
sum_text tick server rates own excess =
    rows_text (columns_for tick (share_of rates) own excess) tick server (share_of rates) own excess

-- ---- The helps

-- a help with these words
abbrev pub IsHelp : List ℕ → List ℕ → Type 0
IsHelp = IsNote 3 (codes "help")

-- a help with words of which this is true
abbrev pub IsHelpThat : (List ℕ → Type 0) → List ℕ → Type 0
IsHelpThat Says text = (words : List ℕ) × Says words × IsHelp words text

-- the words on the greatest budget at a period; 0 if no budget fits
abbrev pub greatest_words : Option ℕ → ℕ → ℕ → List ℕ
greatest_words tick period budget =
    if eqb budget 0 then codes "at period " ++ time_text tick period ++ codes " no budget fits"
    else codes "at period " ++ time_text tick period ++ codes " a budget of " ++ time_text tick budget ++ codes " fits, and no greater one"

-- the words on the least period for a budget
abbrev pub least_words : Option ℕ → ℕ → ℕ → List ℕ
least_words tick budget period = codes "a budget of " ++ time_text tick budget ++ codes " fits at period " ++ time_text tick period

-- the words tell the greatest budget that the plan takes at this period
pub record TellsGreatest (tick : Option ℕ) (plan : Planned) (period : ℕ) (text : List ℕ) : Type 0 where
  pub budget : ℕ
  pub greatest : IsGreatestBudget plan period budget
  pub words : text ≡ greatest_words tick period budget

-- the words tell the least period at which the plan takes this budget
pub record TellsLeast (tick : Option ℕ) (plan : Planned) (budget : ℕ) (text : List ℕ) : Type 0 where
  pub period : ℕ
  pub least : IsLeastPeriod plan budget period
  pub words : text ≡ least_words tick budget period

-- a help tells the least period for this budget; if there is none, there is no help
abbrev pub TellsLeastIfAny : Option ℕ → Planned → ℕ → List ℕ → Type 0
TellsLeastIfAny tick plan budget text =
    (((period : ℕ) → ¬ (IsLeastPeriod plan budget period)) × (text ≡ [])) ⊎ IsHelpThat (TellsLeast tick plan budget) text

-- ---- The split

-- how a server is called, by the entries of `server`: by its name, as a terminal shows it, or by its number if it has none
abbrev pub word_of : ℕ → Option (List ℕ) → List ℕ
word_of server None = codes "server " ++ decimal server
word_of server (Some name) = printable name

abbrev pub server_word : List Data → ℕ → List ℕ
server_word entries server = word_of server (name_at entries server)

-- what stands before the element at this place of a list: a comma, but before the first
abbrev pub separator : ℕ → List ℕ
separator zero = []
separator (suc place) = codes ", "

-- these servers, from this place of a list on, with commas between them
abbrev pub servers_from : List Data → ℕ → List ℕ → List ℕ
servers_from entries place [] = []
servers_from entries place (s ∷ servers) = separator place ++ server_word entries s ++ servers_from entries (place + 1) servers

abbrev pub servers_text : List Data → List ℕ → List ℕ
servers_text entries = servers_from entries 0

-- the line of a part: its number, its servers, and the sum of their rates
unfoldable pub part_line : List Data → ℕ → List ℕ → List Rate → List ℕ
part_line entries number servers rates =
    codes "           " ++ decimal number ++ codes ": " ++ servers_text entries servers ++ codes "  ("
    ++ fraction_text (reserved rates) (common_multiple rates) ++ codes ")\n"

-- the lines of parts that are numbered from `number` on
abbrev pub parts_text : List Data → ℕ → List Part → List ℕ
parts_text entries number [] = []
parts_text entries number (part ∷ parts) =
    part_line entries number part.servers.items part.plan.rates ++ parts_text entries (number + 1) parts

-- the words on how many executors all servers fit
abbrev pub parts_words : ℕ → ℕ → List ℕ
parts_words executors servers = codes "on " ++ decimal executors ++ codes " executors all " ++ decimal servers ++ codes " servers fit:"

-- the words on a server that fits on no executor
abbrev pub alone_words : ℕ → List ℕ
alone_words server = codes "server " ++ decimal server ++ codes " is over the bound even alone"

-- a help and a line for each part
pub record IsPartsText (entries : List Data) (parts : List Part) (text : List ℕ) : Type 0 where
  pub help : List ℕ
  pub is_help : IsHelp (parts_words (length parts) (length entries)) help
  pub bytes : text ≡ help ++ parts_text entries 1 parts

-- the text tells parts of the servers, each of which fits one executor with this bound
pub record TellsParts (bound : Fraction) (rates : List Rate) (entries : List Data) (text : List ℕ) : Type 0 where
  pub parts : List Part
  pub are : AreParts bound rates parts
  pub told : IsPartsText entries parts text

-- the text tells a server that is over this bound even alone
pub record TellsAlone (bound : Fraction) (rates : List Rate) (text : List ℕ) : Type 0 where
  pub server : ℕ
  pub over : IsSplitReason bound rates (error.OverBound server)
  pub told : IsHelp (alone_words server) text

-- the text tells a split of all servers, in a file with this tick, or why there is none; it is empty if an entry spells no reservation
abbrev pub TellsSplit : Option ℕ → Fraction → List Data → List ℕ → Type 0
TellsSplit tick bound entries text =
    (((rates : List Rate) → ¬ (AreReservations tick entries rates)) × (text ≡ []))
    ⊎ ((rates : List Rate) × AreReservations tick entries rates × (TellsParts bound rates entries text ⊎ TellsAlone bound rates text))

-- ---- The whole

-- the helps in their order: the greatest budget at the server's period, the least period for its budget, a split
pub record AreHelps (entries : List Data) (refused : Refused) (text : List ℕ) : Type 0 where
  pub on_budget : List ℕ
  pub on_period : List ℕ
  pub on_split : List ℕ
  pub greatest : IsHelpThat (TellsGreatest refused.tick refused.plan refused.reservation.period) on_budget
  pub least : TellsLeastIfAny refused.tick refused.plan refused.reservation.budget on_period
  pub split : TellsSplit refused.tick refused.plan.bound entries on_split
  pub bytes : text ≡ on_budget ++ on_period ++ on_split

-- the explanation of a server that takes the plan of those before it over the bound. `IsPlace` is true of the line of
-- its place
pub record IsOverText (IsPlace : List ℕ → Type 0) (entries : List Data) (refused : Refused) (text : List ℕ) : Type 0 where
  pub total : Ratio
  pub excess : Ratio
  pub place : List ℕ
  pub helps : List ℕ
  pub all : IsBandwidth (with_rate refused.plan refused.reservation).rates total.part total.whole
  pub too_much : IsExcess refused.plan.bound (with_rate refused.plan refused.reservation).rates excess.part excess.whole
  pub is_place : IsPlace place
  pub are_helps : AreHelps entries refused helps
  pub bytes : text ≡
      over_line total refused.number refused.plan.bound ++ place
      ++ sum_text refused.tick refused.number refused.plan.rates (record { part = refused.reservation.budget; whole = refused.reservation.period }) excess ++ helps
