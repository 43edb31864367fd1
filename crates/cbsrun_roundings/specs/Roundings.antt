-- The times of a load file that are no whole number of ticks, in the order of the file.
use Rattle.std.specs.Prelude.{ℕ, List, [], ◌∷◌, ◌++◌, codes, flat_map, Option, Some, None, Result, Ok, Err}
use Rattle.toml.specs.Data.{Data, Members, get_member}
use Rattle.cbsrun_times.specs.Ticks.{ticks_of}
use Rattle.cbsrun_times.specs.declared.ticks.Rounding.{Rounding}
use Rattle.cbsrun_times.specs.declared.ticks.Rounding.TheVariants.{Up, Down, Whole}
use Rattle.cbsrun_toml_tables.specs.Fields.{items, items_at, members, text, text_at}
use Rattle.cbsrun_toml_tables.specs.declared.fault.FileKind.{FileKind}
use Rattle.cbsrun_roundings.specs.declared.rounded.Rounded.{Rounded}
use Rattle.cbsrun_roundings.specs.declared.place.Kind.{Kind}
use Rattle.cbsrun_roundings.specs.declared.place.Kind.TheVariants.{Server, Source}
use Rattle.cbsrun_roundings.specs.declared.place.Place.{Place}

-- a time that is no whole number of ticks: the name of the server of the table in which it stands, its key, its text, and
-- the number of ticks as which it is taken
pub record RoundedTime : Type 0 where
  pub owner : List ℕ
  pub key : List ℕ
  pub text : List ℕ
  pub ticks : ℕ

-- where a time stands, and how it is rounded there
pub record TimePlace : Type 0 where
  pub owner : List ℕ
  pub key : List ℕ
  pub rounding : Rounding

-- the ticks as which a text is taken, if it tells a time that is no whole number of ticks of so many nanoseconds
abbrev pub rounded_to : ℕ → Rounding → List ℕ → Option ℕ
rounded_to tick rounding bytes = elim (ticks_of tick Whole bytes) [ None ↦ ticks_of tick rounding bytes | Some n ↦ None ]

-- the time that a text tells at a place, if it is rounded there
abbrev pub told_as : TimePlace → List ℕ → Option ℕ → List RoundedTime
told_as place bytes None = []
told_as place bytes (Some n) = record { owner = place.owner; key = place.key; text = bytes; ticks = n } ∷ []

unfoldable pub in_text : ℕ → TimePlace → List ℕ → List RoundedTime
in_text tick place bytes = told_as place bytes (rounded_to tick place.rounding bytes)

-- .. that a value tells, if it is a text
abbrev pub if_text : ℕ → TimePlace → Result (List ℕ) FileKind → List RoundedTime
if_text tick place (Ok bytes) = in_text tick place bytes
if_text tick place (Err kind) = []

abbrev pub in_entry : ℕ → TimePlace → Data → List RoundedTime
in_entry tick place value = if_text tick place (text value)

-- .. those that a value tells: a text, or each text of an array
abbrev pub if_array : ℕ → TimePlace → Data → Result (List Data) FileKind → List RoundedTime
if_array tick place value (Ok entries) = flat_map (in_entry tick place) entries
if_array tick place value (Err kind) = in_entry tick place value

abbrev pub in_value : ℕ → TimePlace → Data → List RoundedTime
in_value tick place value = if_array tick place value (items value)

-- .. those of the value at a place of a table, if it is there
abbrev pub if_found : ℕ → TimePlace → Option Data → List RoundedTime
if_found tick place None = []
if_found tick place (Some value) = in_value tick place value

unfoldable pub at_place : ℕ → Members → TimePlace → List RoundedTime
at_place tick ms place = if_found tick place (get_member place.key ms)

-- .. those at a key of a table of this owner
abbrev pub at_key : ℕ → Members → List ℕ → List ℕ → Rounding → List RoundedTime
at_key tick ms owner key rounding = at_place tick ms (record { owner = owner; key = key; rounding = rounding })

-- the text at a key, or nothing if there is none
abbrev pub or_nothing : Result (List ℕ) FileKind → List ℕ
or_nothing (Ok bytes) = bytes
or_nothing (Err kind) = []

abbrev pub owner_at : List ℕ → Members → List ℕ
owner_at key ms = or_nothing (text_at key ms)

-- those of a server of this name: its budget is rounded up, and its period is whole
unfoldable pub of_server : ℕ → Members → List ℕ → List RoundedTime
of_server tick ms name = at_key tick ms name (codes "budget") Up

-- those of a source for the server of this name: work and jitter are rounded up, and times between jobs and within which
-- they are wanted are rounded down
unfoldable pub of_source : ℕ → Members → List ℕ → List RoundedTime
of_source tick ms name =
    at_key tick ms name (codes "first") Down ++ at_key tick ms name (codes "every") Down ++ at_key tick ms name (codes "at") Down
    ++ at_key tick ms name (codes "units") Up ++ at_key tick ms name (codes "within") Down ++ at_key tick ms name (codes "overrun") Up ++ at_key tick ms name (codes "jitter") Up

-- those of a table of this kind
abbrev pub of_table : Kind → ℕ → Members → List RoundedTime
of_table Server tick ms = of_server tick ms (owner_at (codes "name") ms)
of_table Source tick ms = of_source tick ms (owner_at (codes "server") ms)

-- those of an entry of an array of such tables, and those of all its entries
abbrev pub if_table : Kind → ℕ → Result Members FileKind → List RoundedTime
if_table kind tick (Ok ms) = of_table kind tick ms
if_table kind tick (Err fault) = []

abbrev pub of_entry : Kind → ℕ → Data → List RoundedTime
of_entry kind tick value = if_table kind tick (members value)

abbrev pub of_entries : Kind → ℕ → Result (List Data) FileKind → List RoundedTime
of_entries kind tick (Ok entries) = flat_map (of_entry kind tick) entries
of_entries kind tick (Err fault) = []

-- those of a load, by its top table: of its end, which is rounded up, of its servers, and of its sources
unfoldable pub roundings_of : ℕ → Members → List RoundedTime
roundings_of tick ms =
    at_key tick ms (codes "top") (codes "until") Up ++ of_entries Server tick (items_at (codes "server") ms)
    ++ of_entries Source tick (items_at (codes "source") ms)

-- a rounded time, and a place, as the code holds them
abbrev pub rounded_view : Rounded → RoundedTime
rounded_view r = record { owner = r.owner.now; key = r.key.now; text = r.text.now; ticks = r.ticks }

abbrev pub place_view : Place → TimePlace
place_view p = record { owner = p.owner.now; key = p.key.now; rounding = p.rounding }
