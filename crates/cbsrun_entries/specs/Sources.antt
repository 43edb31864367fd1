-- What one entry of `source` spells in a load file.
use Rattle.std.specs.Prelude.{ℕ, ℤ, pos, ◌-◌, ◌<◌, ◌≤◌, IsSome, min, max, Bool, false, is_some, if◌then◌else◌, codes, bytes_eq, drop, get_or, length, map, unwrap_or}
use Rattle.std.specs.Prelude.{List, [], ◌∷◌, Option, Some, None, Result, Ok, Err, Vec}
use Rattle.std.specs.declared.alloc.Global.{Global}
use Rattle.std.specs.List.{position}
use Rattle.toml.specs.Data.{Data, Members, get_member}
use Rattle.cbs_rate.specs.Limits.{longest_period, most_units}
use Rattle.cbs_rules.specs.Rules.{clock_end}
use Rattle.cbsrun_simulate.specs.Bounds.{Bounds}
use Rattle.cbsrun_simulate.specs.Drawing.{follow, IsLawful}
use Rattle.cbsrun_simulate.specs.Released.{HasRanges}
use Rattle.cbsrun_simulate.specs.declared.terms.SourceTerms.{SourceTerms}
use Rattle.cbsrun_toml_tables.specs.declared.fault.FileKind.{FileKind}
use Rattle.cbsrun_toml_tables.specs.declared.fault.FileKind.TheVariants.{OutOfRange}
use Rattle.cbsrun_times.specs.declared.ticks.Rounding.{Rounding}
use Rattle.cbsrun_times.specs.declared.ticks.Rounding.TheVariants.{Up, Down}
use Rattle.cbsrun_toml_tables.specs.Fields.{◌>>=◌, seen, table_with, present, text_at, optional_integer_at, items, items_at, members, all_integers, each, sized, within, of_some}
use Rattle.cbsrun_entries.specs.Times.{ticks, optional_ticks_at}
use Rattle.cbsrun_entries.specs.declared.source.SourceFields.{SourceFields}

-- two numbers of ticks, or none if there are fewer or more of them
abbrev pub two_ticks : Option ℕ → Rounding → List Data → Result (Option (ℤ × ℤ)) FileKind
two_ticks tick rounding (first ∷ second ∷ []) =
    ticks tick rounding first >>= λ least. ticks tick rounding second >>= λ greatest. Ok (Some (least, greatest))
two_ticks tick rounding ds = seen (λ _. None) (all_integers ds)

-- the least and the greatest number of ticks of a range. One number stands for both. There are none if an array has fewer
-- or more than two
abbrev pub two_numbers : Option ℕ → Rounding → Data → Result (Option (ℤ × ℤ)) FileKind
two_numbers tick rounding d = elim (items d) [
  | Ok ds ↦ two_ticks tick rounding ds
  | Err _ ↦ seen (λ n. Some (n, n)) (ticks tick rounding d)
]

-- the least and the greatest number of ticks of the range at a key, and of one at a key that may be left out
unfoldable pub numbers_at : Option ℕ → Rounding → List ℕ → Members → Result (Option (ℤ × ℤ)) FileKind
numbers_at tick rounding key table = present key table >>= two_numbers tick rounding

unfoldable pub optional_numbers_at : Option ℕ → Rounding → List ℕ → Members → Result (Option (Option (ℤ × ℤ))) FileKind
optional_numbers_at tick rounding key table = of_some (two_numbers tick rounding) (get_member key table)

-- the range from the least number, which is at least `low`, to the greatest, which is at most `high`
abbrev pub range_within : ℕ → ℕ → Option (ℤ × ℤ) → Result Bounds FileKind
range_within low high None = Err OutOfRange
range_within low high (Some two) = do
  least ← within low high two.0
  greatest ← within least high two.1
  Ok (record { least = least; greatest = greatest })

-- the place that was found, or the fault that there is none
abbrev pub found_place : Option ℕ → Result ℕ FileKind
found_place None = Err OutOfRange
found_place (Some i) = Ok i

-- the server with this name
abbrev pub server_named : List (List ℕ) → List ℕ → Result ℕ FileKind
server_named names name = found_place (position (λ n. bytes_eq n name) names)

-- the values of a source's keys, each of its type
pub record FieldsData : Type 0 where
  pub server : List ℕ
  pub first : Option ℤ
  pub every : Option (ℤ × ℤ)
  pub units : Option (ℤ × ℤ)
  pub jobs : Option ℤ
  pub within : Option ℤ
  pub overrun : Option (Option (ℤ × ℤ))
  pub jitter : Option ℤ

-- the keys that an entry must have, and those that may be left out
abbrev pub required_keys : List (List ℕ)
required_keys = codes "server" ∷ codes "every" ∷ codes "units" ∷ []

abbrev pub optional_keys : List (List ℕ)
optional_keys = codes "first" ∷ codes "jobs" ∷ codes "within" ∷ codes "overrun" ∷ codes "jitter" ∷ []

-- the values of an entry's keys, or the first fault over all of them. Work and jitter are rounded up to ticks, and times
-- between jobs and within which they are wanted are rounded down
unfoldable pub source_fields : Option ℕ → Data → Result FieldsData FileKind
source_fields tick entry = do
  table ← table_with required_keys optional_keys entry
  server_name ← text_at (codes "server") table
  first_number ← optional_ticks_at tick Down (codes "first") table
  every_numbers ← numbers_at tick Down (codes "every") table
  units_numbers ← numbers_at tick Up (codes "units") table
  jobs_number ← optional_integer_at (codes "jobs") table
  within_number ← optional_ticks_at tick Down (codes "within") table
  overrun_numbers ← optional_numbers_at tick Up (codes "overrun") table
  jitter_number ← optional_ticks_at tick Up (codes "jitter") table
  Ok (record {
    server = server_name;
    first = first_number;
    every = every_numbers;
    units = units_numbers;
    jobs = jobs_number;
    within = within_number;
    overrun = overrun_numbers;
    jitter = jitter_number;
  })

-- The source that the values spell, or the fault that one is out of range. The jitter is less than the least `every`. If
-- they are left out, `first`, `overrun` and `jitter` are 0, and the number of `jobs` and the ticks `within` which each is
-- to be finished have no limit.
unfoldable pub spelled_by : List (List ℕ) → FieldsData → Result SourceTerms FileKind
spelled_by names f = do
  server ← server_named names f.server
  first ← of_some (within 0 clock_end) f.first
  every ← range_within 1 clock_end f.every
  units ← range_within 1 most_units f.units
  jobs ← of_some (within 1 clock_end) f.jobs
  deadline ← of_some (within 1 clock_end) f.within
  overrun ← of_some (range_within 0 longest_period) f.overrun
  jitter ← of_some (within 0 (every.least - 1)) f.jitter
  Ok (record {
    server = server;
    first = unwrap_or first 0;
    every = every;
    jitter = unwrap_or jitter 0;
    units = units;
    jobs = jobs;
    within = deadline;
    overrun = unwrap_or overrun (record { least = 0; greatest = 0 });
  })

-- the ticks from one listed tick to the next, after a first one: the least of these, and the greatest. If no tick
-- follows, the least is the clock's end
abbrev pub least_gap : ℕ → List ℕ → ℕ
least_gap n [] = clock_end
least_gap n (m ∷ ms) = min (m - n) (least_gap m ms)

abbrev pub greatest_gap : ℕ → List ℕ → ℕ
greatest_gap n [] = 0
greatest_gap n (m ∷ ms) = max (m - n) (greatest_gap m ms)

-- the first of listed ticks, and the others
abbrev pub first_listed : List ℕ → ℕ
first_listed listed = get_or listed 0 0

-- the ticks from one listed tick to the next, from the least to the greatest
abbrev pub listed_range : List ℕ → ℤ × ℤ
listed_range listed =
    let least = least_gap (first_listed listed) (drop 1 listed) in
    (pos least, pos (max least (greatest_gap (first_listed listed) (drop 1 listed))))

-- the greatest number of ticks that a source may list
abbrev pub most_listed : ℕ
most_listed = 1000000

-- one listed tick, rounded down
abbrev pub listed_tick : Option ℕ → Data → Result ℕ FileKind
listed_tick tick d = ticks tick Down d >>= within 0 clock_end

-- the fault OutOfRange, unless each tick is later than the one before it
abbrev pub ascending : List ℕ → Result (Unit {0}) FileKind
ascending listed = if follow 1 (first_listed listed) (drop 1 listed) then Ok tt else Err OutOfRange

-- the ticks that are listed at the key `at`
unfoldable pub listed_ticks : Option ℕ → Members → Result (List ℕ) FileKind
listed_ticks tick table = do
  values ← items_at (codes "at") table
  _ ← sized 1 most_listed values
  listed ← each (listed_tick tick) values
  _ ← ascending listed
  Ok listed

-- the keys that an entry must have if it lists its ticks, and those that may be left out
abbrev pub required_if_listed : List (List ℕ)
required_if_listed = codes "server" ∷ codes "at" ∷ codes "units" ∷ []

abbrev pub optional_if_listed : List (List ℕ)
optional_if_listed = codes "within" ∷ codes "overrun" ∷ codes "jitter" ∷ []

-- The values of the keys of an entry that lists these ticks, or the first fault over the others. The first job comes at
-- the first of them, as many jobs come as there are, and as many ticks lie between them as their gaps say.
unfoldable pub listed_fields : Option ℕ → List ℕ → Members → Result FieldsData FileKind
listed_fields tick listed table = do
  server_name ← text_at (codes "server") table
  units_numbers ← numbers_at tick Up (codes "units") table
  within_number ← optional_ticks_at tick Down (codes "within") table
  overrun_numbers ← optional_numbers_at tick Up (codes "overrun") table
  jitter_number ← optional_ticks_at tick Up (codes "jitter") table
  Ok (record {
    server = server_name;
    first = Some (pos (first_listed listed));
    every = Some (listed_range listed);
    units = units_numbers;
    jobs = Some (pos (length listed));
    within = within_number;
    overrun = overrun_numbers;
    jitter = jitter_number;
  })

-- a source: its terms, and its nominal ticks if they are listed, none if they are drawn
pub record SourceData : Type 0 where
  pub terms : SourceTerms
  pub listed : List ℕ

-- the source of an entry that lists its ticks
unfoldable pub listed_entry : Option ℕ → List (List ℕ) → Data → Result SourceData FileKind
listed_entry tick names entry = do
  table ← table_with required_if_listed optional_if_listed entry
  listed ← listed_ticks tick table
  fields ← listed_fields tick listed table
  terms ← spelled_by names fields
  Ok (record { terms = terms; listed = listed })

-- the entry lists its ticks: it is a table with the key `at`
abbrev pub is_listing : Data → Bool
is_listing d = elim (members d) [ Ok ms ↦ is_some (get_member (codes "at") ms) | Err _ ↦ false ]

-- the source with each job to be finished within so many ticks, if it does not say within how many
abbrev pub due_within : ℕ → SourceTerms → SourceTerms
due_within ticks t = record t { within = Some (unwrap_or t.within ticks) }

-- the source of an entry that does not list its ticks
abbrev pub drawn_entry : Option ℕ → List (List ℕ) → Data → Result SourceData FileKind
drawn_entry tick names entry = do
  fields ← source_fields tick entry
  terms ← spelled_by names fields
  Ok (record { terms = terms; listed = [] })

-- the source of an entry, in a file with servers of these names. It may not say within how many ticks its jobs are to be
-- finished
abbrev pub terms_entry : Option ℕ → List (List ℕ) → Data → Result SourceData FileKind
terms_entry tick names entry = if is_listing entry then listed_entry tick names entry else drawn_entry tick names entry

-- a source, as the code holds it
abbrev pub source_view : (SourceTerms × Vec ℕ Global) → SourceData
source_view s = record { terms = s.0; listed = s.1.items }

-- sources by their terms and by what is listed of them
abbrev pub paired : List SourceTerms → List (List ℕ) → List SourceData
paired [] listed = []
paired (t ∷ ts) [] = []
paired (t ∷ ts) (ns ∷ listed) = record { terms = t; listed = ns } ∷ paired ts listed

-- the same, as the code holds them
abbrev pub sources_view : (Vec SourceTerms Global × Vec (Vec ℕ Global) Global) → List SourceData
sources_view s = paired s.0.items (map (λ v. v.items) s.1.items)

-- the values of the keys, as the code holds them
abbrev pub fields_view : SourceFields → FieldsData
fields_view f = record {
  server = f.server.now;
  first = f.first;
  every = f.every;
  units = f.units;
  jobs = f.jobs;
  within = f.within;
  overrun = f.overrun;
  jitter = f.jitter;
}

-- the source is within its limits, none of its ranges is empty, and it gives jobs to one of this many servers. No unit of
-- it overruns by more than the longest period
pub record IsSource (servers : ℕ) (t : SourceTerms) : Type 0 where
  pub named : t.server < servers
  pub lawful : IsLawful t
  pub ranges : HasRanges t
  pub short : t.overrun.greatest ≤ longest_period
  pub within : IsSome t.within
