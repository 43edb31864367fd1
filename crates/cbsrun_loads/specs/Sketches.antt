-- What the bytes of a sketch spell: a load in which a server may have no reservation yet.
use Rattle.std.specs.Prelude.{◌≡◌, ℕ, ℤ, ◌≤◌, codes, is_some, length, ltb, map, get_or, if◌then◌else◌, All, String, string_bytes}
use Rattle.std.specs.Prelude.{List, [], ◌∷◌, ◌++◌, Option, Some, None, Result, Ok, Err}
use Rattle.std.specs.declared.alloc.Global.{Global}
use Rattle.toml.specs.Data.{Data, Members, get_member}
use Rattle.cbs_rate.specs.Bound.{Fraction}
use Rattle.cbs_rate.specs.Limits.{most_backlog, most_servers}
use Rattle.cbs_rate.specs.Rate.{Rate}
use Rattle.cbs_rules.specs.Rules.{clock_end}
use Rattle.cbs_rules.specs.declared.mode.Mode.TheVariants.{Soft}
use Rattle.cbsrun_simulate.specs.Drawing.{AreListed}
use Rattle.cbsrun_simulate.specs.Released.{distance}
use Rattle.cbsrun_simulate.specs.declared.terms.SourceTerms.{SourceTerms}
use Rattle.cbsrun_times.specs.declared.ticks.Rounding.TheVariants.{Up, Whole}
use Rattle.cbsrun_toml_tables.specs.declared.fault.FileFault.{FileFault}
use Rattle.cbsrun_toml_tables.specs.declared.fault.FileKind.{FileKind}
use Rattle.cbsrun_toml_tables.specs.declared.fault.FileKind.TheVariants.{MissingKey, NotAdmitted}
use Rattle.cbsrun_toml_tables.specs.declared.fault.Place.TheVariants.{Top, Source}
use Rattle.cbsrun_toml_tables.specs.Documents.{at, document, taken_in}
use Rattle.cbsrun_toml_tables.specs.Fields.{◌>>=◌, table_with, text_at, each_from}
use Rattle.cbsrun_toml_tables.specs.Plans.{reservation, mode_of}
use Rattle.cbsrun_entries.specs.Sources.{IsSource}
use Rattle.cbsrun_loads.specs.Loads.{most_sources}
use Rattle.cbsrun_entries.specs.Servers.{name_of}
use Rattle.cbsrun_entries.specs.Sources.{SourceData}
use Rattle.cbsrun_loads.specs.Due.{source_entry}
use Rattle.cbsrun_loads.specs.Spelling.{unless_taken}
use Rattle.cbsrun_entries.specs.Times.{optional_ticks_at}
use Rattle.cbsrun_loads.specs.TopTables.{top_table}
use Rattle.cbsrun_loads.specs.declared.sketch.Given.{Given}
use Rattle.cbsrun_loads.specs.declared.sketch.ServerSketch.{ServerSketch}
use Rattle.cbsrun_loads.specs.declared.sketch_server.SketchEntry.{SketchEntry}

-- the names of the servers, and their modes and reservations, as far as these are given; the bound on the bandwidth of
-- all, the greatest backlog of each, the tick at which a simulation ends, the seed, the sources, the nominal ticks that
-- are listed of each, and the nanoseconds of a tick, if they are said
pub record SketchFile : Type 0 where
  pub tick : Option ℕ
  pub names : List (List ℕ)
  pub servers : List ServerSketch
  pub bound : Fraction
  pub backlog : ℕ
  pub until : ℕ
  pub seed : ℕ
  pub sources : List SourceTerms
  pub listed : List (List ℕ)

-- what holds of every sketch
pub record IsSketch (k : SketchFile) : Type 0 where
  pub named : length k.names ≡ length k.servers
  pub few : length k.names ≤ most_servers
  pub some_backlog : 1 ≤ k.backlog
  pub small_backlog : k.backlog ≤ most_backlog
  pub some_ticks : 1 ≤ k.until
  pub few_ticks : k.until ≤ clock_end
  pub few_sources : length k.sources ≤ most_sources
  pub lawful : All (IsSource (length k.names)) k.sources
  pub listed : AreListed k.sources k.listed

-- a reservation, as it is given
abbrev pub given_rate : Rate → Given
given_rate r = record { budget = r.budget; period = r.period }

-- the fault MissingKey if a table has one of two keys alone
abbrev pub both_or_none : List ℕ → List ℕ → Members → Result (Unit {0}) FileKind
both_or_none a b ms = if is_some (get_member a ms) then (if is_some (get_member b ms) then Ok tt else Err MissingKey)
    else (if is_some (get_member b ms) then Err MissingKey else Ok tt)

-- the reservation of two numbers, or none if they are left out
abbrev pub given_by : Option ℤ → Option ℤ → Result (Option Given) FileKind
given_by (Some budget) (Some period) = do
  rate ← reservation budget period
  Ok (Some (given_rate rate))
given_by (Some budget) None = Ok None
given_by None period = Ok None

-- a server of a sketch, as its entry gives it
pub record SketchData : Type 0 where
  pub name : List ℕ
  pub server : ServerSketch

-- the server of an entry, which has `budget` and `period`, or neither
unfoldable pub sketch_entry : Option ℕ → Data → Result SketchData FileKind
sketch_entry tick entry = do
  table ← table_with (codes "name" ∷ codes "mode" ∷ []) (codes "budget" ∷ codes "period" ∷ []) entry
  _ ← both_or_none (codes "budget") (codes "period") table
  name_text ← text_at (codes "name") table
  mode_word ← text_at (codes "mode") table
  budget_number ← optional_ticks_at tick Up (codes "budget") table
  period_number ← optional_ticks_at tick Whole (codes "period") table
  name ← name_of name_text
  mode ← mode_of mode_word
  given ← given_by budget_number period_number
  Ok (record { name = name; server = record { mode = mode; given = given } })

-- the server of an entry, as the code holds it
abbrev pub sketch_view : SketchEntry → SketchData
sketch_view s = record { name = s.name.now; server = s.server }

-- the servers so far
pub record Sketched : Type 0 where
  pub names : List (List ℕ)
  pub servers : List ServerSketch

-- the servers so far, as the code holds them
abbrev pub sketched_view : List (String Global) → List ServerSketch → Sketched
sketched_view names servers = record { names = map string_bytes names; servers = servers }

-- the fault NotAdmitted if there are as many servers as one executor serves
abbrev pub unless_full : List (List ℕ) → Result (Unit {0}) FileKind
unless_full names = if ltb (length names) most_servers then Ok tt else Err NotAdmitted

-- the servers with the one of one more entry
abbrev pub sketched_entry : Option ℕ → Sketched → Data → Result Sketched FileKind
sketched_entry tick so_far entry = do
  one ← sketch_entry tick entry
  _ ← unless_taken so_far.names one.name
  _ ← unless_full so_far.names
  Ok (record { names = so_far.names ++ one.name ∷ []; servers = so_far.servers ++ one.server ∷ [] })

-- what stands for a server that does not exist
abbrev pub no_server : ServerSketch
no_server = record { mode = Soft; given = None }

-- within how many ticks a source wants its jobs finished, if it does not say so: in its server's period, or, if that is
-- left out, before its next job may come
abbrev pub due_in : Option Given → ℕ → ℕ
due_in None distance = distance
due_in (Some g) distance = g.period

-- the same by the server of a source
abbrev pub due_in_sketch : List ServerSketch → SourceTerms → ℕ
due_in_sketch servers t = due_in (get_or servers t.server no_server).given (distance t)

-- the sketch that a top table spells
unfoldable pub sketch_in : Members → Result SketchFile FileFault
sketch_in table = do
  top ← at Top (top_table table)
  sketched ← taken_in (sketched_entry top.tick) 0 (record { names = []; servers = [] }) top.servers
  sources ← each_from 0 (λ i entry. at (Source i) (source_entry top.tick sketched.names (due_in_sketch sketched.servers) entry)) top.sources
  Ok (record {
    tick = top.tick;
    names = sketched.names;
    servers = sketched.servers;
    bound = top.bound;
    backlog = top.backlog;
    until = top.until;
    seed = top.seed;
    sources = map (λ (s : SourceData). s.terms) sources;
    listed = map (λ (s : SourceData). s.listed) sources;
  })

-- the sketch that the bytes spell
abbrev pub sketch : List ℕ → Result SketchFile FileFault
sketch bytes = at Top (document bytes) >>= sketch_in
