-- What the bytes of a load file spell: the load, or its first fault with the place of that fault.
use Rattle.std.specs.Prelude.{ℕ, Bool, bytes_eq, codes, if◌then◌else◌, List, [], ◌∷◌, ◌++◌, map, Option, Some, None, Result, Ok, Err, String, string_bytes}
use Rattle.std.specs.List.{list_any}
use Rattle.std.specs.declared.alloc.Global.{Global}
use Rattle.toml.specs.Data.{Data, Members}
use Rattle.cbs_rate.specs.Plan.{admit_refusal}
use Rattle.cbs_rate.specs.declared.error.AdmitError.{AdmitError}
use Rattle.cbs_rules.specs.Setups.{ModedPlan, no_servers, with_server}
use Rattle.cbsrun_toml_tables.specs.declared.fault.FileKind.{FileKind}
use Rattle.cbsrun_toml_tables.specs.declared.fault.FileKind.TheVariants.{OutOfRange, NotAdmitted}
use Rattle.cbsrun_toml_tables.specs.declared.fault.FileFault.{FileFault}
use Rattle.cbsrun_toml_tables.specs.declared.fault.Place.TheVariants.{Top, Source}
use Rattle.cbsrun_toml_tables.specs.Documents.{at, document, has_key, taken_in}
use Rattle.cbsrun_toml_tables.specs.Fields.{◌>>=◌, each_from}
use Rattle.cbsrun_loads.specs.Loads.{LoadFile}
use Rattle.cbsrun_entries.specs.Servers.{server_entry}
use Rattle.cbsrun_entries.specs.Sources.{SourceData}
use Rattle.cbsrun_loads.specs.Due.{due_in_plan, source_entry}
use Rattle.cbsrun_loads.specs.TopTables.{top_table}

-- whether the file is a load: its top table has the key `load`
abbrev pub is_load : List ℕ → Result Bool FileFault
is_load = has_key (codes "load")

-- the servers so far: their names, and their plan and modes
pub record Named : Type 0 where
  pub names : List (List ℕ)
  pub setup : ModedPlan

-- the servers so far, as the code holds them
abbrev pub named_view : List (String Global) → ModedPlan → Named
named_view names setup = record { names = map string_bytes names; setup = setup }

-- the servers, unless the plan refused the last one
abbrev pub unless_refused : Named → Option AdmitError → Result Named FileKind
unless_refused servers None = Ok servers
unless_refused servers (Some error) = Err NotAdmitted

-- the fault OutOfRange if an earlier server has the name
abbrev pub unless_taken : List (List ℕ) → List ℕ → Result (Unit {0}) FileKind
unless_taken names name = if list_any (λ n. bytes_eq n name) names then Err OutOfRange else Ok tt

-- the servers with the one of one more entry
abbrev pub admitted_entry : Option ℕ → Named → Data → Result Named FileKind
admitted_entry tick so_far entry = do
  server ← server_entry tick entry
  _ ← unless_taken so_far.names server.name
  unless_refused (record { names = so_far.names ++ server.name ∷ []; setup = with_server so_far.setup server.reservation server.mode })
      (admit_refusal so_far.setup.plan server.reservation)

-- the load that a top table spells
unfoldable pub load_in : Members → Result LoadFile FileFault
load_in table = do
  top ← at Top (top_table table)
  servers ← taken_in (admitted_entry top.tick) 0 (record { names = []; setup = no_servers top.bound }) top.servers
  sources ← each_from 0 (λ i entry. at (Source i) (source_entry top.tick servers.names (due_in_plan servers.setup.plan.rates) entry)) top.sources
  Ok (record {
    tick = top.tick;
    names = servers.names;
    modes = servers.setup.modes;
    plan = servers.setup.plan;
    backlog = top.backlog;
    until = top.until;
    seed = top.seed;
    sources = map (λ (s : SourceData). s.terms) sources;
    listed = map (λ (s : SourceData). s.listed) sources;
  })

-- the load that the bytes spell
abbrev pub load : List ℕ → Result LoadFile FileFault
load bytes = at Top (document bytes) >>= load_in
