-- The faults of a load file, of which `load_in` tells the first. A table with a fault is left out, and the next table of
-- the same array is read.
use Rattle.std.specs.Prelude.{◌≡◌, ℕ, ◌+◌, List, [], ◌∷◌, ◌++◌, Option, Result, Ok, Err}
use Rattle.toml.specs.Data.{Data, Members}
use Rattle.cbs_rate.specs.Bound.{Fraction}
use Rattle.cbs_rules.specs.Setups.{no_servers}
use Rattle.cbsrun_simulate.specs.declared.terms.SourceTerms.{SourceTerms}
use Rattle.cbsrun_toml_tables.specs.declared.fault.FileFault.{FileFault}
use Rattle.cbsrun_toml_tables.specs.declared.fault.FileKind.{FileKind}
use Rattle.cbsrun_toml_tables.specs.declared.fault.Place.{Place}
use Rattle.cbsrun_toml_tables.specs.declared.fault.Place.TheVariants.{Top, Server, Source}
use Rattle.cbsrun_toml_tables.specs.Documents.{faulty, taken_in}
use Rattle.cbsrun_toml_tables.specs.Fields.{◌>>=◌, seen}
use Rattle.cbsrun_loads.specs.Loads.{LoadFile}
use Rattle.cbsrun_entries.specs.Servers.{server_entry}
use Rattle.cbsrun_loads.specs.Due.{due_in_plan, source_entry}
use Rattle.cbsrun_loads.specs.Spelling.{Named, admitted_entry, unless_taken}
use Rattle.cbsrun_loads.specs.TopTables.{TopData, top_table}
pub use Rattle.cbsrun_entries.specs.Noted.{AreFaults}

-- what is made of a value, or of a fault
abbrev pub either : {A E B : Type 0} → Result A E → (A → B) → (E → B) → B
either (Ok x) of_value of_fault = of_value x
either (Err e) of_value of_fault = of_fault e

-- the faults of entries, of which the first has the number i. An entry with no fault changes what is known, and one with
-- a fault is left out
unfoldable pub faults_from : {S A : Type 0} → (ℕ → Place) → (S → A → Result S FileKind) → ℕ → S → List A → List FileFault
faults_from place read i known [] = []
faults_from place read i known (entry ∷ entries) = either (read known entry)
    (λ next. faults_from place read (i + 1) next entries)
    (λ kind. faulty (place i) kind ∷ faults_from place read (i + 1) known entries)

-- the names with the one of one more server. Whether the plan takes the server is not asked
abbrev pub named_entry : Option ℕ → List (List ℕ) → Data → Result (List (List ℕ)) FileKind
named_entry tick names entry = do
  server ← server_entry tick entry
  _ ← unless_taken names server.name
  Ok (names ++ server.name ∷ [])

-- the faults of servers after a faulty one, by the names of the good ones before. What the plan takes depends on the
-- faulty one, so none of these is told as not admitted
abbrev pub later_faults : Option ℕ → ℕ → List (List ℕ) → List Data → List FileFault
later_faults tick = faults_from Server (named_entry tick)

-- the faults of servers, each judged by the plan and the names of those before it, up to the first faulty one
unfoldable pub server_faults : Option ℕ → ℕ → Named → List Data → List FileFault
server_faults tick i so_far [] = []
server_faults tick i so_far (entry ∷ entries) = either (admitted_entry tick so_far entry)
    (λ next. server_faults tick (i + 1) next entries)
    (λ kind. faulty (Server i) kind ∷ later_faults tick (i + 1) so_far.names entries)

-- a source is read, and nothing of it is kept
abbrev pub read_source : Option ℕ → List (List ℕ) → (SourceTerms → ℕ) → Unit {0} → Data → Result (Unit {0}) FileKind
read_source tick names due known entry = seen (λ _. known) (source_entry tick names due entry)

-- the faults of sources, in a file with servers of these names
abbrev pub source_faults : Option ℕ → List (List ℕ) → (SourceTerms → ℕ) → List Data → List FileFault
source_faults tick names due = faults_from Source (read_source tick names due) 0 tt

-- no servers, with this bound
abbrev pub none_named : Fraction → Named
none_named bound = record { names = []; setup = no_servers bound }

-- the faults of all servers, and those of all sources if no server has one: a source may then name any server
unfoldable pub entry_faults : TopData → List FileFault
entry_faults top = either (taken_in (admitted_entry top.tick) 0 (none_named top.bound) top.servers)
    (λ servers. source_faults top.tick servers.names (due_in_plan servers.setup.plan.rates) top.sources)
    (λ fault. server_faults top.tick 0 (none_named top.bound) top.servers)

-- the faults of the load that a top table spells. A fault of the top table is told alone
unfoldable pub load_faults : Members → List FileFault
load_faults table = either (top_table table) entry_faults (λ kind. faulty Top kind ∷ [])

-- the first of these faults is that of the load, and there is none exactly if there is a load
abbrev pub BeginWith : Result LoadFile FileFault → List FileFault → Type 0
BeginWith (Ok load) faults = faults ≡ []
BeginWith (Err fault) faults = (rest : List FileFault) × (faults ≡ fault ∷ rest)
