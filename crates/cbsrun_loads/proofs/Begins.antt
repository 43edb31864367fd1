-- The faults of a load begin with the one that `load_in` tells.
use Rattle.std.proofs.Common.{◌≡◌, ◌+◌, ℕ, List, [], ◌∷◌, Option, Result, Ok, Err, refl}
use Rattle.toml.specs.Data.{Data, Members}
use Rattle.cbsrun_toml_tables.specs.declared.fault.FileFault.{FileFault}
use Rattle.cbsrun_toml_tables.specs.declared.fault.FileKind.{FileKind}
use Rattle.cbsrun_toml_tables.specs.declared.fault.Place.TheVariants.{Server, Source}
use Rattle.cbsrun_toml_tables.specs.Documents.{at, faulty, taken_in}
use Rattle.cbsrun_toml_tables.specs.Fields.{◌>>=◌, each_from, seen}
use Rattle.cbsrun_loads.specs.Faults.{entry_faults, faults_from, later_faults, load_faults, none_named, server_faults, BeginWith}
use Rattle.cbsrun_entries.specs.Sources.{SourceData}
use Rattle.cbsrun_loads.specs.Due.{due_in_plan, source_entry}
use Rattle.cbsrun_loads.specs.Spelling.{Named, admitted_entry, load_in}
use Rattle.cbsrun_loads.specs.TopTables.{TopData, top_table}

-- the first fault of servers
taken_first : (tick : Option ℕ) (i : ℕ) (so_far : Named) (entries : List Data) (fault : FileFault)
    → taken_in (admitted_entry tick) i so_far entries ≡ Err fault → (rest : List FileFault) × (server_faults tick i so_far entries ≡ fault ∷ rest)
unfolding taken_in server_faults
taken_first tick i so_far [] fault is = absurd cc
taken_first tick i so_far (entry ∷ entries) fault is = by (admitted_entry tick so_far entry) refl (λ next. taken_first tick (i + 1) next entries fault)
  where
    by : (r : Result Named FileKind) → admitted_entry tick so_far entry ≡ r
        → ((next : Named) → taken_in (admitted_entry tick) (i + 1) next entries ≡ Err fault
        → (rest : List FileFault) × (server_faults tick (i + 1) next entries ≡ fault ∷ rest))
        → (rest : List FileFault) × (server_faults tick i so_far (entry ∷ entries) ≡ fault ∷ rest)
    by (Ok next) e others = rw e (others next (rw e at is))
    by (Err kind) e others =
        let same : faulty (Server i) kind ≡ fault = let h = rw e at is in cc in
        rw (e, same) (later_faults tick (i + 1) so_far.names entries, refl)

module _ {Y : Type 0} (read : Data → Result Y FileKind) where
  -- the first fault of sources
  each_first : (i : ℕ) (entries : List Data) (fault : FileFault) → each_from i (λ i entry. at (Source i) (read entry)) entries ≡ Err fault
      → (rest : List FileFault) × (faults_from Source (λ known entry. seen (λ _. known) (read entry)) i (tt {0}) entries ≡ fault ∷ rest)
  unfolding each_from faults_from
  each_first i [] fault is = absurd cc
  each_first i (entry ∷ entries) fault is = by (read entry) refl (each_first (i + 1) entries fault)
    where
      others : Result (List Y) FileFault
      others = each_from (i + 1) (λ i entry. at (Source i) (read entry)) entries

      passed : (y : Y) (r : Result (List Y) FileFault) → (r >>= λ ys. Ok (y ∷ ys)) ≡ Err fault → r ≡ Err fault
      passed y (Ok ys) h = absurd cc
      passed y (Err other) h = cc

      by : (r : Result Y FileKind) → read entry ≡ r
          → (others ≡ Err fault → (rest : List FileFault) × (faults_from Source (λ known entry. seen (λ _. known) (read entry)) (i + 1) (tt {0}) entries ≡ fault ∷ rest))
          → (rest : List FileFault) × (faults_from Source (λ known entry. seen (λ _. known) (read entry)) i (tt {0}) (entry ∷ entries) ≡ fault ∷ rest)
      by (Ok y) e more = rw e (more (passed y others (rw e at is)))
      by (Err kind) e more =
          let same : faulty (Source i) kind ≡ fault = let h = rw e at is in cc in
          rw (e, same) (faults_from Source (λ known entry. seen (λ _. known) (read entry)) (i + 1) (tt {0}) entries, refl)

  -- sources with no fault
  each_none : (i : ℕ) (entries : List Data) (all : List Y) → each_from i (λ i entry. at (Source i) (read entry)) entries ≡ Ok all
      → faults_from Source (λ known entry. seen (λ _. known) (read entry)) i (tt {0}) entries ≡ []
  unfolding each_from faults_from
  each_none i [] all is = refl
  each_none i (entry ∷ entries) all is = by (read entry) refl (each_none (i + 1) entries)
    where
      others : Result (List Y) FileFault
      others = each_from (i + 1) (λ i entry. at (Source i) (read entry)) entries

      none : Type 0
      none = faults_from Source (λ known entry. seen (λ _. known) (read entry)) (i + 1) (tt {0}) entries ≡ []

      by_others : (y : Y) (r : Result (List Y) FileFault) → others ≡ r → (r >>= λ ys. Ok (y ∷ ys)) ≡ Ok all
          → ((ys : List Y) → others ≡ Ok ys → none) → faults_from Source (λ known entry. seen (λ _. known) (read entry)) (i + 1) (tt {0}) entries ≡ []
      by_others y (Ok ys) e h more = more ys e
      by_others y (Err other) e h more = absurd cc

      by : (r : Result Y FileKind) → read entry ≡ r → ((ys : List Y) → others ≡ Ok ys → none) → faults_from Source (λ known entry. seen (λ _. known) (read entry)) i (tt {0}) (entry ∷ entries) ≡ []
      by (Ok y) e more = rw e (by_others y others refl (rw e at is) more)
      by (Err kind) e more = let h = rw e at is in absurd cc

-- the first fault of a load
pub begins : (table : Members) → BeginWith (load_in table) (load_faults table)
unfolding load_in load_faults entry_faults
begins table = by_top (top_table table) refl
  where
    by_sources : (top : TopData) (servers : Named)
        (r : Result (List SourceData) FileFault) → top_table table ≡ Ok top
        → taken_in (admitted_entry top.tick) 0 (none_named top.bound) top.servers ≡ Ok servers
        → each_from 0 (λ i entry. at (Source i) (source_entry top.tick servers.names (due_in_plan servers.setup.plan.rates) entry)) top.sources ≡ r
        → BeginWith (load_in table) (load_faults table)
    by_sources top servers (Ok all) t s e =
        rw (t, s, e) (each_none (source_entry top.tick servers.names (due_in_plan servers.setup.plan.rates)) 0 top.sources all e)
    by_sources top servers (Err fault) t s e =
        rw (t, s, e) (each_first (source_entry top.tick servers.names (due_in_plan servers.setup.plan.rates)) 0 top.sources fault e)

    by_servers : (top : TopData) (r : Result Named FileFault) → top_table table ≡ Ok top
        → taken_in (admitted_entry top.tick) 0 (none_named top.bound) top.servers ≡ r → BeginWith (load_in table) (load_faults table)
    by_servers top (Ok servers) t s =
        by_sources top servers
        (each_from 0 (λ i entry. at (Source i) (source_entry top.tick servers.names (due_in_plan servers.setup.plan.rates) entry)) top.sources) t s refl
    by_servers top (Err fault) t s = rw (t, s) (taken_first top.tick 0 (none_named top.bound) top.servers fault s)

    by_top : (r : Result TopData FileKind) → top_table table ≡ r → BeginWith (load_in table) (load_faults table)
    by_top (Ok top) t = by_servers top (taken_in (admitted_entry top.tick) 0 (none_named top.bound) top.servers) t refl
    by_top (Err kind) t = rw t ([], refl)
