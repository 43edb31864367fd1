-- The faults that were found in the first entries, and those that are left.
use Rattle.std.proofs.Common.{◌≡◌, ◌≤◌, ◌<◌, ◌+◌, ℕ, List, [], ◌∷◌, ◌++◌, length, map, drop, get_or, Option, Some, None, Result, Ok, Err, String, Global, string_bytes, inl, inr, refl, sym, ap, ◌∙◌, arith}
use Rattle.std.specs.Prelude.{◌≢◌, ◌⊎◌, IfErr, OnOk}
use Rattle.std.specs.Result.{result_err}
use Rattle.std.proofs.lemmas.List.{drop_more, append-nil, append_assoc, length-append}
use Rattle.std.proofs.Math.ListN.{drop_of_length-le}
use Rattle.toml.specs.Data.{Data}
use Rattle.cbsrun_toml_tables.specs.declared.fault.FileFault.{FileFault}
use Rattle.cbsrun_toml_tables.specs.declared.fault.FileKind.{FileKind}
use Rattle.cbsrun_toml_tables.specs.declared.fault.FileKind.TheVariants.{OutOfMemory}
use Rattle.cbsrun_toml_tables.specs.declared.fault.Place.{Place}
use Rattle.cbsrun_toml_tables.specs.declared.fault.Place.TheVariants.{Server}
use Rattle.cbsrun_toml_tables.specs.Documents.{faulty}
use Rattle.cbsrun_toml_tables.specs.Fields.{Gives, seen}
use Rattle.cbsrun_loads.specs.Faults.{faults_from, later_faults, named_entry, server_faults}
use Rattle.cbsrun_entries.specs.Noted.{told_at}
use Rattle.cbsrun_loads.specs.Spelling.{Named, admitted_entry}

-- a fault that is not out of memory is what is read
pub given_fault : {X Y : Type 0} (view : X → Y) (r : Result X FileKind) (read : Result Y FileKind) → Gives OutOfMemory view r read
    → result_err r ≢ Some OutOfMemory → result_err read ≡ result_err r
given_fault view (Ok x) read h free = rw h refl
given_fault view (Err kind) read (inl m) free = absurd (free (ap Some m))
given_fault view (Err kind) read (inr e) free = rw e refl

-- what is kept of a value is no fault
pub same_fault : {X Y : Type 0} (view : X → Y) (r : Result X FileKind) → result_err (seen view r) ≡ result_err r
same_fault view (Ok x) = refl
same_fault view (Err kind) = refl

-- at most one more is noted
pub one_more : (place : Place) (kind : Option FileKind) (noted : List FileFault) (i : ℕ) → length noted ≤ i → length (noted ++ told_at place kind) ≤ i + 1
one_more place None noted i le = rw (append-nil noted) (omega (arith, le))
one_more place (Some kind) noted i le = rw (length-append noted (faulty place kind ∷ [])) (omega (arith, le))

-- if none was noted, the entry had none
pub had_none : (place : Place) (read : Result (Unit {0}) FileKind) (noted : List FileFault) (P : Type 0)
    → length (noted ++ told_at place (result_err read)) ≡ 0 → OnOk read P → P
had_none place (Ok x) noted P none p = p
had_none place (Err kind) noted P none p = let e = sym (length-append noted (faulty place kind ∷ [])) ∙ none in absurd (omega (arith, e))

-- what is known after an entry
abbrev pub known_after : {S : Type 0} → S → Result S FileKind → S
known_after known (Ok next) = next
known_after known (Err kind) = known

-- a refused entry adds no name
pub kept_names : (read : Result (Unit {0}) FileKind) (new old : List (String Global)) → IfErr read (λ kind. (kind ≡ OutOfMemory) ⊎ (new ≡ old))
    → IfErr read (λ kind. (kind ≡ OutOfMemory) ⊎ (map string_bytes new ≡ map string_bytes old))
kept_names (Ok x) new old kept = tt
kept_names (Err kind) new old (inl m) = inl m
kept_names (Err kind) new old (inr e) = inr (ap (λ l. map string_bytes l) e)

-- whether there are faults, by their number
pub none_noted : (noted : List FileFault) → length noted ≡ 0 → noted ≡ []
none_noted [] e = refl
none_noted (fault ∷ faults) e = absurd (omega (arith, e))

pub some_noted : (noted : List FileFault) → length noted ≢ 0 → noted ≢ []
some_noted [] some e = some refl
some_noted (fault ∷ faults) some e = cc

pub still_some : (place : Place) (kind : Option FileKind) (noted : List FileFault) → length noted ≢ 0 → length (noted ++ told_at place kind) ≢ 0
still_some place kind noted some none = let e = sym (length-append noted (told_at place kind)) ∙ none in some (omega (arith, e))

-- of what is no value nothing is known after it
pub unit_after : (r : Result (Unit {0}) FileKind) → known_after (tt {0}) r ≡ tt {0}
unit_after (Ok x) = refl
unit_after (Err kind) = refl

module _ {S V : Type 0} (view : V → Data) (place : ℕ → Place) (read : S → Data → Result S FileKind) where
  -- one more entry was read
  pub judged_on : (i : ℕ) (known : S) (vs : List V) (v : V) (noted total : List FileFault) (r : Result S FileKind) → i < length vs
      → read known (view (get_or vs i v)) ≡ r
      → noted ++ faults_from place read i known (map view (drop i vs)) ≡ total
      → (noted ++ told_at (place i) (result_err r)) ++ faults_from place read (i + 1) (known_after known r) (map view (drop (i + 1) vs)) ≡ total
  unfolding faults_from
  judged_on i known vs v noted total (Ok next) lt given before =
      let one : faults_from place read i known (map view (drop i vs)) ≡ faults_from place read (i + 1) next (map view (drop (i + 1) vs)) =
      rw (drop_more vs i v lt, given) refl in
      rw (append-nil noted, ← one) before
  judged_on i known vs v noted total (Err kind) lt given before =
      let one : faults_from place read i known (map view (drop i vs))
      ≡ faulty (place i) kind ∷ faults_from place read (i + 1) known (map view (drop (i + 1) vs)) =
      rw (drop_more vs i v lt, given) refl in
      append_assoc noted (faulty (place i) kind ∷ []) _ ∙ (ap (λ l. noted ++ l) (sym one) ∙ before)

  -- no entry is left
  pub judged_all : (i : ℕ) (known : S) (vs : List V) (noted total : List FileFault) → length vs ≤ i
      → noted ++ faults_from place read i known (map view (drop i vs)) ≡ total → noted ≡ total
  unfolding faults_from
  judged_all i known vs noted total le before =
      let one : noted ++ faults_from place read i known (map view (drop i vs)) ≡ noted = rw (drop_of_length-le vs le) (append-nil noted) in
      sym one ∙ before

-- the faults of the servers that are left, after these
abbrev pub servers_left : Option ℕ → ℕ → Named → List Data → List FileFault → List FileFault
servers_left tick i so_far entries [] = server_faults tick i so_far entries
servers_left tick i so_far entries (fault ∷ faults) = later_faults tick i so_far.names entries

module _ {V : Type 0} (view : V → Data) (tick : Option ℕ) where
  -- no server had a fault, and one more was read
  pub first_on : (i : ℕ) (so_far : Named) (vs : List V) (v : V) (total : List FileFault) (r : Result Named FileKind) → i < length vs
      → admitted_entry tick so_far (view (get_or vs i v)) ≡ r
      → server_faults tick i so_far (map view (drop i vs)) ≡ total
      → told_at (Server i) (result_err r) ++ servers_left tick (i + 1) (known_after so_far r) (map view (drop (i + 1) vs)) (told_at (Server i) (result_err r)) ≡ total
  unfolding server_faults
  first_on i so_far vs v total (Ok next) lt given before =
      let one : server_faults tick i so_far (map view (drop i vs)) ≡ server_faults tick (i + 1) next (map view (drop (i + 1) vs)) =
      rw (drop_more vs i v lt, given) refl in
      sym one ∙ before
  first_on i so_far vs v total (Err kind) lt given before =
      let one : server_faults tick i so_far (map view (drop i vs))
      ≡ faulty (Server i) kind ∷ later_faults tick (i + 1) so_far.names (map view (drop (i + 1) vs)) =
      rw (drop_more vs i v lt, given) refl in
      sym one ∙ before

  -- .. by what the code found
  pub first_step : (i : ℕ) (so_far after : Named) (vs : List V) (v : V) (noted total : List FileFault) (read : Result (Unit {0}) FileKind) → i < length vs
      → v ≡ get_or vs i v → noted ≡ [] → Gives OutOfMemory (λ _. after) read (admitted_entry tick so_far (view v)) → result_err read ≢ Some OutOfMemory
      → IfErr read (λ kind. (kind ≡ OutOfMemory) ⊎ (after.names ≡ so_far.names))
      → noted ++ servers_left tick i so_far (map view (drop i vs)) noted ≡ total
      → (noted ++ told_at (Server i) (result_err read))
      ++ servers_left tick (i + 1) after (map view (drop (i + 1) vs)) (noted ++ told_at (Server i) (result_err read)) ≡ total
  first_step i so_far after vs v [] total (Ok x) lt is none given free kept before =
      first_on i so_far vs v total (Ok after) lt (rw (← is) given) before
  first_step i so_far after vs v [] total (Err kind) lt is none (inl m) free kept before = absurd (free (ap Some m))
  first_step i so_far after vs v [] total (Err kind) lt is none (inr e) free (inl m) before = absurd (free (ap Some m))
  first_step i so_far after vs v [] total (Err kind) lt is none (inr e) free (inr kept) before =
      rw kept (first_on i so_far vs v total (Err kind) lt (rw (← is) e) before)
  first_step i so_far after vs v (fault ∷ noted) total read lt is none given free kept before = absurd cc

  -- a server had a fault, and one more was read
  pub later_step : (i : ℕ) (so_far after : Named) (vs : List V) (v : V) (noted total : List FileFault) (read : Result (Unit {0}) FileKind) → i < length vs
      → v ≡ get_or vs i v → noted ≢ [] → Gives OutOfMemory (λ _. after.names) read (named_entry tick so_far.names (view v))
      → result_err read ≢ Some OutOfMemory → IfErr read (λ kind. (kind ≡ OutOfMemory) ⊎ (after.names ≡ so_far.names))
      → noted ++ servers_left tick i so_far (map view (drop i vs)) noted ≡ total
      → (noted ++ told_at (Server i) (result_err read))
      ++ servers_left tick (i + 1) after (map view (drop (i + 1) vs)) (noted ++ told_at (Server i) (result_err read)) ≡ total
  later_step i so_far after vs v [] total read lt is some given free kept before = absurd (some refl)
  later_step i so_far after vs v (fault ∷ noted) total (Ok x) lt is some given free kept before =
      judged_on view Server (named_entry tick) i so_far.names vs v (fault ∷ noted) total (Ok after.names) lt (rw (← is) given) before
  later_step i so_far after vs v (fault ∷ noted) total (Err kind) lt is some (inl m) free kept before = absurd (free (ap Some m))
  later_step i so_far after vs v (fault ∷ noted) total (Err kind) lt is some (inr e) free (inl m) before = absurd (free (ap Some m))
  later_step i so_far after vs v (fault ∷ noted) total (Err kind) lt is some (inr e) free (inr kept) before =
      rw kept (judged_on view Server (named_entry tick) i so_far.names vs v (fault ∷ noted) total (Err kind) lt (rw (← is) e) before)

  -- no server is left
  pub servers_all : (i : ℕ) (so_far : Named) (vs : List V) (noted total : List FileFault) → length vs ≤ i
      → noted ++ servers_left tick i so_far (map view (drop i vs)) noted ≡ total → noted ≡ total
  unfolding server_faults faults_from
  servers_all i so_far vs [] total le before =
      let one : server_faults tick i so_far (map view (drop i vs)) ≡ [] = rw (drop_of_length-le vs le) refl in
      sym one ∙ before
  servers_all i so_far vs (fault ∷ faults) total le before =
      let one : (fault ∷ faults) ++ later_faults tick i so_far.names (map view (drop i vs)) ≡ fault ∷ faults =
      rw (drop_of_length-le vs le) (append-nil (fault ∷ faults)) in
      sym one ∙ before
