-- What was read of a table, with the place of the table: a value, its first fault, or out of memory.
use Rattle.std.proofs.Common.{◌≡◌, Result, Ok, Err, inl, inr, refl, ap}
use Rattle.std.specs.Prelude.{◌⊎◌}
use Rattle.cbsrun_toml_tables.specs.declared.fault.FileKind.{FileKind}
use Rattle.cbsrun_toml_tables.specs.declared.fault.FileKind.TheVariants.{OutOfMemory}
use Rattle.cbsrun_toml_tables.specs.declared.fault.FileFault.{FileFault}
use Rattle.cbsrun_toml_tables.specs.declared.fault.Place.{Place}
use Rattle.cbsrun_toml_tables.specs.Fields.{Gives, seen}
use Rattle.cbsrun_toml_tables.specs.Documents.{at, faulty, no_memory}

-- what is given is given at a place
pub Gives-at : {X Y : Type 0} (place : Place) (view : X → Y) (r : Result X FileKind) (read : Result Y FileKind) → Gives OutOfMemory view r read
    → Gives no_memory view (at place r) (at place read)
Gives-at place view (Ok x) read h = ap (at place) h
Gives-at place view (Err kind) read (inl e) = inl (ap (faulty place) e)
Gives-at place view (Err kind) read (inr e) = inr (ap (at place) e)

-- what is given at an Ok and at an Err
pub gives_ok : {E X Y : Type 0} (memory : E) (view : X → Y) (r : Result X E) (read : Result Y E) (x : X) → Gives memory view r read → r ≡ Ok x
    → read ≡ Ok (view x)
gives_ok memory view (Ok x) read y h e = let same : x ≡ y = cc in rw (← same) h
gives_ok memory view (Err d) read y h e = absurd cc

-- an error is what is read, or out of memory
pub gives_err : {E X Y : Type 0} (memory : E) (view : X → Y) (r : Result X E) (read : Result Y E) (d : E) → Gives memory view r read → r ≡ Err d
    → (d ≡ memory) ⊎ (read ≡ Err d)
gives_err memory view (Ok x) read d h e = absurd cc
gives_err memory view (Err x) read d h e = let same : x ≡ d = cc in rw (← same) h

-- what is read at a place was read
pub at_ok : {X : Type 0} (place : Place) (r : Result X FileKind) (x : X) → at place r ≡ Ok x → r ≡ Ok x
at_ok place (Ok y) x e = let same : y ≡ x = cc in ap Ok same
at_ok place (Err kind) x e = absurd cc

-- what is seen at an Ok and at an Err
pub seen_at : {X Y : Type 0} (place : Place) (view : X → Y) (r : Result X FileKind) (read : Result Y FileKind) (x : X) → seen view r ≡ read
    → at place r ≡ Ok x → at place read ≡ Ok (view x)
seen_at place view r read x e h = rw (← e, at_ok place r x h) refl

-- a fault at a place is one of what is read
pub seen_at_err : {X Y : Type 0} (place : Place) (view : X → Y) (r : Result X FileKind) (read : Result Y FileKind) (f : FileFault) → seen view r ≡ read
    → at place r ≡ Err f → at place read ≡ Err f
seen_at_err place view (Ok x) read f e h = absurd cc
seen_at_err place view (Err kind) read f e h = rw (← e) (let same : faulty place kind ≡ f = cc in ap Err same)
