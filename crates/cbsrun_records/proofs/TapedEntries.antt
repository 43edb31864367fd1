-- The entries of a tape, tested one after another.
use Rattle.std.proofs.Common.{◌≡◌, ℕ, ◌+◌, ◌<◌, ◌≤◌, List, [], ◌∷◌, ◌++◌, length, get_or, take, drop, Result, Ok, inl, inr, subst, sym}
use Rattle.std.specs.Prelude.{All}
use Rattle.std.proofs.lemmas.Bool.{cases_Bool}
use Rattle.std.proofs.lemmas.List.{take_all, take_more}
use Rattle.std.proofs.lemmas.List.Elements.{All-push}
use Rattle.cbs_tape.specs.declared.entry.Entry.{Entry}
use Rattle.cbsrun_toml_tables.specs.declared.fault.FileFault.{FileFault}
use Rattle.cbsrun_toml_tables.specs.declared.fault.Place.TheVariants.{Step as AtStep}
use Rattle.cbsrun_toml_tables.specs.Documents.{at}
use Rattle.cbsrun_toml_tables.specs.Fields.{each_from}
use Rattle.cbsrun_toml_tables.proofs.Each.{with_front, goes_on, is_done}
use Rattle.cbsrun_records.specs.Records.{IsEntryOf}
use Rattle.cbsrun_records.specs.Taped.{is_entry_of, taped_entry}

-- the test of the entry at a place
abbrev pub test : ℕ → ℕ → Entry → Result Entry FileFault
test servers i e = at (AtStep i) (taped_entry servers e)

-- an entry that passes its test is itself the answer
pub same_entry : (servers i : ℕ) (e y : Entry) → test servers i e ≡ Ok y → y ≡ e
same_entry servers i e y given = elim (cases_Bool (is_entry_of servers e)) [
  | inl t ↦ let h : Ok e ≡ Ok y = rw t at given in cc
  | inr f ↦ let h = rw f at given in absurd cc
]

-- the first entries, and one more that passes its test
pub one_more : (servers i : ℕ) (es : List Entry) (d y : Entry) (total : Result (List Entry) FileFault) → i < length es
    → test servers i (get_or es i d) ≡ Ok y
    → with_front (take i es) (each_from i (test servers) (drop i es)) ≡ total
    → with_front (take (i + 1) es) (each_from (i + 1) (test servers) (drop (i + 1) es)) ≡ total
one_more servers i es d y total lt given so_far =
    let same = same_entry servers i (get_or es i d) y given in
    let next : take i es ++ y ∷ [] ≡ take (i + 1) es = rw same (sym (take_more es i d lt)) in
    subst (λ (front : List Entry). with_front front (each_from (i + 1) (test servers) (drop (i + 1) es)) ≡ total) next
    (goes_on (test servers) (take i es) i es d y total lt given so_far)

pub one_more_lawful : (servers i : ℕ) (es : List Entry) (d : Entry) → i < length es → All (IsEntryOf servers) (take i es) → IsEntryOf servers (get_or es i d)
    → All (IsEntryOf servers) (take (i + 1) es)
one_more_lawful servers i es d lt are is =
    subst (λ (xs : List Entry). All (IsEntryOf servers) xs) (sym (take_more es i d lt)) (All-push (IsEntryOf servers) (take i es) (get_or es i d) are is)

-- all entries passed
pub all_passed : (servers i : ℕ) (es : List Entry) (total : Result (List Entry) FileFault) → length es ≤ i
    → with_front (take i es) (each_from i (test servers) (drop i es)) ≡ total → Ok es ≡ total
all_passed servers i es total le so_far =
    subst (λ (xs : List Entry). Ok xs ≡ total) (take_all i es le) (sym (is_done (test servers) (take i es) i es total le so_far))
