-- The keys of the map of a table, beside the members that it stands for.
use Rattle.std.proofs.Common.{Some, None, Ok, Err, ◌≡◌, ℕ, Bool, ◌&&◌, ◌||◌, List, [], ◌∷◌, ◌++◌, map, Bor, String, Global, bytes_eq, string_bytes, is_some, refl, ap}
use Rattle.std.specs.List.{list_any, list_all}
use Rattle.std.specs.Map.{keys_of}
use Rattle.std.proofs.lemmas.List.Folds.{list_any-append}
use Rattle.std.proofs.lemmas.Option.{same_Some}
use Rattle.toml.specs.Data.{Data, Items, string, integer, float, boolean, datetime, array, table, as_array, Members, get_member}
use Rattle.toml.specs.View.{view, items_view, members_view}
use Rattle.toml.specs.declared.value.Value.{Value}
use Rattle.cbsrun_toml_tables.specs.declared.fault.FileKind.TheVariants.{WrongType}
use Rattle.cbsrun_toml_tables.specs.Fields.{has_only, has_all, list_of, items}

-- a test of borrowed keys is one of the keys
list_any-now : (key : List ℕ) (keys : List (Bor (List ℕ))) → list_any (λ l. bytes_eq l.now key) keys ≡ list_any (λ l. bytes_eq l key) (map (λ k. k.now) keys)
list_any-now key [] = refl
list_any-now key (k ∷ keys) = ap (λ b. bytes_eq k.now key || b) (list_any-now key keys)

-- the keys of a table are those that are seen
pub has_only-view : (keys : List (Bor (List ℕ))) (es : List (String Global × Value))
    → list_all (λ k. list_any (λ l. bytes_eq l.now (string_bytes k)) keys) (keys_of es) ≡ has_only (map (λ k. k.now) keys) (members_view es)
has_only-view keys [] = refl
has_only-view keys (e ∷ es) = rw (list_any-now (string_bytes e.0) keys, has_only-view keys es)

-- the keys of a table are those that are seen, if they are tested by two lists
pub has_only-either : (keys others : List (Bor (List ℕ))) (es : List (String Global × Value))
    → list_all (λ k. list_any (λ l. bytes_eq l.now (string_bytes k)) keys || list_any (λ l. bytes_eq l.now (string_bytes k)) others) (keys_of es)
    ≡ has_only (map (λ k. k.now) keys ++ map (λ k. k.now) others) (members_view es)
has_only-either keys others [] = refl
has_only-either keys others (e ∷ es) = rw (
  list_any-now (string_bytes e.0) keys,
  list_any-now (string_bytes e.0) others,
  list_any-append (λ l. bytes_eq l (string_bytes e.0)) (map (λ k. k.now) keys) (map (λ k. k.now) others),
  has_only-either keys others es,
) refl

-- whether a table has all borrowed keys
pub has_all-view : (keys : List (Bor (List ℕ))) (ms : Members) → has_all (map (λ k. k.now) keys) ms ≡ list_all (λ k. is_some (get_member k.now ms)) keys
has_all-view [] ms = refl
has_all-view (k ∷ keys) ms = ap (λ b. is_some (get_member k.now ms) && b) (has_all-view keys ms)

-- the items of an array as a list
pub list_of-view : (vs : List Value) → list_of (items_view vs) ≡ map view vs
list_of-view [] = refl
list_of-view (v ∷ vs) = ap (λ ds. view v ∷ ds) (list_of-view vs)

-- an array has its items
pub items_from : (d : Data) (ds : Items) → as_array d ≡ Some ds → items d ≡ Ok (list_of ds)
items_from (array es) ds e = ap (λ x. Ok (list_of x)) (same_Some _ _ e)
items_from (string s) ds e = absurd cc
items_from (integer s) ds e = absurd cc
items_from (float s) ds e = absurd cc
items_from (boolean s) ds e = absurd cc
items_from (datetime s) ds e = absurd cc
items_from (table s) ds e = absurd cc

-- what is no array has no items
pub items_of_none : (d : Data) → as_array d ≡ None → items d ≡ Err WrongType
items_of_none (array es) e = absurd cc
items_of_none (string s) e = refl
items_of_none (integer s) e = refl
items_of_none (float s) e = refl
items_of_none (boolean s) e = refl
items_of_none (datetime s) e = refl
items_of_none (table s) e = refl

-- a test of what is seen
pub list_all-view : (p : Data → Bool) (vs : List Value) → list_all p (map view vs) ≡ list_all (λ v. p (view v)) vs
list_all-view p [] = refl
list_all-view p (v ∷ vs) = ap (λ b. p (view v) && b) (list_all-view p vs)
