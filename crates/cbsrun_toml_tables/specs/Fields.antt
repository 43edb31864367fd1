-- The tests of one table, in their order. The result of a test is a value, or the kind of fault.
use Rattle.std.specs.Prelude.{◌≡◌, ℕ, ℤ, pos, negsuc, Bool, true, ◌&&◌, ◌+◌, ◌⊎◌, length, nat_le, nat_lt, if◌then◌else◌, List, [], ◌∷◌, ◌++◌, bytes_eq}
use Rattle.std.specs.Prelude.{Option, Some, None, is_some, Result, Ok, Err}
use Rattle.std.specs.Borrow.{Bor}
use Rattle.std.specs.List.{list_any, list_all}
use Rattle.toml.specs.Data.{Data, as_integer, string, integer as an_integer, array, table, Items, no_items, item, Members, no_members, member, get_member}
use Rattle.cbsrun_toml_tables.specs.declared.fault.FileKind.{FileKind}
use Rattle.cbsrun_toml_tables.specs.declared.fault.FileKind.TheVariants.{UnknownKey, MissingKey, WrongType, OutOfRange}

infixl 10 ◌>>=◌
-- a test, and then the next one on its value. If the first one fails, its fault is the result
abbrev pub ◌>>=◌ : {E A B : Type 0} → Result A E → (A → Result B E) → Result B E
(Ok x) >>= f = f x
(Err e) >>= f = Err e

-- a result, with its value seen through `view`
abbrev pub seen : {E A B : Type 0} → (A → B) → Result A E → Result B E
seen view (Ok x) = Ok (view x)
seen view (Err e) = Err e

-- the key is one of the list
abbrev pub is_one_of : List (Bor (List ℕ)) → List ℕ → Bool
is_one_of keys key = list_any (λ k. bytes_eq k.now key) keys

-- every key of the table is in the list
abbrev pub has_only : List (List ℕ) → Members → Bool
has_only keys no_members = true
has_only keys (member k d ms) = list_any (λ l. bytes_eq l k) keys && has_only keys ms

-- the fault UnknownKey, unless the table has only these keys
abbrev pub only_keys : List (List ℕ) → Members → Result (Unit {0}) FileKind
only_keys keys ms = if has_only keys ms then Ok tt else Err UnknownKey

-- the value that was found, or the fault that its key is missing
abbrev pub found : Option Data → Result Data FileKind
found None = Err MissingKey
found (Some d) = Ok d

-- the value at the key, or the fault that the key is missing
abbrev pub present : List ℕ → Members → Result Data FileKind
present key ms = found (get_member key ms)

-- the table has every key of the list
abbrev pub has_all : List (List ℕ) → Members → Bool
has_all keys ms = list_all (λ k. is_some (get_member k ms)) keys

-- the fault MissingKey, unless the table has all these keys
abbrev pub all_keys : List (List ℕ) → Members → Result (Unit {0}) FileKind
all_keys keys ms = if has_all keys ms then Ok tt else Err MissingKey

-- a table must have the required keys, may have the optional ones, and has no others. Unknown keys are tested first
unfoldable pub with_keys : List (List ℕ) → List (List ℕ) → Members → Result (Unit {0}) FileKind
with_keys required optional ms = do
  _ ← only_keys (required ++ optional) ms
  all_keys required ms

-- the items of an array
abbrev pub list_of : Items → List Data
list_of no_items = []
list_of (item d ds) = d ∷ list_of ds

-- an integer
abbrev pub integer : Data → Result ℤ FileKind
integer (an_integer z) = Ok z
integer _ = Err WrongType

-- the bytes of a text
abbrev pub text : Data → Result (List ℕ) FileKind
text (string s) = Ok s
text _ = Err WrongType

-- the entries of an array
abbrev pub items : Data → Result (List Data) FileKind
items (array ds) = Ok (list_of ds)
items _ = Err WrongType

-- the members of a table
abbrev pub members : Data → Result Members FileKind
members (table ms) = Ok ms
members _ = Err WrongType

-- the members of a table with these keys
unfoldable pub table_with : List (List ℕ) → List (List ℕ) → Data → Result Members FileKind
table_with required optional d = do
  ms ← members d
  _ ← with_keys required optional ms
  Ok ms

-- the integer, the text and the array at a key
unfoldable pub integer_at : List ℕ → Members → Result ℤ FileKind
integer_at key ms = present key ms >>= integer

unfoldable pub text_at : List ℕ → Members → Result (List ℕ) FileKind
text_at key ms = present key ms >>= text

unfoldable pub items_at : List ℕ → Members → Result (List Data) FileKind
items_at key ms = present key ms >>= items

-- the fault WrongType, unless each value is an integer
abbrev pub all_integers : List Data → Result (Unit {0}) FileKind
all_integers ds = if list_all (λ d. is_some (as_integer d)) ds then Ok tt else Err WrongType

-- two integers, or none if there are fewer or more of them
abbrev pub pair : List Data → Result (Option (ℤ × ℤ)) FileKind
pair (first ∷ second ∷ []) = integer first >>= λ m. integer second >>= λ n. Ok (Some (m, n))
pair ds = seen (λ _. None) (all_integers ds)

-- the two integers of the array at a key, or none if it has fewer or more of them
unfoldable pub pair_at : List ℕ → Members → Result (Option (ℤ × ℤ)) FileKind
pair_at key ms = items_at key ms >>= pair

-- a number that is not negative
abbrev pub natural : ℤ → Result ℕ FileKind
natural (pos n) = Ok n
natural (negsuc n) = Err OutOfRange

-- a number from low to high
abbrev pub within : ℕ → ℕ → ℤ → Result ℕ FileKind
within low high (pos n) = if nat_le low n && nat_le n high then Ok n else Err OutOfRange
within low high (negsuc n) = Err OutOfRange

-- a number below the limit
abbrev pub below : ℕ → ℤ → Result ℕ FileKind
below limit (pos n) = if nat_lt n limit then Ok n else Err OutOfRange
below limit (negsuc n) = Err OutOfRange

-- an integer from low to high
abbrev pub number : ℕ → ℕ → Data → Result ℕ FileKind
number low high d = integer d >>= within low high

-- a test of a value that may be missing
abbrev pub of_some : {A B : Type 0} → (A → Result B FileKind) → Option A → Result (Option B) FileKind
of_some test None = Ok None
of_some test (Some x) = do
  y ← test x
  Ok (Some y)

-- the integer at a key, if the table has the key
unfoldable pub optional_integer_at : List ℕ → Members → Result (Option ℤ) FileKind
optional_integer_at key ms = of_some integer (get_member key ms)

-- the fault OutOfRange, unless the list has low to high elements
abbrev pub sized : {A : Type 0} → ℕ → ℕ → List A → Result (Unit {0}) FileKind
sized low high xs = if nat_le low (length xs) && nat_le (length xs) high then Ok tt else Err OutOfRange

-- f of each element with its place, from i on, or the first fault
unfoldable pub each_from : {E A B : Type 0} → ℕ → (ℕ → A → Result B E) → List A → Result (List B) E
each_from i f [] = Ok []
each_from i f (x ∷ xs) = do
  y ← f i x
  ys ← each_from (i + 1) f xs
  Ok (y ∷ ys)

-- f of each element, or the first fault
abbrev pub each : {E A B : Type 0} → (A → Result B E) → List A → Result (List B) E
each f = each_from 0 (λ _. f)

-- What a function returned, seen by view, is what reading gives, unless memory ran out.
abbrev pub Gives : {E X Y : Type 0} → E → (X → Y) → Result X E → Result Y E → Type 0
Gives memory view (Ok x) read = read ≡ Ok (view x)
Gives memory view (Err e) read = (e ≡ memory) ⊎ (read ≡ Err e)
