-- Objects of JSON, put together key by key.
use Rattle.std.specs.Prelude.{ℕ, min, List, [], ◌∷◌, Option, Some, None, option_map}
use Rattle.std.specs.Borrow.{Bor}
use Rattle.serde_json.specs.Data.{Data, null, boolean, number, unsigned, string, array, object, no_items, item, Members, no_members, put}
use Rattle.cbsrun_json.specs.declared.scalar.Scalar.{Scalar}
use Rattle.cbsrun_json.specs.declared.scalar.Scalar.TheVariants as scalar

-- the members, with these put among them one after another. Of two with one key the later one stays
abbrev pub with_members : List (List ℕ × Data) → Members → Members
with_members [] ms = ms
with_members (m ∷ more) ms = with_members more (put m.0 m.1 ms)

-- the object of keys with their values
abbrev pub object_of : List (List ℕ × Data) → Data
object_of members = object (with_members members no_members)

-- a number as it is told: at most 2^64 - 1
abbrev pub told : ℕ → ℕ
told n = min n 18446744073709551615

-- a text, or null if there is none
abbrev pub text_if : Option (List ℕ) → Data
text_if None = null
text_if (Some text) = string text

-- a number
abbrev pub whole : ℕ → Data
whole n = number (unsigned n)

-- a number, or null if there is none
abbrev pub whole_if : Option ℕ → Data
whole_if None = null
whole_if (Some n) = whole n

-- the same of a number that may be greater than 2^64 - 1
abbrev pub long_if : Option ℕ → Data
long_if None = null
long_if (Some n) = whole (told n)

-- two numbers: a part and its whole, a sum and a count, or the least and the greatest
unfoldable pub pair_data : ℕ → ℕ → Data
pair_data a b = array (item (whole a) (item (whole b) no_items))

-- two numbers, or null if there are none
abbrev pub pair_if : Option (ℕ × ℕ) → Data
pair_if None = null
pair_if (Some p) = pair_data p.0 p.1

-- a value with no keys
abbrev pub scalar_data : Scalar → Data
scalar_data (scalar.Is so) = boolean so
scalar_data (scalar.Text text) = string text.now
scalar_data (scalar.TextIf text) = text_if (option_map (λ t. t.now) text)
scalar_data (scalar.Whole n) = whole n
scalar_data (scalar.WholeIf n) = whole_if n
scalar_data (scalar.LongIf n) = long_if n
scalar_data (scalar.Pair a b) = pair_data a b
scalar_data (scalar.PairIf pair) = pair_if pair

-- a key with what is told as its value
abbrev pub member_of : {T : Type 0} → (T → Data) → Bor (List ℕ) × T → List ℕ × Data
member_of shown m = (m.0.now, shown m.1)
