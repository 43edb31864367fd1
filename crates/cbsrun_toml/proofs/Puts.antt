-- A table of complete values, beside the nodes that it is while it is read.
use Rattle.std.proofs.Common.{◌≡◌, ℕ, ◌∷◌, [], List, Option, Some, None, Ordering, Less, Equal, Greater}
use Rattle.std.proofs.Common.{String, Global, string_bytes, option_map, is_some, true, false, cond, nat_cmp, is_eq, refl, ap, sym, ◌∙◌}
use Rattle.std.proofs.lemmas.Bool.{false≢true, true≢false}
use Rattle.std.specs.BTreeMap.{insert_entry, is_at}
use Rattle.std.specs.Map.{lookup}
use Rattle.std.specs.String.{string_cmp}
use Rattle.std.specs.Ordering.{match_ordering}
use Rattle.std.specs.Cmp.Lexicographic.{slice_cmp}
use Rattle.toml.specs.declared.value.Value.{Value}
use Rattle.toml.specs.Data.{Data, Members, no_members, member, get_member}
use Rattle.toml.specs.View.{view, members_view}
use Rattle.toml.specs.Tables.{Node, value, insert, get_node, close, put, along_dots, at_key}
use Rattle.toml.proofs.Views.{Entry, view-lookup}
use Rattle.cbsrun_toml.specs.Reading.{nodes_of}

-- a table of complete values is what it was made of
pub close-nodes_of : (ms : Members) → close (nodes_of ms) ≡ ms
close-nodes_of no_members = refl
close-nodes_of (member k d ms) = ap (member k d) (close-nodes_of ms)

-- what is found at a key, by the order of two keys
found_or : (o : Ordering) (d : Data) (a : Option Data) (b : Option Node) → b ≡ option_map value a
    → cond (is_eq o) (Some (value d)) b ≡ option_map value (match_ordering o a (Some d) a)
found_or Less d a b e = e
found_or Equal d a b e = refl
found_or Greater d a b e = e

-- what the nodes hold at a key
pub get_node-nodes_of : (k : List ℕ) (ms : Members) → get_node k (nodes_of ms) ≡ option_map value (get_member k ms)
get_node-nodes_of k no_members = refl
get_node-nodes_of k (member l d ms) = found_or (slice_cmp nat_cmp k l) d _ _ (get_node-nodes_of k ms)

-- an entry goes to its place, whether as an entry or as a node
match_members : (o : Ordering) (a b c : List Entry) → nodes_of (members_view (match_ordering o a b c))
    ≡ match_ordering o (nodes_of (members_view a)) (nodes_of (members_view b)) (nodes_of (members_view c))
match_members Less a b c = refl
match_members Equal a b c = refl
match_members Greater a b c = refl

-- an insert into the map of a table, as the nodes see it
pub nodes_of-insert : (es : List Entry) (k : String Global) (v : Value)
    → nodes_of (members_view (insert_entry string_cmp es k v)) ≡ insert (string_bytes k) (value (view v)) (nodes_of (members_view es))
nodes_of-insert [] k v = refl
nodes_of-insert (e ∷ es) k v = match_members (string_cmp k e.0) _ _ _ ∙ rw (nodes_of-insert es k v)

-- a pair at a key that the table does not have, and at one that it has
pub put_new : (k : List ℕ) (d : Data) (ms : Members) → get_member k ms ≡ None → put ([], k) d (nodes_of ms) ≡ Some (insert k (value d) (nodes_of ms))
unfolding along_dots at_key
put_new k d ms none = rw (get_node-nodes_of k ms, none)

-- a key that stands there is refused
from_some : (k : List ℕ) (d : Data) (ms : Members) (x : Option Data) → get_member k ms ≡ x → is_some x ≡ true → put ([], k) d (nodes_of ms) ≡ None
unfolding along_dots at_key
from_some k d ms None is h = absurd (false≢true h)
from_some k d ms (Some x) is h = rw (get_node-nodes_of k ms, is)

-- a second value at a key is refused
pub put_again : (k : List ℕ) (d : Data) (ms : Members) → is_some (get_member k ms) ≡ true → put ([], k) d (nodes_of ms) ≡ None
put_again k d ms h = from_some k d ms (get_member k ms) refl h

-- what is not there is none
none_from : (x : Option Data) → is_some x ≡ false → x ≡ None
none_from None h = refl
none_from (Some x) h = absurd (true≢false h)

-- a table that lacks a key has no value at it
pub is_none : (k : List ℕ) (ms : Members) → is_some (get_member k ms) ≡ false → get_member k ms ≡ None
is_none k ms h = none_from (get_member k ms) h

-- seeing a value neither makes nor loses it
is_some-map : (o : Option Value) → is_some (option_map view o) ≡ is_some o
is_some-map None = refl
is_some-map (Some x) = refl

-- whether the map of a table has a key
pub has_key : (k : List ℕ) (es : List Entry) → is_some (lookup (is_at (λ x. slice_cmp nat_cmp k (string_bytes x))) es)
    ≡ is_some (get_member k (members_view es))
has_key k es = sym (is_some-map _) ∙ ap is_some (view-lookup k es)
