-- A table with one more member.
use Rattle.std.proofs.Common.{◌≡◌, ℕ, List, [], ◌∷◌, Option, Some, None, refl, sym, ◌∙◌, Ordering, Less, Equal, Greater, nat_cmp, is_eq, cond}
use Rattle.std.proofs.Common.{String, Global, string_bytes}
use Rattle.std.proofs.lemmas.Option.{none-some}
use Rattle.std.specs.BTreeMap.{insert_entry}
use Rattle.std.specs.String.{string_cmp}
use Rattle.std.specs.Ordering.{match_ordering}
use Rattle.std.specs.Cmp.Lexicographic.{slice_cmp}
use Rattle.toml.specs.declared.value.Value.{Value}
use Rattle.toml.specs.Data.{Data, Members, no_members, member, get_member}
use Rattle.toml.specs.View.{view, members_view}
use Rattle.toml.specs.Tables.{Node, Nodes, no_nodes, node, value, insert, get_node, close, close_node}
use Rattle.toml.proofs.Views.{Entry}
use Rattle.cbsrun_toml.specs.Reading.{nodes_of, insert_member}

-- a choice by the order of two keys, as nodes
match_nodes : (o : Ordering) (a b c : Members) → nodes_of (match_ordering o a b c) ≡ match_ordering o (nodes_of a) (nodes_of b) (nodes_of c)
match_nodes Less a b c = refl
match_nodes Equal a b c = refl
match_nodes Greater a b c = refl

-- one more member is one more node
pub nodes_of-insert_member : (k : List ℕ) (d : Data) (ms : Members) → nodes_of (insert_member k d ms) ≡ insert k (value d) (nodes_of ms)
nodes_of-insert_member k d no_members = refl
nodes_of-insert_member k d (member l e ms) = match_nodes (slice_cmp nat_cmp k l) _ _ _ ∙ rw (nodes_of-insert_member k d ms)

-- such a choice, as complete tables
match_closed : (o : Ordering) (a b c : Nodes) → close (match_ordering o a b c) ≡ match_ordering o (close a) (close b) (close c)
match_closed Less a b c = refl
match_closed Equal a b c = refl
match_closed Greater a b c = refl

-- the members of nodes with one more
pub close-insert : (k : List ℕ) (x : Node) (ns : Nodes) → close (insert k x ns) ≡ insert_member k (close_node x) (close ns)
close-insert k x no_nodes = refl
close-insert k x (node l y ns) = match_closed (slice_cmp nat_cmp k l) _ _ _ ∙ rw (close-insert k x ns) refl

-- if nothing is found as a value, nothing is found as a node
none_at : (o : Ordering) (y : Node) (a : Option Data) (b : Option Node) → match_ordering o a (Some (close_node y)) a ≡ None → (a ≡ None → b ≡ None)
    → cond (is_eq o) (Some y) b ≡ None
none_at Less y a b none ih = ih none
none_at Equal y a b none ih = absurd (none-some (close_node y) (sym none))
none_at Greater y a b none ih = ih none

-- what none of the members has, no node has
pub closed_none : (k : List ℕ) (ns : Nodes) → get_member k (close ns) ≡ None → get_node k ns ≡ None
closed_none k no_nodes none = refl
closed_none k (node l y ns) none = none_at (slice_cmp nat_cmp k l) y (get_member k (close ns)) (get_node k ns) none (closed_none k ns)

-- a choice by the order of two keys, as entries
match_members : (o : Ordering) (a b c : List Entry) → members_view (match_ordering o a b c)
    ≡ match_ordering o (members_view a) (members_view b) (members_view c)
match_members Less a b c = refl
match_members Equal a b c = refl
match_members Greater a b c = refl

-- one more entry is one more member
pub members_view-insert_entry : (es : List Entry) (k : String Global) (v : Value)
    → members_view (insert_entry string_cmp es k v) ≡ insert_member (string_bytes k) (view v) (members_view es)
members_view-insert_entry [] k v = refl
members_view-insert_entry (e ∷ es) k v = match_members (string_cmp k e.0) _ _ _ ∙ rw (members_view-insert_entry es k v)
