-- How what is read of a document relates to what the grammar gives.
use Rattle.std.specs.Prelude.{◌≡◌, ℕ, ◌==◌, ◌<◌, ◌||◌, true, List, [], ◌∷◌, length, Option, Some, None, option_map, Result, MatchResult, String, Vec}
use Rattle.std.specs.Borrow.{Bor}
use Rattle.std.specs.Ordering.{nat_cmp, match_ordering}
use Rattle.std.specs.Cmp.Lexicographic.{slice_cmp}
use Rattle.std.specs.BTreeMap.{BTreeMap}
use Rattle.std.specs.declared.alloc.Global.{Global}
use Rattle.toml_parser.specs.Lexical.{first, skip_blank}
use Rattle.toml_parser.specs.Strings.{Key}
use Rattle.toml.specs.Data.{Data, table, Items, no_items, push_item, Members, no_members, member, get_member}
use Rattle.toml.specs.Parse.{lines}
use Rattle.toml.specs.Tables.{Nodes, no_nodes, node, value, open_array, insert, close, put, key_value, Document, define}
use Rattle.toml.specs.View.{array_view, table_view}
use Rattle.toml.specs.declared.value.Value.{Value}
use Rattle.cbsrun_toml_tokens.specs.declared.stop.Stop.{Stop}
use Rattle.cbsrun_toml_tokens.specs.declared.stop.Stop.TheVariants.{NotToml}
pub use Rattle.cbsrun_toml_tokens.specs.Tokens.{Gives, Reads, Shortens}

-- the map of a table
abbrev pub Table : Type 0
Table = BTreeMap (String Global) Value

-- the nodes of complete values
abbrev pub nodes_of : Members → Nodes
nodes_of no_members = no_nodes
nodes_of (member k d ms) = node k (value d) (nodes_of ms)

-- the function `at` builds a document from the nodes at one place of it. Defining a pair in that document puts the pair
-- into those nodes
abbrev pub IsPlace : (Nodes → Document) → Type 0
IsPlace at = (ns : Nodes) (key : Key) (d : Data) → define (at ns) (key, key_value d) ≡ option_map at (put key d ns)

-- no pair comes next: only blanks and comments are left, or a header comes
abbrev pub EndsPairs : List ℕ → Type 0
EndsPairs text = (length (skip_blank text) == 0 || first (skip_blank text) == 91) ≡ true

-- the lines of a text, up to some other line, are the pairs of a table, and go to a place; or the grammar refuses
abbrev pub ReadsPairs : ℕ → (Nodes → Document) → List ℕ → Result (Table × Bor (List ℕ)) Stop → Type 0
ReadsPairs n at text r = MatchResult r
    (λ p. (m : ℕ) × (length p.1.now < m) × (lines n (at no_nodes) text ≡ lines m (at (nodes_of (table_view p.0))) p.1.now))
    (λ e. e ≡ NotToml → lines n (at no_nodes) text ≡ None)

-- the document while an array of tables grows at a key of the top table. `done` are its complete tables, and `last` is
-- its last one
abbrev pub growing : List ℕ → Nodes → Items → Nodes → Document
growing key root done last = (insert key (open_array done last) root, key ∷ [])

-- after the header of the first table, the lines of a text up to some other line are the tables of the array. Or the
-- grammar refuses
abbrev pub ReadsTables : List ℕ → ℕ → Nodes → List ℕ → Result (Vec Value Global × Bor (List ℕ)) Stop → Type 0
ReadsTables key n root text r = MatchResult r
    (λ p. (m : ℕ) × (length p.1.now < m) × (done : Items) × (last : Nodes)
    × (lines n (growing key root no_items no_nodes) text ≡ lines m (growing key root done last) p.1.now)
    × (array_view p.0 ≡ push_item done (table (close last))))
    (λ e. e ≡ NotToml → lines n (growing key root no_items no_nodes) text ≡ None)

-- the members with one more, at its place in the order of the keys
abbrev pub insert_member : List ℕ → Data → Members → Members
insert_member k x no_members = member k x no_members
insert_member k x (member l d ms) = match_ordering (slice_cmp nat_cmp k l) (member k x (member l d ms)) (member l x ms) (member l d (insert_member k x ms))

-- the members of a document
abbrev pub closed : Option Document → Option Members
closed = option_map (λ doc. close doc.0)

-- after the lines of a text up to some line, a document has these members. The next line is a header with a new key, and
-- `body` is the text after it
abbrev pub BeginsArray : List ℕ → ℕ → Document → List ℕ → Members → List ℕ → Type 0
BeginsArray key n doc text members body = (m : ℕ) × (root : Nodes) × (length body < m) × (close root ≡ members) × (get_member key members ≡ None)
    × (lines n doc text ≡ lines m (growing key root no_items no_nodes) body)

-- the lines of a text bring a document to these members, up to its end or to a header with the key
abbrev pub EndsArrays : List ℕ → ℕ → Document → List ℕ → Members → Option (Bor (List ℕ)) → Type 0
EndsArrays key n doc text members None = closed (lines n doc text) ≡ Some members
EndsArrays key n doc text members (Some body) = BeginsArray key n doc text members body.now

-- arrays of tables were added so. Or the grammar refuses
abbrev pub ReadsArrays : List ℕ → ℕ → Document → List ℕ → Result (Table × Option (Bor (List ℕ))) Stop → Type 0
ReadsArrays key n doc text r = MatchResult r (λ p. EndsArrays key n doc text (table_view p.0) p.1) (λ e. e ≡ NotToml → closed (lines n doc text) ≡ None)
