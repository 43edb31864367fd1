-- A document whose first lines were read, with what may follow them: its end, or one more array of tables.
use Rattle.std.specs.Borrow.{Bor}
use Rattle.std.proofs.lemmas.Bool.{true≢false}
use Rattle.std.proofs.Common.{is_some, suc}
use Rattle.std.proofs.Common.{◌≡◌, ℕ, ◌-◌, ◌<◌, ◌==◌, false, List, [], ◌∷◌, length, Option, Some, None, ap, ◌∙◌, refl, arith}
use Rattle.toml_parser.specs.Lexical.{skip_blank}
use Rattle.toml.specs.Data.{Data, Items, Members, array, no_items, table, push_item, get_member}
use Rattle.toml.specs.Parse.{line, lines, skip_bom, parse_document}
use Rattle.toml.specs.Tables.{Nodes, Document, no_nodes, open_array, insert, get_node, close, array_table, define, along_header}
use Rattle.toml.proofs.Turns.{lines_end, lines_more, lines_bad}
use Rattle.cbsrun_toml.specs.Reading.{growing, insert_member, closed, BeginsArray, EndsArrays, IsPlace}
use Rattle.cbsrun_toml.proofs.Growing.{first_table}
use Rattle.cbsrun_toml.proofs.Members.{close-insert, closed_none}

-- the lines of a document were read up to the text `rest`, and give these members
pub record ReadsUpTo (n : ℕ) (doc : Document) (s : List ℕ) (m : ℕ) (now : Nodes) (last : List (List ℕ)) (rest : List ℕ) (members : Members) : Type 0 where
  pub so_far : lines n doc s ≡ lines m (now, last) rest
  pub same : close now ≡ members
  pub room : length rest < m

module _ {n m : ℕ} {doc : Document} {now : Nodes} {last : List (List ℕ)} {s rest : List ℕ} {members : Members} (far : ReadsUpTo n doc s m now last rest members) where
  -- at its end, the document has these members
  pub at_end : length (skip_blank rest) ≡ 0 → closed (lines n doc s) ≡ Some members
  at_end over = let room = far.room in ap closed far.so_far ∙ rw (lines_end m (now, last) rest (omega arith) over) (ap Some far.same)

  module _ (more : (length (skip_blank rest) == 0) ≡ false) where
    -- if the next line is refused, so is the document
    pub refused_line : line (skip_blank rest) ≡ None → closed (lines n doc s) ≡ None
    refused_line bad = let room = far.room in ap closed far.so_far ∙ rw (lines_bad m (now, last) rest (omega arith) more bad) refl

    module _ (key body : List ℕ) (header : line (skip_blank rest) ≡ Some ((([], key), array_table), body)) (free : get_member key members ≡ None) where
      -- no other value stands at the key, so an array of tables begins there
      pub no_node : get_node key now ≡ None
      no_node = closed_none key now (rw far.same free)

      begun : lines m (now, last) rest ≡ lines (m - 1) (growing key now no_items no_nodes) body
      begun = let room = far.room in lines_more m (now, last) _ rest _ _ (omega arith) more header (first_table key now last no_node)

      -- if its tables are refused, so is the document
      pub refused_tables : lines (m - 1) (growing key now no_items no_nodes) body ≡ None → closed (lines n doc s) ≡ None
      refused_tables bad = ap closed far.so_far ∙ rw (begun, bad) refl

      -- an array begins after the lines so far
      pub begins : length body < m - 1 → BeginsArray key n doc s members body
      begins less = (m - 1, now, less, far.same, free, far.so_far ∙ begun)

      module _ (k : ℕ) (done : Items) (latest : Nodes) (after : List ℕ) where
        -- or else the document goes on after them
        pub next_lines : lines (m - 1) (growing key now no_items no_nodes) body ≡ lines k (growing key now done latest) after
            → lines n doc s ≡ lines k (insert key (open_array done latest) now, key ∷ []) after
        next_lines read = far.so_far ∙ begun ∙ read

        -- with the array as one more member
        pub next_members : (d : Data) → d ≡ array (push_item done (table (close latest))) → close (insert key (open_array done latest) now) ≡ insert_member key d members
        next_members d is = close-insert key (open_array done latest) now ∙ rw (far.same, is) refl

-- the document is its lines after the byte order mark
pub document_is : (s : List ℕ) → parse_document s ≡ closed (lines (suc (length s)) (no_nodes, []) (skip_bom s))
unfolding parse_document
document_is s = refl

-- the first pairs go into the top table
pub place_top : IsPlace (λ ns. (ns, []))
unfolding define along_header
place_top ns key d = refl

-- if no header ended the arrays, they are all of the document
pub ends_none : (key : List ℕ) (n : ℕ) (doc : Document) (text : List ℕ) (members : Members) (o : Option (Bor (List ℕ))) → is_some o ≡ false
    → EndsArrays key n doc text members o → closed (lines n doc text) ≡ Some members
ends_none key n doc text ms None h e = e
ends_none key n doc text ms (Some body) h e = absurd (true≢false h)
