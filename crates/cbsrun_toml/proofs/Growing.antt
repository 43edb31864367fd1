-- A document in which an array of tables grows.
use Rattle.std.proofs.Common.{◌≡◌, ℕ, List, [], ◌∷◌, Option, Some, None, option_map, refl}
use Rattle.toml.specs.Data.{table, Items, no_items, push_item}
use Rattle.toml.specs.Tables.{Nodes, no_nodes, open_array, insert, replace, get_node, close, array_table, put, along_header, at_key, define}
use Rattle.toml.proofs.NodeLaws.{get_node-insert, replace-insert, along_found}
use Rattle.toml.proofs.Turns.{at_key_ok}
use Rattle.cbsrun_toml.specs.Reading.{IsPlace, growing}

module _ (key : List ℕ) (root : Nodes) (done : Items) where
  -- the document after a pair was put into its last table
  written : (last : Nodes) (o : Option Nodes)
      → option_map (λ r. (r, key ∷ [])) (option_map (λ new. replace key new (insert key (open_array done last) root)) (option_map (open_array done) o))
      ≡ option_map (growing key root done) o
  written last None = refl
  written last (Some new) = rw (replace-insert key (open_array done last) (open_array done new) root) refl

  -- pairs go into the last table
  pub place_growing : IsPlace (growing key root done)
  unfolding define along_header
  place_growing ns k d =
      rw (along_found key [] (put k d) (insert key (open_array done ns) root) (open_array done ns) (get_node-insert key (open_array done ns) root))
      (written ns (put k d ns))

  -- a header with the key begins another table
  pub next_table : (last : Nodes) → define (growing key root done last) (([], key), array_table)
      ≡ Some (growing key root (push_item done (table (close last))) no_nodes)
  unfolding define along_header
  next_table last =
      let x = open_array done last in
      let y = open_array (push_item done (table (close last))) no_nodes in
      rw (
        at_key_ok key array_table (insert key x root) (replace key y (insert key x root)) x y (get_node-insert key x root) refl refl,
        replace-insert key x y root,
      ) refl

-- a header with a new key begins an array
pub first_table : (key : List ℕ) (root : Nodes) (path : List (List ℕ)) → get_node key root ≡ None
    → define (root, path) (([], key), array_table) ≡ Some (growing key root no_items no_nodes)
unfolding define along_header at_key
first_table key root path none = rw none refl
