-- The servers of a document, by its top table, and their names.
use Rattle.std.specs.Prelude.{◌≡◌, ℕ, pos, Bool, false, eqb, if◌then◌else◌, codes, List, [], is_some, map, option_and_then, slice_get, Option, Some, None, Result, Ok, Err}
use Rattle.toml.specs.Data.{Data, Members, integer, get_member}
use Rattle.toml.specs.View.{view, table_view}
use Rattle.cbsrun_faults.specs.declared.document.Document.{Document}
use Rattle.cbsrun_faults.specs.declared.document.Kind.{Kind}
use Rattle.cbsrun_faults.specs.declared.document.Kind.TheVariants.{FormatOne, FormatTwo, Load, Record}
use Rattle.cbsrun_toml_tables.specs.declared.fault.FileKind.{FileKind}
use Rattle.cbsrun_toml_tables.specs.Fields.{◌>>=◌, members, text_at, items_at}

-- it is the number 1
abbrev pub is_one : Option Data → Bool
is_one (Some (integer (pos n))) = eqb n 1
is_one _ = false

-- the kind of the file with this top table: a load file if it has a key `load`, and else a record if it has a key `record`
abbrev pub kind_of : Members → Kind
kind_of top =
    if is_some (get_member (codes "load") top) then Load
    else if is_some (get_member (codes "record") top) then Record
    else if is_one (get_member (codes "format") top) then FormatOne
    else FormatTwo

-- the entries that were found, or none
abbrev pub those_of : Result (List Data) FileKind → List Data
those_of (Ok entries) = entries
those_of (Err kind) = []

-- the entries of the array at a key, or none if there is no array
abbrev pub entries_at : List ℕ → Members → List Data
entries_at key top = those_of (items_at key top)

-- the entries of `server`
abbrev pub servers_of : Members → List Data
servers_of = entries_at (codes "server")

-- the text that was found, if one was
abbrev pub if_found : Result (List ℕ) FileKind → Option (List ℕ)
if_found (Ok text) = Some text
if_found (Err kind) = None

-- the text at a key of an entry, if the entry is a table with a text there
abbrev pub text_of : List ℕ → Data → Option (List ℕ)
text_of key entry = if_found (members entry >>= text_at key)

-- the name of a server, if its entry has one
abbrev pub name_of : Data → Option (List ℕ)
name_of = text_of (codes "name")

-- the name of the server with this number, if there is such a server and it has a name
abbrev pub name_at : List Data → ℕ → Option (List ℕ)
name_at servers number = option_and_then name_of (slice_get servers number)

-- the document is that of a file with this name and this top table
pub record IsDocument (file : List ℕ) (members : Members) (document : Document) : Type 0 where
  pub name : document.name.now ≡ file
  pub kind : document.kind ≡ kind_of members
  pub top : table_view document.top.now ≡ members
  pub servers : map view document.servers.now ≡ servers_of members
