-- The place of a fault, and what is written beside it.
use Rattle.std.specs.Prelude.{◌≡◌, ℕ, codes, List, [], slice_get, MatchOption, Option, Some, None}
use Rattle.std.specs.Fmt.{◌++?◌, debug_str}
use Rattle.toml.specs.Data.{Members}
use Rattle.toml.specs.View.{table_view}
use Rattle.cbsrun_toml_tables.specs.declared.fault.Place.TheVariants.{Server}
use Rattle.cbsrun_faults.specs.Documents.{kind_of, servers_of, name_at}
use Rattle.cbsrun_faults.specs.declared.document.Document.{Document}
use Rattle.cbsrun_faults.specs.declared.document.Kind.{Kind}
use Rattle.cbsrun_faults.specs.declared.document.Kind.TheVariants.{Load, Record}
use Rattle.cbsrun_faults.specs.declared.spot.Label.{Label}
use Rattle.cbsrun_faults.specs.declared.spot.Label.TheVariants as label
use Rattle.cbsrun_faults.specs.declared.spot.Spot.{Spot}

-- what is written beside the number of an entry. No claim is made of a name with other letters than those of ASCII
abbrev pub label_text : Label → Option (List ℕ)
label_text label.Nothing = Some []
label_text (label.Named name) = Some (codes ", ") ++? debug_str name.now
label_text (label.Of name) = Some (codes ", of ") ++? debug_str name.now
label_text (label.Does what) = Some (codes ", ") ++? Some what.now

abbrev pub label_of : Spot → Option (List ℕ)
label_of spot = label_text spot.label

-- what is written beside the number of a server with this name: in a load file and in a record the name, in quotes
abbrev pub named_label : Kind → Option (List ℕ) → Option (List ℕ)
named_label Load (Some name) = Some (codes ", ") ++? debug_str name
named_label Record (Some name) = Some (codes ", ") ++? debug_str name
named_label _ _ = Some []

-- what is written beside the number of a server of the document with this top table
abbrev pub server_label : Members → ℕ → Option (List ℕ)
server_label top number = named_label (kind_of top) (name_at (servers_of top) number)

-- the spot is that of the server with this number of the document
pub record IsServerSpot (read : Document) (number : ℕ) (spot : Spot) : Type 0 where
  pub document : spot.document ≡ read
  pub place : spot.place ≡ Server number
  pub label : label_of spot ≡ named_label read.kind (name_at (servers_of (table_view read.top.now)) number)

-- so it is if the document has such an entry of `server`, and else there is no spot
abbrev pub FindsServer : Document → ℕ → Option Spot → Type 0
FindsServer document number found =
    MatchOption found (slice_get (servers_of (table_view document.top.now)) number ≡ None) (IsServerSpot document number)
