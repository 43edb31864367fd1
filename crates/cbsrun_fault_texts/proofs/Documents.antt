-- The spot of a server, and what was appended about it, by the file in which it stands.
use Rattle.std.proofs.Common.{◌≡◌, ℕ, List, map, None}
use Rattle.std.specs.Prelude.{slice_get}
use Rattle.toml.specs.Data.{Members}
use Rattle.toml.specs.View.{view, table_view}
use Rattle.cbsrun_faults.specs.Documents.{IsDocument, servers_of}
use Rattle.cbsrun_faults.specs.Spots.{IsServerSpot}
use Rattle.cbsrun_faults.specs.declared.document.Document.{Document}
use Rattle.cbsrun_faults.specs.declared.spot.Spot.{Spot}
use Rattle.cbsrun_refusal_texts.specs.Pages.{PageText}
use Rattle.cbsrun_refusal_texts.specs.Refusals.{AppendsRefusal, IsNotRefusedAt, IsSpotLine}
use Rattle.cbsrun_fault_texts.specs.Explanations.{IsServerLine}

module _ (document : Document) (number : ℕ) (file : List ℕ) (top : Members) (is : IsDocument file top document) where
  -- what was appended by the spot was appended by the file
  pub refusal_of : (spot : Spot) (old new : PageText) → IsServerSpot document number spot
      → AppendsRefusal (IsSpotLine spot) (table_view spot.document.top.now) (map view spot.document.servers.now) number old new
      → AppendsRefusal (IsServerLine file top number) top (servers_of top) number old new
  refusal_of spot old new at appended =
      let by_document = rw (at.place, at.label, at.document) at appended in
      rw (is.name, is.kind, is.top, is.servers) at by_document

  -- a server that is not there is not refused
  pub none_refused : slice_get (servers_of (table_view document.top.now)) number ≡ None → IsNotRefusedAt top (servers_of top) number
  none_refused none refused h =
      let there = rw is.top at none in
      let entry = rw there at h.entry in
      cc
