-- What the entries of `server` make of something, of which the first i are taken in.
use Rattle.std.proofs.Common.{◌≡◌, ℕ, ◌+◌, ◌<◌, ◌≤◌, List, length, map, drop, get_or, Result, Ok, Err, refl, sym, ◌∙◌}
use Rattle.std.proofs.lemmas.List.{drop_more}
use Rattle.std.proofs.Math.ListN.{drop_of_length-le}
use Rattle.toml.specs.Data.{Data}
use Rattle.cbsrun_toml_tables.specs.declared.fault.FileFault.{FileFault}
use Rattle.cbsrun_toml_tables.specs.declared.fault.FileKind.{FileKind}
use Rattle.cbsrun_toml_tables.specs.declared.fault.Place.TheVariants.{Server}
use Rattle.cbsrun_toml_tables.specs.Documents.{at, taken_in}

module _ {S V : Type 0} (view : V → Data) (take : S → Data → Result S FileKind) where
  -- the next entry is taken in
  pub taken_on : (i : ℕ) (so_far next : S) (vs : List V) (v : V) (total : Result S FileFault) → i < length vs
      → at (Server i) (take so_far (view (get_or vs i v))) ≡ Ok next
      → taken_in take i so_far (map view (drop i vs)) ≡ total → taken_in take (i + 1) next (map view (drop (i + 1) vs)) ≡ total
  unfolding taken_in
  taken_on i so_far next vs v total lt given before =
      let one : taken_in take i so_far (map view (drop i vs)) ≡ taken_in take (i + 1) next (map view (drop (i + 1) vs)) =
      rw (drop_more vs i v lt, given) refl in
      sym one ∙ before

  -- the next entry has a fault
  pub taken_ends : (i : ℕ) (so_far : S) (vs : List V) (v : V) (total : Result S FileFault) (e : FileFault) → i < length vs
      → at (Server i) (take so_far (view (get_or vs i v))) ≡ Err e
      → taken_in take i so_far (map view (drop i vs)) ≡ total → total ≡ Err e
  unfolding taken_in
  taken_ends i so_far vs v total e lt given before =
      let one : taken_in take i so_far (map view (drop i vs)) ≡ Err e = rw (drop_more vs i v lt, given) refl in
      sym before ∙ one

  -- no entry is left
  pub taken_done : (i : ℕ) (so_far : S) (vs : List V) (total : Result S FileFault) → length vs ≤ i
      → taken_in take i so_far (map view (drop i vs)) ≡ total → total ≡ Ok so_far
  unfolding taken_in
  taken_done i so_far vs total le before =
      let one : taken_in take i so_far (map view (drop i vs)) ≡ Ok so_far = rw (drop_of_length-le vs le) refl in
      sym before ∙ one
