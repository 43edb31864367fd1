-- The servers of a picture that are drawn.
use Rattle.std.specs.Prelude.{◌≡◌, ℕ, ◌+◌, ◌-◌, Bool, List, bytes_eq, eqb, if◌then◌else◌, filter, length, min, string_bytes}
use Rattle.std.specs.List.{list_any}
use Rattle.cbsrun_chart.specs.declared.picture.Drawn.{Drawn}
use Rattle.cbsrun_chart.specs.declared.picture.Picture.{Picture}

-- a server has one of these names
abbrev pub is_named : List (List ℕ) → Drawn → Bool
is_named names d = list_any (λ name. bytes_eq name (string_bytes d.name)) names

-- those of the servers that have one of these names, in their order; without names, all of them
abbrev pub chosen : List (List ℕ) → List Drawn → List Drawn
chosen names ds = if eqb (length names) 0 then ds else filter (is_named names) ds

-- A picture is that of the servers of another one that have these names. All else is as it was, the row of idle ticks, too,
-- and the servers that are left out are counted, up to 2^64 - 1
pub record IsChosen (names : List (List ℕ)) (all p : Picture) : Type 0 where
  pub servers : p.servers.items ≡ chosen names all.servers.items
  pub others : p.others ≡ min (all.others + (length all.servers.items - length p.servers.items)) 18446744073709551615
  pub file : p.file ≡ all.file
  pub reserved : p.reserved ≡ all.reserved
  pub window : p.window ≡ all.window
  pub end : p.end ≡ all.end
  pub tick : p.tick ≡ all.tick
  pub idle : p.idle ≡ all.idle
