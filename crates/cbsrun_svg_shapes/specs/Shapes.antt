-- The elements of a picture, and their shapes.
use Rattle.std.specs.Prelude.{ℕ, eqb, ltb, if◌then◌else◌, List, [], ◌∷◌, codes, flat_map, ◌+◌, ◌-◌, ◌++◌, decimal, length}
use Rattle.std.specs.Str.Lossy.{utf8_lossy}
use Rattle.cbsrun_window.specs.declared.stretch.Stretch.{Stretch}
use Rattle.cbsrun_svg_shapes.specs.Axes.{AxisSeen, x_at}

-- a byte as it is written in XML. A mark of XML is written as an entity, and a byte that XML does not allow as a
-- question mark
abbrev pub escaped_byte : ℕ → List ℕ
escaped_byte b =
    if eqb b 38 then codes "&amp;"
    else if eqb b 60 then codes "&lt;"
    else if eqb b 62 then codes "&gt;"
    else if eqb b 34 then codes "&quot;"
    else if ltb b 32 then codes "?"
    else b ∷ []

-- a text as it is written in XML
abbrev pub escaped : List ℕ → List ℕ
escaped bs = utf8_lossy (flat_map escaped_byte bs)

-- a box, by its left edge, its top, its width and its height
unfoldable pub box_text : ℕ → ℕ → ℕ → ℕ → List ℕ
box_text x y width height =
    codes "M" ++ decimal x ++ codes " " ++ decimal y ++ codes "h" ++ decimal width ++ codes "v" ++ decimal height ++ codes "h-" ++ decimal width ++ codes "z"

-- the width of a stretch
abbrev pub width_of : AxisSeen → Stretch → ℕ
width_of a p = x_at a p.to - x_at a p.from

-- the box of a stretch, by its top and its height
abbrev pub stretch_text : AxisSeen → ℕ → ℕ → Stretch → List ℕ
stretch_text a y height p = box_text (x_at a p.from) y (width_of a p) height

-- an arrow with a head that points up, from one height to another
unfoldable pub arrow_up_text : ℕ → ℕ → ℕ → ℕ → ℕ → List ℕ
arrow_up_text x from to half high =
    codes "M" ++ decimal x ++ codes " " ++ decimal from ++ codes "V" ++ decimal to ++ codes "m-" ++ decimal half ++ codes " " ++ decimal high
    ++ codes "l" ++ decimal half ++ codes "-" ++ decimal high ++ codes "l" ++ decimal half ++ codes " " ++ decimal high

-- an arrow with a head that points down, from one height to another
unfoldable pub arrow_down_text : ℕ → ℕ → ℕ → ℕ → ℕ → List ℕ
arrow_down_text x from to half high =
    codes "M" ++ decimal x ++ codes " " ++ decimal from ++ codes "V" ++ decimal to ++ codes "m-" ++ decimal half ++ codes "-" ++ decimal high
    ++ codes "l" ++ decimal half ++ codes " " ++ decimal high ++ codes "l" ++ decimal half ++ codes "-" ++ decimal high

-- an upright line, from one height to another
unfoldable pub upright_text : ℕ → ℕ → ℕ → List ℕ
upright_text x from to = codes "M" ++ decimal x ++ codes " " ++ decimal from ++ codes "V" ++ decimal to

-- a stem with a cross at its upper end
unfoldable pub cross_text : ℕ → ℕ → ℕ → List ℕ
cross_text x from top =
    codes "M" ++ decimal x ++ codes " " ++ decimal from ++ codes "V" ++ decimal (top + 250) ++ codes "M" ++ decimal (x - 250) ++ codes " " ++ decimal top
    ++ codes "l500 500M" ++ decimal (x - 250) ++ codes " " ++ decimal (top + 500) ++ codes "l500-500"

-- a shape of a class; nothing if the shape is empty
unfoldable pub path_text : List ℕ → List ℕ → List ℕ
path_text class shape =
    if eqb (length shape) 0 then []
    else codes "<path class=\"" ++ class ++ codes "\" d=\"" ++ shape ++ codes "\"/>\n"

-- a shape of a class, with lines of this width; nothing if the shape is empty
unfoldable pub lines_text : List ℕ → ℕ → List ℕ → List ℕ
lines_text class stroke shape =
    if eqb (length shape) 0 then []
    else codes "<path class=\"" ++ class ++ codes "\" stroke-width=\"" ++ decimal stroke ++ codes "\" d=\"" ++ shape ++ codes "\"/>\n"

-- a shape of a class, with a title
unfoldable pub titled_text : List ℕ → List ℕ → List ℕ → List ℕ
titled_text class shape title =
    codes "<path class=\"" ++ class ++ codes "\" d=\"" ++ shape ++ codes "\"><title>" ++ title ++ codes "</title></path>\n"

-- a text of a class, at a place
unfoldable pub label_text : List ℕ → ℕ → ℕ → List ℕ → List ℕ
label_text class x y text =
    codes "<text class=\"" ++ class ++ codes "\" x=\"" ++ decimal x ++ codes "\" y=\"" ++ decimal y ++ codes "\">" ++ text ++ codes "</text>\n"
