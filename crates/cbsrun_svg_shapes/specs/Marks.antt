-- The marks of ticks: jobs that come, are finished or are refused, and deadlines.
use Rattle.std.specs.Prelude.{ℕ, ◌+◌, ◌-◌, ◌*◌, ◌/◌, min, max, if◌then◌else◌, List, [], ◌++◌, codes, decimal, flat_map, Option}
use Rattle.std.specs.List.{range_with_len}
use Rattle.cbsrun_chart.specs.declared.course.Corner.{Corner}
use Rattle.cbsrun_window.specs.declared.stretch.Stretch.{Stretch}
use Rattle.cbsrun_time_texts.specs.Texts.{time_text}
use Rattle.cbsrun_svg_shapes.specs.Axes.{AxisSeen, right_of, x_at}
use Rattle.cbsrun_svg_shapes.specs.declared.layout.Layout.{Layout}
use Rattle.cbsrun_svg_shapes.specs.Shapes.{arrow_down_text, arrow_up_text, cross_text, label_text, lines_text, upright_text}

-- the width of the lines of marks, half the width of an arrow's head, and its height
abbrev pub stroke_of : AxisSeen → ℕ
stroke_of a = min 120 (a.width * 3 / 5)

abbrev pub half_of : AxisSeen → ℕ
half_of a = min 300 (a.width * 9 / 10)

abbrev pub high_of : AxisSeen → ℕ
high_of a = half_of a * 4 / 3

-- an arrow that stands on the bar at the tick at which a job comes
abbrev pub arrival_text : AxisSeen → Layout → ℕ → List ℕ
arrival_text a l t = arrow_up_text (x_at a t) l.bar l.top (half_of a) (high_of a)

unfoldable pub arrivals_path : AxisSeen → Layout → List ℕ → List ℕ
arrivals_path a l ts = lines_text (codes "mark") (stroke_of a) (flat_map (arrival_text a l) ts)

-- an arrow that points down from the line at a deadline
abbrev pub deadline_text : AxisSeen → Layout → ℕ → List ℕ
deadline_text a l t = arrow_down_text (x_at a t) l.line l.tip (half_of a) (high_of a)

unfoldable pub deadlines_path : AxisSeen → Layout → List ℕ → List ℕ
deadlines_path a l ts = lines_text (codes "mark") (stroke_of a) (flat_map (deadline_text a l) ts)

-- how far the line of a finished job rises above the bar
abbrev pub rise_of : Layout → ℕ
rise_of l = if l.compact then 150 else 400

-- a line across the end of the bar, at the tick at which a job is finished
abbrev pub completion_text : AxisSeen → Layout → ℕ → List ℕ
completion_text a l t = upright_text (x_at a t) (l.bar - rise_of l) (l.bar + l.height)

-- the width of those lines, and that with an edge, which is at most 0.6 pixels wide on each side
abbrev pub end_stroke : AxisSeen → ℕ
end_stroke a = stroke_of a * 3 / 2

abbrev pub edge_stroke : AxisSeen → ℕ
edge_stroke a = end_stroke a + min 120 (a.width / 5)

-- the lines of finished jobs, on an edge, which is seen in the dark: there lines and bars may be equally light
unfoldable pub ends_path : AxisSeen → List ℕ → List ℕ
ends_path a shape = lines_text (codes "edge") (edge_stroke a) shape ++ lines_text (codes "mark") (end_stroke a) shape

unfoldable pub completions_path : AxisSeen → Layout → List ℕ → List ℕ
completions_path a l ts = ends_path a (flat_map (completion_text a l) ts)

-- a cross at a tick in which a release is refused
abbrev pub refusal_text : AxisSeen → Layout → ℕ → List ℕ
refusal_text a l t = cross_text (x_at a t) l.bar l.top

-- a cross at each tick of a stretch
unfoldable pub crosses_text : AxisSeen → Layout → Stretch → List ℕ
crosses_text a l p = flat_map (λ k. refusal_text a l (p.from + k)) (range_with_len 0 (p.to - p.from))

unfoldable pub refused_path : AxisSeen → Layout → List Stretch → List ℕ
refused_path a l ps = lines_text (codes "no") 160 (flat_map (crosses_text a l) ps)

-- the height at which a budget is drawn, if a whole budget is `whole`
unfoldable pub level_of : ℕ → ℕ → ℕ
level_of whole budget = 6300 - min budget whole * 1300 / max 1 whole

-- a corner of a budget's course
unfoldable pub corner_text : AxisSeen → ℕ → Corner → List ℕ
corner_text a whole c = codes "L" ++ decimal (x_at a c.tick) ++ codes " " ++ decimal (level_of whole c.budget)

-- all corners of the course of a budget
unfoldable pub corners_text : AxisSeen → ℕ → List Corner → List ℕ
corners_text a whole corners = flat_map (corner_text a whole) corners

-- the course of a budget: an area under straight lines from corner to corner
unfoldable pub course_path : AxisSeen → ℕ → ℕ → List Corner → List ℕ
course_path a whole opening corners =
    codes "<path class=\"budget\" d=\"M" ++ decimal a.left ++ codes " 6300V" ++ decimal (level_of whole opening)
    ++ corners_text a whole corners ++ codes "H" ++ decimal (right_of a) ++ codes "V6300z\"/>\n"

-- the course of a budget, labelled with the whole budget, if budgets are drawn
unfoldable pub budget_text : Option ℕ → AxisSeen → Layout → ℕ → ℕ → List Corner → List ℕ
budget_text n a l whole opening corners =
    if l.budgets
    then course_path a whole opening corners ++ label_text (codes "m r") (a.left - 800) 5900 (codes "c &#8804; " ++ time_text n whole)
    else []
