-- What a server does, drawn tick by tick.
use Rattle.std.specs.Prelude.{ℕ, ◌+◌, ◌-◌, ◌/◌, ◌%◌, Bool, true, false, eqb, leb, ltb, not, ◌&&◌}
use Rattle.std.specs.Prelude.{if◌then◌else◌, max, List, [], ◌++◌, codes, decimal, flat_map, length, Option, Some, None}
use Rattle.cbsrun_chart.specs.Jobs.{job_numbered}
use Rattle.cbsrun_chart.specs.declared.jobs.ChartJob.{ChartJob}
use Rattle.cbsrun_window.specs.declared.stretch.Kind.{Kind}
use Rattle.cbsrun_window.specs.declared.stretch.Kind.TheVariants as kind
use Rattle.cbsrun_window.specs.declared.stretch.Stretch.{Stretch}
use Rattle.cbs_rules.specs.declared.mode.Mode.{Mode}
use Rattle.cbs_rules.specs.declared.mode.Mode.TheVariants as mode
use Rattle.cbsrun_time_texts.specs.Texts.{time_text}
use Rattle.cbsrun_svg_shapes.specs.Axes.{AxisSeen, is_wide, x_at}
use Rattle.cbsrun_svg_shapes.specs.declared.layout.Layout.{Layout}
use Rattle.cbsrun_svg_shapes.specs.declared.spans.Place.{Place}
use Rattle.cbsrun_svg_shapes.specs.Shapes.{box_text, label_text, path_text, stretch_text, titled_text, width_of}

-- ticks of this kind are pale: the server has a job, and does not run
abbrev pub is_pale : Kind → Bool
is_pale kind.Waits = true
is_pale kind.Throttled = true
is_pale _ = false

abbrev pub pale_text : AxisSeen → Layout → Stretch → List ℕ
pale_text a l p = if is_pale p.kind then stretch_text a l.bar l.height p else []

-- all pale ticks
unfoldable pub pale_path : AxisSeen → Layout → List Stretch → List ℕ
pale_path a l ps = path_text (codes "wait") (flat_map (pale_text a l) ps)

-- the word before the numbers of ticks. Milliseconds have a unit after each
abbrev pub ticks_word : Option ℕ → List ℕ
ticks_word None = codes "ticks "
ticks_word (Some n) = []

-- from a tick up to another, in milliseconds if the nanoseconds of a tick are known
unfoldable pub from_to_text : Option ℕ → ℕ → ℕ → List ℕ
from_to_text n from to = ticks_word n ++ time_text n from ++ codes " to " ++ time_text n to

-- the title of a stretch: what goes on in it, and in which ticks
unfoldable pub stretch_title : Option ℕ → List ℕ → List ℕ → Stretch → List ℕ
stretch_title n name what p = name ++ what ++ codes ": " ++ from_to_text n p.from p.to

-- by how many ticks a job was finished late, if it was
abbrev pub late_by_text : Option ℕ → Option ℕ → ℕ → List ℕ
late_by_text n None took = []
late_by_text n (Some within) took = if ltb within took then codes ", late by " ++ time_text n (took - within) else []

-- at which tick a job was finished, and by how much it was late
abbrev pub finish_text : Option ℕ → ChartJob → Option ℕ → List ℕ
finish_text n job None = codes ", not finished"
finish_text n job (Some finish) = codes ", finished at " ++ time_text n finish ++ late_by_text n job.within (finish - job.came)

-- at which tick a job came, and at which it was finished
abbrev pub job_text : Option ℕ → Option ChartJob → List ℕ
job_text n None = []
job_text n (Some job) = codes "; came at " ++ time_text n job.came ++ finish_text n job job.finish

-- the title of a bar
unfoldable pub bar_title : Option ℕ → List ℕ → ℕ → Stretch → List ChartJob → List ℕ
bar_title n name j p jobs = stretch_title n name (codes " job " ++ decimal j) p ++ job_text n (job_numbered j jobs)

-- the class of a bar. It differs between a job and the next one, and between soft and throttled servers
abbrev pub bar_class : Mode → Bool → List ℕ
bar_class mode.Soft true = codes "s0"
bar_class mode.Soft false = codes "s1"
bar_class mode.Throttled true = codes "t0"
bar_class mode.Throttled false = codes "t1"

-- the number of a job in its bar, if the bar is wide enough: 620 hundredths of a pixel for each digit, and 300
unfoldable pub number_text : AxisSeen → Layout → ℕ → Stretch → List ℕ
number_text a l j p =
    if not l.compact && leb (length (decimal j)) ((width_of a p - 300) / 620)
    then label_text (codes "j") (x_at a p.from + width_of a p / 2) (l.bar + 1260) (decimal j)
    else []

-- a bar: the ticks of neighbouring units of one job
unfoldable pub bar_text : Option ℕ → AxisSeen → Layout → Mode → List ℕ → List ChartJob → ℕ → Stretch → List ℕ
bar_text n a l mode name jobs j p =
    titled_text (bar_class mode (eqb (j % 2) 0)) (stretch_text a l.bar l.height p) (bar_title n name j p jobs) ++ number_text a l j p

-- ticks that are no bar, with what goes on in them as a title
unfoldable pub other_text : Option ℕ → AxisSeen → Layout → List ℕ → List ℕ → List ℕ → Stretch → List ℕ
other_text n a l class name what p = titled_text class (stretch_text a l.bar l.height p) (stretch_title n name what p)

-- the class of charged ticks: boxes with an outline, or filled ones if cells are narrow
abbrev pub charged_class : AxisSeen → List ℕ
charged_class a = if is_wide a then codes "charged" else codes "fee"

-- a stretch of ticks in which a server does something
abbrev pub span_text : Option ℕ → AxisSeen → Layout → Mode → List ℕ → List ChartJob → Kind → Stretch → List ℕ
span_text n a l mode name jobs (kind.Runs j) p = bar_text n a l mode name jobs j p
span_text n a l mode name jobs kind.Charged p = other_text n a l (charged_class a) name (codes " charged") p
span_text n a l mode name jobs kind.Throttled p = other_text n a l (codes "hatch") name (codes " throttled") p
span_text n a l mode name jobs kind.Resting p = other_text n a l (codes "hatch") name (codes " throttled, without a job") p
span_text n a l mode name jobs _ p = []

-- the same in the row of a server
abbrev pub placed_span : Place → List ChartJob → Stretch → List ℕ
placed_span place jobs p = span_text place.tick place.axis place.layout place.mode place.name.now jobs p.kind p

-- ticks in which a job is late, drawn at least a pixel and a half wide
unfoldable pub late_text : Option ℕ → AxisSeen → Layout → List ℕ → Stretch → List ℕ
late_text n a l name p =
    titled_text (codes "late") (box_text (x_at a p.from) (l.bar + l.height) (max (width_of a p) 150) l.lane) (stretch_title n name (codes " late") p)
