-- The course of a server's budget, from its steps. The steps stand with the newest first.
use Rattle.std.specs.Prelude.{ℕ, ◌-◌, ◌&&◌, eqb, leb, if◌then◌else◌, List, [], ◌∷◌, ◌++◌, Option, Some, None}
use Rattle.cbs_rate.specs.Rate.{Rate}
use Rattle.cbs_steps.specs.declared.view.ServerView.{ServerView}
use Rattle.cbsrun_events.specs.Events.{begun, ticks_of_run}
use Rattle.cbsrun_events.specs.declared.seen.Event.{Event}
use Rattle.cbsrun_events.specs.declared.seen.Event.TheVariants as event
use Rattle.cbsrun_events.specs.declared.seen.Seen.{Seen}
use Rattle.cbsrun_chart.specs.Marks.{is_renewed}
use Rattle.cbsrun_chart.specs.Rows.{last_of}
use Rattle.cbsrun_chart.specs.declared.course.Corner.{Corner}
use Rattle.cbsrun_chart.specs.declared.waits.Last.{Last}
use Rattle.cbsrun_window.specs.declared.window.Window.{Window}

-- the budget at the first tick of the window, and the corners after it. The budget goes in straight lines between them
pub record CourseSeen : Type 0 where
  pub opening : ℕ
  pub corners : List Corner

abbrev pub no_course : CourseSeen
no_course = record { opening = 0; corners = [] }

-- one more corner. The window shows it, or it becomes the opening budget, or it is after the window and is left out
abbrev pub with_corner : Window → ℕ → ℕ → CourseSeen → CourseSeen
with_corner w tick budget c =
    if leb tick w.from then record { opening = budget; corners = c.corners }
    else if leb tick w.to then record { opening = c.opening; corners = c.corners ++ record { tick = tick; budget = budget } ∷ [] }
    else c

-- the budget of a server at a tick, before a step of its own. A replenished server has a whole budget, since a view
-- shows no overrun
abbrev pub budget_at : Rate → Option Last → ℕ → ℕ
budget_at r None to = 0
budget_at r (Some l) to = if is_renewed l to then r.budget else l.view.budget

-- what a step leaves of a budget, before the budget is renewed. A unit uses one tick of it
abbrev pub spent : Event → ℕ → ℕ
spent (event.Ran r) budget = budget - ticks_of_run r
spent _ budget = budget

-- the corners of a step: the budget before it, what it leaves of that budget, and the budget after it. If all are the
-- same there is no corner
abbrev pub fallen : Window → Seen → ℕ → ℕ → CourseSeen → CourseSeen
fallen w o before after c =
    if eqb (spent o.event before) before && eqb after before then c
    else with_corner w o.clock after (with_corner w o.clock (spent o.event before) (with_corner w (begun o) before c))

-- the same, if the server has a view after the step
abbrev pub fallen_to : Window → Seen → ℕ → Option ServerView → CourseSeen → CourseSeen
fallen_to w o before None c = c
fallen_to w o before (Some v) c = fallen w o before v.budget c

-- the corners up to a tick, before which the server makes no further step: those of a replenishment
abbrev pub course_until : Window → Rate → Option Last → ℕ → CourseSeen → CourseSeen
course_until w r None to c = c
course_until w r (Some l) to c =
    if is_renewed l to then with_corner w l.view.deadline r.budget (with_corner w l.view.deadline l.view.budget c) else c

-- the course after one more step
abbrev pub course_after : Window → Rate → Option Last → Seen → CourseSeen → CourseSeen
course_after w r last o c = fallen_to w o (budget_at r last (begun o)) o.view (course_until w r last (begun o) c)

-- the course after all steps
abbrev pub course_seen : Window → Rate → List Seen → CourseSeen
course_seen w r [] = no_course
course_seen w r (o ∷ own) = course_after w r (last_of own) o (course_seen w r own)
