-- The jobs are those that a report counts.
use Rattle.std.proofs.Common.{◌≡◌, ◌∙◌, ℕ, List, [], ◌∷◌, ◌++◌, length, map, Option, Some, None, arith, refl, ap}
use Rattle.std.specs.Prelude.{drop, slice_get}
use Rattle.std.specs.Option.{option_map, option_to_list}
use Rattle.std.proofs.lemmas.List.{append-nil, length-append, map-append}
use Rattle.cbs_steps.specs.declared.reply.Ran.TheVariants as ran
use Rattle.cbs_steps.specs.declared.view.ServerView.{ServerView}
use Rattle.cbsrun_events.specs.declared.seen.Event.{Event}
use Rattle.cbsrun_events.specs.declared.seen.Event.TheVariants as event
use Rattle.cbsrun_events.specs.declared.seen.Seen.{Seen}
use Rattle.cbsrun_figures.specs.Figures.{accepted_job, newest, oldest_finished, put_off, refusals, settled, total, waiting}
use Rattle.cbsrun_figures.specs.declared.job.AcceptedJob.{AcceptedJob}
use Rattle.cbsrun_figures.specs.declared.job.Finish.{Finish}
use Rattle.cbsrun_csv.specs.Csv.{AreAsReported, course_of, finished_course, waiting_course}
use Rattle.cbsrun_csv.specs.Jobs.{JobsSeen, ended, first_charged, job_of, jobs_after, jobs_charged, jobs_seen}
use Rattle.cbsrun_csv.specs.declared.job.CsvJob.{CsvJob}

-- the jobs that are seen are those of a report: finished by earlier units, finished by the newest, and waiting
record AreSame (own : List Seen) (js : JobsSeen) : Type 0 where
  settled : map course_of js.finished ≡ map finished_course (settled own)
  newest : option_map course_of js.newest ≡ option_map finished_course (newest own)
  waiting : map course_of js.waiting ≡ map waiting_course (waiting own)
  refused : length js.refused ≡ total (λ o. refusals o.event) own

-- the newest finished one, after those before it
more_finished : (xs : List CsvJob) (ys : List Finish) (x : Option CsvJob) (y : Option Finish) → map course_of xs ≡ map finished_course ys
    → option_map course_of x ≡ option_map finished_course y → map course_of (xs ++ option_to_list x) ≡ map finished_course (ys ++ option_to_list y)
more_finished xs ys None None before e = rw (append-nil xs, append-nil ys) before
more_finished xs ys (Some x) (Some y) before e =
    let same : course_of x ≡ finished_course y = cc in
    rw (map-append course_of xs (x ∷ []), map-append finished_course ys (y ∷ []), before, same) refl
more_finished xs ys None (Some y) before e = absurd cc
more_finished xs ys (Some x) None before e = absurd cc

-- one more that waits
more_waiting : (xs : List CsvJob) (ys : List AcceptedJob) (x : CsvJob) (y : AcceptedJob) → map course_of xs ≡ map waiting_course ys
    → course_of x ≡ waiting_course y → map course_of (xs ++ x ∷ []) ≡ map waiting_course (ys ++ y ∷ [])
more_waiting xs ys x y before same = rw (map-append course_of xs (x ∷ []), map-append waiting_course ys (y ∷ []), before, same) refl

-- the oldest one that waits ends
oldest_ends : (clock charged : ℕ) (xs : List CsvJob) (ys : List AcceptedJob) → map course_of xs ≡ map waiting_course ys
    → option_map course_of (option_map (ended clock charged) (slice_get xs 0)) ≡ option_map finished_course (oldest_finished clock ys)
oldest_ends clock charged [] [] e = refl
oldest_ends clock charged (x ∷ xs) (y ∷ ys) e =
    let same : course_of x ≡ waiting_course y = cc in
    ap (λ k. Some (record { came = k.came; within = k.within; finish = Some clock })) same
oldest_ends clock charged [] (y ∷ ys) e = absurd cc
oldest_ends clock charged (x ∷ xs) [] e = absurd cc

others_wait : (xs : List CsvJob) (ys : List AcceptedJob) → map course_of xs ≡ map waiting_course ys → map course_of (drop 1 xs) ≡ map waiting_course (drop 1 ys)
others_wait [] [] e = refl
others_wait (x ∷ xs) (y ∷ ys) e = cc
others_wait [] (y ∷ ys) e = absurd cc
others_wait (x ∷ xs) [] e = absurd cc

-- a charge changes only the newest one that is finished, and what was charged
charge_finished : (clock n : ℕ) (x : Option CsvJob) (js : JobsSeen) → (jobs_charged clock n x js).finished ≡ js.finished
charge_finished clock n None js = refl
charge_finished clock n (Some x) js = refl

charge_waiting : (clock n : ℕ) (x : Option CsvJob) (js : JobsSeen) → (jobs_charged clock n x js).waiting ≡ js.waiting
charge_waiting clock n None js = refl
charge_waiting clock n (Some x) js = refl

charge_refused : (clock n : ℕ) (x : Option CsvJob) (js : JobsSeen) → (jobs_charged clock n x js).refused ≡ js.refused
charge_refused clock n None js = refl
charge_refused clock n (Some x) js = refl

charge_newest : (clock n : ℕ) (x : Option CsvJob) (y : Option Finish) (js : JobsSeen) → js.newest ≡ x → option_map course_of x ≡ option_map finished_course y
    → option_map course_of (jobs_charged clock n x js).newest ≡ option_map finished_course (put_off clock y)
charge_newest clock n None None js is e = rw is refl
charge_newest clock n (Some x) (Some y) js is e =
    let same : course_of x ≡ finished_course y = cc in
    ap (λ k. Some (record { came = k.came; within = k.within; finish = Some clock })) same
charge_newest clock n None (Some y) js is e = absurd cc
charge_newest clock n (Some x) None js is e = absurd cc

-- one step more
same_after : (clock : ℕ) (e : Event) (v : Option ServerView) (own : List Seen) (js : JobsSeen) → AreSame own js
    → AreSame (record { clock = clock; event = e; view = v } ∷ own) (jobs_after clock e js)
same_after clock (event.Accepted job number promised) v own js was = record {
  settled = was.settled;
  newest = was.newest;
  waiting = more_waiting js.waiting (waiting own) (job_of job number) (accepted_job job promised) was.waiting refl;
  refused = omega arith;
}
same_after clock (event.Ran (ran.Done c)) v own js was = record {
  settled = more_finished js.finished (settled own) js.newest (newest own) was.settled was.newest;
  newest = oldest_ends clock js.charged js.waiting (waiting own) was.waiting;
  waiting = others_wait js.waiting (waiting own) was.waiting;
  refused = omega arith;
}
same_after clock (event.Ran ran.Idle) v own js was = record {
  settled = more_finished js.finished (settled own) js.newest (newest own) was.settled was.newest;
  newest = refl;
  waiting = was.waiting;
  refused = omega arith;
}
same_after clock (event.Ran ran.ClockEnd) v own js was = record {
  settled = more_finished js.finished (settled own) js.newest (newest own) was.settled was.newest;
  newest = refl;
  waiting = was.waiting;
  refused = omega arith;
}
same_after clock (event.Ran (ran.Unit s q)) v own js was = record {
  settled = more_finished js.finished (settled own) js.newest (newest own) was.settled was.newest;
  newest = refl;
  waiting = was.waiting;
  refused = omega arith;
}
same_after clock (event.Charged s n) v own js was = record {
  settled = ap (map course_of) (charge_finished clock n js.newest js) ∙ was.settled;
  newest = charge_newest clock n js.newest (newest own) js refl was.newest;
  waiting = ap (map course_of) (charge_waiting clock n js.newest js) ∙ was.waiting;
  refused = let same = ap length (charge_refused clock n js.newest js) in omega arith;
}
same_after clock (event.NotAccepted job error) v own js was = record {
  settled = was.settled;
  newest = was.newest;
  waiting = was.waiting;
  refused = let one = length-append js.refused (job.came ∷ []) in omega arith;
}
same_after clock (event.Advanced n) v own js was = record { settled = was.settled; newest = was.newest; waiting = was.waiting; refused = omega arith }
same_after clock (event.NotAdvanced n error) v own js was = record { settled = was.settled; newest = was.newest; waiting = was.waiting; refused = omega arith }
same_after clock (event.Closed s) v own js was = record { settled = was.settled; newest = was.newest; waiting = was.waiting; refused = omega arith }
same_after clock (event.NotClosed s error) v own js was = record { settled = was.settled; newest = was.newest; waiting = was.waiting; refused = omega arith }
same_after clock (event.NotCharged s n error) v own js was = record { settled = was.settled; newest = was.newest; waiting = was.waiting; refused = omega arith }

-- all steps
all_same : (own : List Seen) → AreSame own (jobs_seen own)
all_same [] = record { settled = refl; newest = refl; waiting = refl; refused = refl }
all_same (o ∷ own) = same_after o.clock o.event o.view own (jobs_seen own) (all_same own)

-- what is charged for the first of them changes no course
first_same : (charged : ℕ) (xs : List CsvJob) → map course_of (first_charged charged xs) ≡ map course_of xs
first_same charged [] = refl
first_same charged (x ∷ xs) = refl

pub as_reported : (own : List Seen) → AreAsReported own
as_reported own =
    let same = all_same own in
    let js = jobs_seen own in
    record {
      finished = more_finished js.finished (settled own) js.newest (newest own) same.settled same.newest;
      unfinished = first_same js.charged js.waiting ∙ same.waiting;
      refused = same.refused;
    }
