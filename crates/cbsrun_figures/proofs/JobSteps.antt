-- One step more in what is kept of the jobs.
use Rattle.std.proofs.Common.{◌≡◌, ℕ, ◌+◌, ◌-◌, ◌≤◌, List, [], ◌∷◌, ◌++◌, length, map, Option, Some, None, arith, refl, sym, ap, ◌∙◌, length-drop}
use Rattle.std.specs.Prelude.{max, drop}
use Rattle.std.specs.Option.{option_to_list}
use Rattle.std.proofs.lemmas.Grind.{flat_map-append}
use Rattle.std.proofs.lemmas.List.{append-nil, map-append, length-append}
use Rattle.cbs_steps.specs.declared.reply.Ran.{Ran}
use Rattle.cbs_steps.specs.declared.reply.Ran.TheVariants as ran
use Rattle.cbs_steps.specs.declared.view.ServerView.{ServerView}
use Rattle.cbsrun_events.specs.declared.seen.Event.{Event}
use Rattle.cbsrun_events.specs.declared.seen.Event.TheVariants as event
use Rattle.cbsrun_events.specs.declared.seen.Seen.{Seen}
use Rattle.cbsrun_figures.specs.Figures.{told, told_sum, waiting, greatest_backlog, oldest_finished, put_off, newest, settled, response}
use Rattle.cbsrun_figures.specs.Figures.{exceeds, one_if, late_among, early_by, earliness, sum_of, least_of, lesser}
use Rattle.cbsrun_figures.specs.Tallies.{Jobs, tally, jobs_of, jobs_after, jobs_after_run, jobs_settled, jobs_without, early_of, early_with}
use Rattle.cbsrun_figures.specs.declared.job.AcceptedJob.{AcceptedJob}
use Rattle.cbsrun_figures.specs.declared.job.Finish.{Finish}
use Rattle.cbsrun_figures.proofs.SumSteps.{told_more, told_sum_more}

-- no backlog is over the greatest
within_greatest : (own : List Seen) → length (waiting own) ≤ greatest_backlog own
within_greatest [] = omega arith
within_greatest (o ∷ own) = omega arith

-- sums over lists with one more at the end
sum_more : (ns : List ℕ) (n : ℕ) → sum_of (ns ++ n ∷ []) ≡ n + sum_of ns
sum_more [] n = omega arith
sum_more (m ∷ ns) n = let h = sum_more ns n in omega arith

late_more : (fs : List Finish) (f : Finish) → late_among (fs ++ f ∷ []) ≡ one_if (exceeds (response f) f.job.within) + late_among fs
late_more [] f = omega arith
late_more (g ∷ fs) f = let h = late_more fs f in omega arith

-- two numbers and perhaps a third have one least, in any order
least_swap : (m n : ℕ) (o : Option ℕ) → lesser m (Some (lesser n o)) ≡ lesser n (Some (lesser m o))
least_swap m n None = omega arith
least_swap m n (Some k) = omega arith

least_more : (ns : List ℕ) (n : ℕ) → least_of (ns ++ n ∷ []) ≡ Some (lesser n (least_of ns))
least_more [] n = refl
least_more (m ∷ ns) n = rw (least_more ns n) (ap Some (least_swap m n (least_of ns)))

-- what is summed up of how early jobs were, with one more
early_more : (ns : List ℕ) (promised : Option ℕ) (at : ℕ) → early_with promised at (early_of ns) ≡ early_of (ns ++ early_by at promised)
early_more ns None at = rw (append-nil ns) refl
early_more ns (Some promised) at =
    let n = promised - at in
    let c : told (told (length ns) + 1) ≡ told (length (ns ++ n ∷ [])) = rw (length-append ns (n ∷ [])) (omega arith) in
    let t : told_sum (told_sum (sum_of ns) + n) ≡ told_sum (sum_of (ns ++ n ∷ [])) = rw (sum_more ns n) (told_sum_more (sum_of ns) n) in
    rw (c, t, sym (least_more ns n)) refl

-- what is kept of the jobs is the same if each part of it is
same_jobs : (a b : Jobs) → a.waiting ≡ b.waiting → a.newest ≡ b.newest → a.responses ≡ b.responses → a.response_total ≡ b.response_total
    → a.greatest_backlog ≡ b.greatest_backlog → a.late ≡ b.late → a.early ≡ b.early → a ≡ b
same_jobs a b e n f g h i j = rw (e, n, f, g, h, i, j) refl

-- one more job is counted
module _ (jobs : List AcceptedJob) (backlog : ℕ) (fs : List Finish) (f : Finish) where
  responses_more : map response (fs ++ f ∷ []) ≡ map response fs ++ response f ∷ []
  responses_more = map-append response fs (f ∷ [])

  total_more : told_sum (told_sum (sum_of (map response fs)) + response f) ≡ told_sum (sum_of (map response (fs ++ f ∷ [])))
  total_more = rw (responses_more, sum_more (map response fs) (response f)) (told_sum_more (sum_of (map response fs)) (response f))

  lates_more : told (told (late_among fs) + one_if (exceeds (response f) f.job.within)) ≡ told (late_among (fs ++ f ∷ []))
  lates_more = rw (late_more fs f) (told_more (late_among fs) (one_if (exceeds (response f) f.job.within)))

  earliness_more : earliness (fs ++ f ∷ []) ≡ earliness fs ++ early_by f.at f.job.promised
  earliness_more =
      flat_map-append (λ (f : Finish). early_by f.at f.job.promised) fs (f ∷ []) ∙ ap (λ ns. earliness fs ++ ns) (append-nil (early_by f.at f.job.promised))

  one_settled : jobs_settled (Some f) (tally jobs (Some f) backlog fs) ≡ tally jobs None backlog (fs ++ f ∷ [])
  one_settled = same_jobs _ _ refl refl (sym responses_more) total_more refl lates_more
      (early_more (earliness fs) f.job.promised f.at ∙ ap early_of (sym earliness_more))

-- the newest job is counted, if there is one
pub tally_settled : (jobs : List AcceptedJob) (newest : Option Finish) (backlog : ℕ) (fs : List Finish)
    → jobs_settled newest (tally jobs newest backlog fs) ≡ tally jobs None backlog (fs ++ option_to_list newest)
tally_settled jobs None backlog fs = ap (tally jobs None backlog) (sym (append-nil fs))
tally_settled jobs (Some f) backlog fs = one_settled jobs backlog fs f

-- a step after which no more jobs wait leaves the greatest backlog
same_backlog : (own : List Seen) (n : ℕ) → n ≤ length (waiting own) → greatest_backlog own ≡ max (greatest_backlog own) n
same_backlog own n le = let h = within_greatest own in omega arith

-- what is kept of the jobs, after a step after which no more jobs wait
no_more : (ws : List AcceptedJob) (n : Option Finish) (own : List Seen) (fs : List Finish) → length ws ≤ length (waiting own)
    → tally ws n (greatest_backlog own) fs ≡ tally ws n (max (greatest_backlog own) (length ws)) fs
no_more ws n own fs le = ap (λ b. tally ws n b fs) (same_backlog own (length ws) le)

-- what is kept of the jobs after one more run
run_step : (now : ℕ) (r : Ran) (own : List Seen) (v : Option ServerView)
    → jobs_after_run now r (jobs_of own) ≡ jobs_of (record { clock = now; event = event.Ran r; view = v } ∷ own)
run_step now (ran.Done c) own v =
    ap (jobs_without now) (tally_settled (waiting own) (newest own) (greatest_backlog own) (settled own))
    ∙ no_more (drop 1 (waiting own)) (oldest_finished now (waiting own)) own (settled own ++ option_to_list (newest own))
    (omega (arith, length-drop 1 (waiting own)))
run_step now ran.Idle own v =
    tally_settled (waiting own) (newest own) (greatest_backlog own) (settled own) ∙ no_more (waiting own) None own _ (omega arith)
run_step now ran.ClockEnd own v =
    tally_settled (waiting own) (newest own) (greatest_backlog own) (settled own) ∙ no_more (waiting own) None own _ (omega arith)
run_step now (ran.Unit s q) own v =
    tally_settled (waiting own) (newest own) (greatest_backlog own) (settled own) ∙ no_more (waiting own) None own _ (omega arith)

-- what is kept of the jobs with one step more
jobs_step : (clock : ℕ) (e : Event) (v : Option ServerView) (own : List Seen)
    → jobs_after clock e (jobs_of own) ≡ jobs_of (record { clock = clock; event = e; view = v } ∷ own)
jobs_step clock (event.Accepted job number promised) v own = refl
jobs_step clock (event.Ran r) v own = run_step clock r own v
jobs_step clock (event.NotAccepted job error) v own = no_more (waiting own) (newest own) own (settled own) (omega arith)
jobs_step clock (event.Advanced n) v own = no_more (waiting own) (newest own) own (settled own) (omega arith)
jobs_step clock (event.NotAdvanced n error) v own = no_more (waiting own) (newest own) own (settled own) (omega arith)
jobs_step clock (event.Closed s) v own = no_more (waiting own) (newest own) own (settled own) (omega arith)
jobs_step clock (event.NotClosed s error) v own = no_more (waiting own) (newest own) own (settled own) (omega arith)
jobs_step clock (event.Charged s n) v own = no_more (waiting own) (put_off clock (newest own)) own (settled own) (omega arith)
jobs_step clock (event.NotCharged s n error) v own = no_more (waiting own) (newest own) own (settled own) (omega arith)

pub jobs_seen : (o : Seen) (own : List Seen) → jobs_after o.clock o.event (jobs_of own) ≡ jobs_of (o ∷ own)
jobs_seen o own = jobs_step o.clock o.event o.view own
