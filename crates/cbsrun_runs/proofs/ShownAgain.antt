-- A record of a simulation shows the simulation again.
use Rattle.std.proofs.Common.{◌≡◌, ◌∙◌, ℕ, ◌+◌, ◌-◌, ◌≤◌, ◌<◌, if◌then◌else◌, Bool, true, false, leb, List, [], ◌∷◌, ◌++◌, length, append_assoc, ap, map, arith, refl, sym}
use Rattle.std.proofs.Common.{Option, Some, None, Result, Ok, Err}
use Rattle.std.proofs.lemmas.List.{append-nil}
use Rattle.cbs_job.specs.Work.{Meaning}
use Rattle.cbs_lists.proofs.Sums.{sum_map}
use Rattle.cbs_rules.specs.Rules.{clock_end}
use Rattle.cbs_steps.specs.Accounts.{Account}
use Rattle.cbs_steps.specs.Faces.{Face}
use Rattle.cbs_steps.specs.History.{World, History, ◌⊕◌, account, after_advance, faces, world_after, reply_in}
use Rattle.cbs_steps.specs.Promises.{promised, promised_by}
use Rattle.cbs_steps.specs.declared.error.CoreError.{CoreError}
use Rattle.cbs_steps.specs.declared.error.CoreError.TheVariants as error
use Rattle.cbs_steps.specs.declared.reply.Ran.{Ran}
use Rattle.cbs_steps.specs.declared.reply.Ran.TheVariants as ran
use Rattle.cbs_steps.specs.declared.reply.Reply.{Reply}
use Rattle.cbs_steps.specs.declared.reply.Reply.TheVariants as reply
use Rattle.cbs_steps.specs.declared.step.Step.{Step}
use Rattle.cbs_units.specs.declared.count.CountJob.{CountJob}
use Rattle.cbs_units.specs.Counting.{counting, counted, counted_step, counted_account, counted_history, counted_world, counted_ran, counted_reply}
use Rattle.cbs_units.proofs.Accounts.{faces_same, account_same}
use Rattle.cbs_units.proofs.Replies.{reply_same}
use Rattle.cbs_units.proofs.Worlds.{world_same}
use Rattle.cbsrun_events.specs.Events.{server_of}
use Rattle.cbsrun_events.specs.Steps.{answer_in, ran_in, promised_in, submit_seen, seen_at, view_at}
use Rattle.cbsrun_events.specs.declared.seen.Event.{Event}
use Rattle.cbsrun_events.specs.declared.seen.Event.TheVariants as event
use Rattle.cbsrun_events.specs.declared.seen.Seen.{Seen}
use Rattle.cbsrun_loads.specs.Loads.{IsLoad, LoadFile}
use Rattle.cbsrun_records.specs.Records.{RecordFile}
use Rattle.cbsrun_runs.specs.Loads.{seen_in, start_of}
use Rattle.cbsrun_runs.specs.Records.{counted_event, counted_seen, seen_in_record, start_of_record, step_told, steps_in_record, steps_told, IsRecordOf, ShowsAgain}
use Rattle.cbsrun_runs.specs.Steps.{arrival_at, event_of_step, seen_after, seen_from, seen_of_step, start_with}
use Rattle.cbsrun_simulate.proofs.Apart.{all_in_order}
use Rattle.cbsrun_simulate.proofs.MoveSteps.{IsGoing, MovesWell}
use Rattle.cbsrun_simulate.proofs.Simulations.{moves_are, well_next}
use Rattle.cbsrun_simulate.specs.Loading.{loading, job_of}
use Rattle.cbsrun_simulate.specs.MoveLaws.{since_after}
use Rattle.cbsrun_simulate.specs.Moves.{Move, submit, run, pass, charge, step_of, Simulation, AreNext, after_move, moves_of}
use Rattle.cbsrun_simulate.specs.Shown.{arrival_of, event_of, seen_of, shown}
use Rattle.cbsrun_simulate.specs.declared.load_job.LoadJob.{LoadJob}
use Rattle.cbsrun_simulate.specs.declared.release.Release.{Release}

-- the step of a move, with its job as units
abbrev as_units : Move → Step CountJob
as_units m = counted_step loading (step_of loading job_of m)

-- the history of a simulation, with each job as its units
abbrev counted_of : Simulation LoadJob → History CountJob
counted_of sim = counted_history loading sim.history

-- an advance or a charge has this reply if it is not refused
abbrev IsMade : Move → Reply LoadJob → Type 0
IsMade (submit q) r = Unit {0}
IsMade run r = Unit {0}
IsMade (pass n) r = r ≡ reply.Advanced
IsMade (charge s n) r = r ≡ reply.Charged

-- the tick that is promised
promised_same : (a : Account LoadJob) → promised counting (counted_account loading a) ≡ promised loading a
promised_same a =
    ap (λ (n : ℕ). promised_by a.terms.reservation a.state (n - a.got)) (sum_map (λ (j : CountJob). j.units) (counted loading) a.accepted)

promised_in_same : (w : World LoadJob) (s : ℕ) (a : Result ℕ CoreError) → promised_in counting (counted_world loading w) s a ≡ promised_in loading w s a
promised_in_same w s (Ok q) = ap (promised counting) (account_same loading w s) ∙ promised_same (account w.accounts s)
promised_in_same w s (Err e) = refl

-- the answer to a submit
answer_same : (r : Reply LoadJob) → answer_in (counted_reply loading r) ≡ answer_in r
answer_same (reply.Accepted q) = refl
answer_same (reply.NotAccepted e) = refl
answer_same (reply.Ran r) = refl
answer_same reply.Advanced = refl
answer_same reply.Closed = refl
answer_same reply.Charged = refl
answer_same (reply.Refused e) = refl

-- what a run came to
ran_same : (r : Reply LoadJob) → ran_in (counted_reply loading r) ≡ counted_ran (ran_in r)
ran_same (reply.Accepted q) = refl
ran_same (reply.NotAccepted e) = refl
ran_same (reply.Ran r) = refl
ran_same reply.Advanced = refl
ran_same reply.Closed = refl
ran_same reply.Charged = refl
ran_same (reply.Refused e) = refl

-- the server of an event
server_of_ran : (r : Ran) → server_of (event.Ran (counted_ran r)) ≡ server_of (event.Ran r)
server_of_ran ran.Idle = refl
server_of_ran ran.ClockEnd = refl
server_of_ran (ran.Unit s q) = refl
server_of_ran (ran.Done c) = refl

server_same : (now : ℕ) (e : Event) → server_of (counted_event now e) ≡ server_of e
server_same now (event.Accepted job q promised) = refl
server_same now (event.NotAccepted job e) = refl
server_same now (event.Ran r) = server_of_ran r
server_same now (event.Advanced n) = refl
server_same now (event.NotAdvanced n e) = refl
server_same now (event.Closed s) = refl
server_same now (event.NotClosed s e) = refl
server_same now (event.Charged s n) = refl
server_same now (event.NotCharged s n e) = refl

-- what is seen, with its event counted
seen_counted : (now : ℕ) (fs : List Face) (e : Event) → seen_at now fs (counted_event now e) ≡ counted_seen (seen_at now fs e)
seen_counted now fs e = rw (server_same now e) refl

-- the event of a submit
submit_counted : (now : ℕ) (q : Release) (a b : Result ℕ CoreError) (p o : Option ℕ) → a ≡ b → p ≡ o
    → submit_seen (arrival_at now q.server q.units) a p ≡ counted_event now (submit_seen (arrival_of q) b o)
submit_counted now q a (Ok k) p o same promised = rw (same, promised) refl
submit_counted now q a (Err e) p o same promised = rw same refl

-- the event of a move
event_counted : (w : World LoadJob) (m : Move) (r : Reply LoadJob) → IsMade m r
    → event_of_step counting (counted_world loading w) (as_units m) (counted_reply loading r) ≡ counted_event w.now (event_of loading w m r)
event_counted w (submit q) r made =
    let a = answer_in r in
    submit_counted w.now q (answer_in (counted_reply loading r)) a (promised_in counting (counted_world loading w) q.server (answer_in (counted_reply loading r)))
    (promised_in loading w q.server a) (answer_same r)
    (ap (promised_in counting (counted_world loading w) q.server) (answer_same r) ∙ promised_in_same w q.server a)
event_counted w run r made = ap (λ (x : Ran). event.Ran x) (ran_same r)
event_counted w (pass n) r made = rw made refl
event_counted w (charge s n) r made = rw made refl

-- what is seen of a move
seen_again : (sim : Simulation LoadJob) (m : Move) → IsMade m (reply_in loading sim.history (step_of loading job_of m))
    → seen_after counting (counted_of sim) (as_units m) ≡ counted_seen (seen_of loading job_of sim m)
seen_again sim m made =
    let x = step_of loading job_of m in
    let w = world_after loading (sim.history ⊕ x) in
    let r = reply_in loading sim.history x in
    ap (λ (v : World CountJob). seen_of_step counting v (as_units m) (reply_in counting (counted_of sim) (as_units m))) (world_same loading (sim.history ⊕ x))
    ∙ ap (seen_of_step counting (counted_world loading w) (as_units m)) (reply_same loading sim.history x)
    ∙ ap (λ (fs : List Face). seen_at w.now fs (event_of_step counting (counted_world loading w) (as_units m) (counted_reply loading r))) (faces_same loading w)
    ∙ ap (seen_at w.now (faces loading w)) (event_counted w m r made)
    ∙ seen_counted w.now (faces loading w) (event_of loading w m r)

-- the step that is told of a move
submit_told : (q : Release) (a : Result ℕ CoreError) (p : Option ℕ) → step_told (submit_seen (arrival_of q) a p) ≡ as_units (submit q)
submit_told q (Ok k) p = refl
submit_told q (Err e) p = refl

move_told : (w : World LoadJob) (m : Move) (r : Reply LoadJob) → step_told (event_of loading w m r) ≡ as_units m
move_told w (submit q) r = submit_told q (answer_in r) (promised_in loading w q.server (answer_in r))
move_told w run r = refl
move_told w (pass n) r = refl
move_told w (charge s n) r = refl

-- the steps that are told of moves
moves_told : (sim : Simulation LoadJob) (ms : List Move) (seen : List Seen) → steps_told (shown loading job_of sim ms seen) ≡ steps_told seen ++ map as_units ms
moves_told sim [] seen = sym (append-nil (steps_told seen))
moves_told sim (m ∷ ms) seen =
    let next = after_move loading job_of sim m in
    let o = seen_of loading job_of sim m in
    let r = reply_in loading sim.history (step_of loading job_of m) in
    moves_told next ms (o ∷ seen)
    ∙ ap (λ (x : Step CountJob). (steps_told seen ++ x ∷ []) ++ map as_units ms) (move_told (world_after loading next.history) m r)
    ∙ append_assoc (steps_told seen) (as_units m ∷ []) (map as_units ms)

-- the reply to an advance, by whether it is made
abbrev advance_reply : Bool → Reply LoadJob
advance_reply b = if b then reply.Advanced else reply.Refused error.ClockEnd

-- an advance is not refused if the clock moves
advanced : (w : World LoadJob) (n : ℕ) (b : Bool) → w.now < (if b then after_advance w n else w).now → advance_reply b ≡ reply.Advanced
advanced w n true later = refl
advanced w n false later = absurd (omega arith)

module _ (f : LoadFile) (load : IsLoad f) where
  -- no advance and no charge of a simulation is refused
  made : (since : ℕ) (sim : Simulation LoadJob) (m : Move) → MovesWell loading job_of f.until load.few_ticks since sim m
      → IsMade m (reply_in loading sim.history (step_of loading job_of m))
  made since sim (submit q) well = tt
  made since sim run well = tt
  made since sim (pass n) well =
      let w = world_after loading sim.history in
      let fewer = well.fewer in
      advanced w n (leb (w.now + n) clock_end) (omega arith)
  made since sim (charge s n) well = well.charges.granted

  -- the moves, made as steps with jobs that are units, show the simulation
  moves_again : (since : ℕ) (sim : Simulation LoadJob) (ms : List Move) (seen : List Seen) → IsGoing loading job_of f.until load.few_ticks since sim
      → AreNext loading job_of f.until sim ms
      → seen_from counting (counted_of sim) (map as_units ms) (map counted_seen seen) ≡ map counted_seen (shown loading job_of sim ms seen)
  unfolding seen_from
  moves_again since sim [] seen going each = refl
  moves_again since sim (m ∷ ms) seen going each =
      let well = well_next loading job_of f.until load.few_ticks since sim m going each.0 in
      let next = after_move loading job_of sim m in
      let o = seen_of loading job_of sim m in
      ap (λ (p : Seen). seen_from counting (counted_of next) (map as_units ms) (p ∷ map counted_seen seen)) (seen_again sim m (made since sim m well))
      ∙ moves_again (since_after loading job_of since sim m) next ms (o ∷ seen) well.going each.1

  abbrev sim : Simulation LoadJob
  sim = start_of f

  load_again : seen_from counting (start_with (record { plan = f.plan; modes = f.modes }) f.backlog) (steps_told (seen_in f)) []
      ≡ map counted_seen (seen_in f)
  load_again =
      let going : IsGoing loading job_of f.until load.few_ticks 0 sim =
      record { early = omega arith; waited = omega arith; order = all_in_order f.until f.seed 0 f.listed f.sources; owed = λ lt c e. cc } in
      let ms = moves_of loading job_of f.until sim in
      ap (λ (xs : List (Step CountJob)). seen_from counting (counted_of sim) xs []) (moves_told sim ms [])
      ∙ moves_again 0 sim ms [] going (moves_are loading job_of f.until load.few_ticks 0 sim going).each

-- so does a record of it
pub shown_again : (f : LoadFile) (r : RecordFile) → IsLoad f → ShowsAgain f r
shown_again f r load is = rw (is.modes, is.plan, is.backlog, is.steps) (load_again f load)
