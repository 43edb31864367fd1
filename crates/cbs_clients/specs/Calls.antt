-- What each call of a house and of a client does, as one relation of the state before, the result and the state after.
use Rattle.std.specs.Prelude.{Some, None, ◌≡◌, ◌≢◌, ◌↔◌, ◌⊎◌, ℕ, ◌+◌, ◌*◌, ◌<◌, ◌≤◌, true, false, List, [], ◌∷◌, ◌++◌, length, slice_get, Option, IfSome, Result, Err}
use Rattle.std.specs.Prelude.{IfOk, IfErr, OnOk, OnErr, IsOk, MatchOption, MatchResult}
use Rattle.cbs_rate.specs.Limits.{longest_period}
use Rattle.cbs_job.specs.Work.{Meaning}
use Rattle.cbs_job.specs.declared.work.Work.{Ghosts}
use Rattle.cbs_rules.specs.Rules.{clock_end}
use Rattle.cbs_steps.specs.Faces.{face_at, view_reply, charges_reply}
use Rattle.cbs_steps.specs.History.{Setup, History, faces, world_after, reply_in, charge_refusal}
use Rattle.cbs_steps.specs.Laws.{account_in, IsWithinBudget}
use Rattle.cbs_steps.specs.OnTime.{IsWorldOnTime}
use Rattle.cbs_steps.specs.Lateness.{later_charges}
use Rattle.cbs_steps.specs.Paced.{AllFinishedLate}
use Rattle.cbs_steps.specs.Promises.{promised, AllFinishedBy}
use Rattle.cbs_steps.specs.Punctual.{IsPunctual}
use Rattle.cbs_steps.specs.Quiet.{IsAtRest, IsIdleSpan, IsQuietAfter}
use Rattle.cbs_steps.specs.declared.reply.Ran.{Ran}
use Rattle.cbs_steps.specs.declared.reply.Reply.TheVariants as reply
use Rattle.cbs_steps.specs.declared.step.Step.{Step}
use Rattle.cbs_steps.specs.declared.step.Step.TheVariants as step
use Rattle.cbs_steps.specs.declared.charges.Charges.{Charges}
use Rattle.cbs_steps.specs.declared.view.ServerView.{ServerView}
use Rattle.cbs_core.specs.Agreement.{Agrees, FollowsInHindsight}
use Rattle.cbs_job.specs.declared.completion.Completion.{Completion}
use Rattle.cbs_steps.specs.declared.error.CoreError.{CoreError}
use Rattle.cbs_core.specs.Held.{held_at, running, AllSame, OthersSame, EndsJob, end_refusal}
use Rattle.cbs_clients.specs.Errors.{charge_error, charge_answer}
use Rattle.cbs_clients.specs.Clients.{sent_by, free, most_jobs, SameClient}
use Rattle.cbs_clients.specs.Houses.{core_of, rings_of, tape_of, seat_at, new_seat, results_of, IsHouseOnTime, IsHousePaced, KeepsResults, told_answer, Made, SameHouse, Polled}
use Rattle.cbs_recorded.specs.Records.{Loses}
use Rattle.cbs_clients.specs.Houses.{ServesOn, ServesBy, Collects, NamesJob}
use Rattle.cbs_clients.specs.Messages.{jobs_among, has_end}
use Rattle.cbs_host.specs.Meters.{NothingBeyond, NeverCharges}
use Rattle.cbs_clients.specs.Meters.{IsRunPaid, IsSameUnlessUnit}
use Rattle.cbs_clients.specs.Turns.{IsNumbered, TakesOwnTurn}
use Rattle.cbs_clients.specs.declared.client.Client.{Client}
use Rattle.cbs_clients.specs.declared.client.SendRefused.{SendRefused}
use Rattle.cbs_clients.specs.declared.error.HouseError.{HouseError}
use Rattle.cbs_clients.specs.declared.error.HouseError.TheVariants as house_error
use Rattle.cbs_clients.specs.declared.error.SendError.{SendError}
use Rattle.cbs_clients.specs.declared.error.SendError.TheVariants.{Ended, RingFull}
use Rattle.cbs_clients.specs.declared.house.House.{House}
use Rattle.cbs_clients.specs.declared.message.Message.TheVariants.{Job, End}
use Rattle.cbs_host.specs.declared.poll.Poll.{Poll}
use Rattle.cbs_host.specs.declared.poll.Poll.TheVariants as poll
use Rattle.cbs_clients.specs.declared.turn.Turn.{Turn}

module _ {W A : Type 0} {g : Ghosts W} where
  -- A house that was opened with these servers. Its core agrees with the history of no steps, nothing was received, and
  -- no result is kept or was handed out. It has no tape. It is on time and paced, and every list of steps that it may
  -- make is punctual.
  pub record IsNewHouse (work : Meaning W) (setup : Setup) (h : House W A g) : Type 0 where
    pub agrees : Agrees work (core_of h) (record { setup = setup; steps = [] })
    pub empty : (s : ℕ) → seat_at h s ≡ new_seat
    pub untold : tape_of h ≡ None
    pub on_time : IsHouseOnTime h
    pub paced : IsHousePaced h
    pub punctual : (steps : List (Step W)) → IsPunctual work (record { setup = setup; steps = steps })

  -- A poll of server s: it makes one step or none, by its result, and keeps the results of all servers. If there is no
  -- such server, the house is the same.
  pub record PollOf (work : Meaning W) (s : ℕ) (old : House W A g) (answer : Poll) (new : House W A g) : Type 0 where
    pub polled : Polled work old s answer new
    pub on_time : IsHouseOnTime old → IsHouseOnTime new
    pub paced : IsHousePaced old → IsHousePaced new
    pub rings : rings_of new ≡ rings_of old
    pub results : KeepsResults old new
    pub same : answer ≡ poll.NoSuchServer → new ≡ old

  -- a run: its result is that of the rules; it makes this one step, and collects a completion
  pub record RunOf (work : Meaning W) (old : House W A g) (told : Ran) (new : House W A g) : Type 0 where
    pub reply : (M : History W) → Agrees work (core_of old) M → reply.Ran told ≡ reply_in work M step.Run
    pub made : Made work old new (step.Run ∷ [])
    pub on_time : IsHouseOnTime old → IsHouseOnTime new
    pub paced : IsHousePaced old → IsHousePaced new
    pub collects : Collects told old new
    pub job : NamesJob work told new

  -- A run with a meter that may return what `may` allows. Its result is that of the rules. It makes this one step, pays
  -- for a unit, and collects a completion.
  pub record RunBy (work : Meaning W) (may : ℕ → ℕ → Type 0) (old : House W A g) (told : Ran) (new : House W A g) : Type 0 where
    pub reply : (M : History W) → Agrees work (core_of old) M → reply.Ran told ≡ reply_in work M step.Run
    pub paid : List (Step W)
    pub pays : IsRunPaid may (core_of old).clock told paid
    pub made : Made work old new (step.Run ∷ paid)
    pub on_time : NeverCharges may → IsHouseOnTime old → IsHouseOnTime new
    pub paced : IsHousePaced old → IsHousePaced new
    pub collects : Collects told old new
    pub job : NamesJob work told new

  -- What a run does with its meter: `begin` and `tell` say what a begin and an answer do to it. A measurement begins.
  -- If a unit runs, the meter is then asked once for its server, and the unit is charged the number that it returns.
  -- If none runs, the meter is not asked.
  pub record AsksMeter {T : Type 0} (work : Meaning W) (begin : T → T → Type 0) (tell : T → ℕ → ℕ → T → Type 0) (old : House W A g) (told : Ran)
      (new : House W A g) (old_meter new_meter : T) : Type 0 where
    pub begun : T
    pub begins : begin old_meter begun
    pub charges : RunBy work (λ s n. tell begun s n new_meter) old told new
    pub unasked : IsSameUnlessUnit told begun new_meter

  -- An advance by n makes this one step, and keeps a house on time if it takes nobody's time. If the clock would pass
  -- its end, the advance is refused, and nothing changed. It keeps a house paced, too, if it takes nobody's time
  pub record AdvanceOf (work : Meaning W) (n : ℕ) (old : House W A g) (answer : Result (Unit {0}) HouseError) (new : House W A g) : Type 0 where
    pub made : OnOk answer (Made work old new (step.Advance n ∷ []))
    pub on_time : ((M : History W) → Agrees work (core_of old) M → IsQuietAfter work M (step.Advance n)) → IsHouseOnTime old → IsHouseOnTime new
    pub paced : ((M : History W) → Agrees work (core_of old) M → IsQuietAfter work M (step.Advance n)) → IsHousePaced old → IsHousePaced new
    pub rings : rings_of new ≡ rings_of old
    pub results : KeepsResults old new
    pub refused : IfErr answer (λ error. (error ≡ house_error.ClockEnd) × SameHouse old new)
    pub end : (M : History W) → Agrees work (core_of old) M
        → MatchResult answer (λ _. (world_after work M).now + n ≤ clock_end) (λ _. clock_end < (world_after work M).now + n)

  -- A charge of a server makes this one step, which leaves every job, and keeps a house paced. If the core refuses it,
  -- the charge is refused by that reason, and nothing changed
  pub record ChargeOf (work : Meaning W) (server ticks : ℕ) (old : House W A g) (answer : Result (Unit {0}) HouseError) (new : House W A g) : Type 0 where
    pub made : OnOk answer (Made work old new (step.Charge server ticks ∷ []))
    pub paced : IsHousePaced old → IsHousePaced new
    pub rings : rings_of new ≡ rings_of old
    pub results : KeepsResults old new
    pub jobs : AllSame (core_of old) (core_of new)
    pub same : OnErr answer (SameHouse old new)
    pub refusal : (M : History W) → Agrees work (core_of old) M
        → answer ≡ charge_answer (charge_refusal (world_after work M) server ticks)

  -- The first job of server s, which got the last unit, ends before its last unit, with its output so far. In hindsight it
  -- had only the units that it got. That output is put after the results of s. All is on time or paced as it was. A tape
  -- loses the end: it has the steps before it, and is not whole. If the core refuses the end, so does the house, and
  -- nothing changed
  pub record FinishOf (work : Meaning W) (s : ℕ) (old : House W A g) (answer : Result Completion HouseError) (new : House W A g) : Type 0 where
    pub hindsight : OnOk answer (FollowsInHindsight work (core_of old) (core_of new) s)
    pub job : IfOk answer (λ c. EndsJob work c (held_at (core_of old) s) (held_at (core_of new) s) × OthersSame s (core_of old) (core_of new) × (c.server ≡ s))
    pub collects : IfOk answer (λ c. (seat_at new s ≡ record (seat_at old s) { results = results_of old s ++ c.result ∷ []; early = true })
        × ((t : ℕ) → t ≢ s → seat_at new t ≡ seat_at old t))
    pub loses : OnOk answer (Loses (tape_of old) (tape_of new))
    pub rings : rings_of new ≡ rings_of old
    pub on_time : IsHouseOnTime old → IsHouseOnTime new
    pub paced : IsHousePaced old → IsHousePaced new
    pub same : OnErr answer (SameHouse old new)
    pub refusal : MatchResult answer (λ c. end_refusal (core_of old) s ≡ None)
        (λ e. (error : CoreError) × (end_refusal (core_of old) s ≡ Some error) × (e ≡ charge_error error))

  -- a charge of the server that runs; if none runs, it is refused, and nothing changed
  abbrev pub ChargesLast : Meaning W → ℕ → House W A g → Result (Unit {0}) HouseError → House W A g → Type 0
  ChargesLast work ticks old answer new =
      MatchOption (running (core_of old)) ((answer ≡ Err house_error.NotRunning) × SameHouse old new) (λ server. ChargeOf work server ticks old answer new)

  -- a turn of a house without a meter, and its result
  pub record TurnOf (work : Meaning W) (old : House W A g) (told : Turn) (new : House W A g) : Type 0 where
    pub turn : TakesOwnTurn work NothingBeyond old new told
    pub steps : ServesOn work old new
    pub on_time : IsHouseOnTime old → IsHouseOnTime new
    pub paced : IsHousePaced old → IsHousePaced new
    pub few : told.took ≤ length (core_of old).faces
    pub rings : rings_of new ≡ rings_of old
    pub collects : Collects told.ran old new
    pub numbered : IsNumbered told.ran old
    pub job : NamesJob work told.ran new

  -- a turn of a house with a meter that may return what `may` allows, and its result
  pub record TurnBy (work : Meaning W) (may : ℕ → ℕ → Type 0) (old : House W A g) (told : Turn) (new : House W A g) : Type 0 where
    pub turn : TakesOwnTurn work may old new told
    pub steps : ServesBy work may old new
    pub on_time : NeverCharges may → IsHouseOnTime old → IsHouseOnTime new
    pub paced : IsHousePaced old → IsHousePaced new
    pub few : told.took ≤ length (core_of old).faces
    pub rings : rings_of new ≡ rings_of old
    pub collects : Collects told.ran old new
    pub numbered : IsNumbered told.ran old
    pub job : NamesJob work told.ran new

  -- the result is the clock
  pub record ClockOf (work : Meaning W) (h : House W A g) (told : ℕ) : Type 0 where
    pub now : (M : History W) → Agrees work (core_of h) M → told ≡ (world_after work M).now
    pub clock : told ≡ (core_of h).clock
    pub most : told ≤ clock_end

  -- the result is the idle span, or none if a server is ready
  abbrev pub SpanOf : Meaning W → House W A g → Option ℕ → Type 0
  SpanOf work h span = (M : History W) → Agrees work (core_of h) M
      → MatchOption span (¬ IsAtRest work (world_after work M)) (IsIdleSpan work (world_after work M))

  -- The result is what server s shows, or that there is no such server. If all is on time, the deadline of a ready
  -- server is still to come. If the house is paced, it has passed by less than the servers with later deadlines were
  -- charged, the most of each for one unit.
  pub record ViewOf (work : Meaning W) (s : ℕ) (h : House W A g) (answer : Result ServerView HouseError) : Type 0 where
    pub view : (M : History W) → Agrees work (core_of h) M → answer ≡ told_answer (view_reply (slice_get (faces work (world_after work M)) s))
    pub early : (M : History W) → Agrees work (core_of h) M → IfOk answer (λ v. let now = (world_after work M).now in v.deadline ≤ now + (now + 1) * longest_period)
    pub budget : (M : History W) → Agrees work (core_of h) M → OnOk answer (IsWithinBudget (face_at (faces work (world_after work M)) s))
    pub in_time : (M : History W) → Agrees work (core_of h) M → IsWorldOnTime work (world_after work M)
        → IfOk answer (λ v. v.finished < v.accepted → v.throttled ≡ false → (world_after work M).now < v.deadline)
    pub late_by : IsHousePaced h → (M : History W) → Agrees work (core_of h) M → (let w = world_after work M in
        IfOk answer (λ v. v.finished < v.accepted → v.throttled ≡ false → w.now < v.deadline + later_charges v.deadline w.accounts))

  -- the result is what server s was charged, or that there is no such server
  abbrev pub ChargesOf : Meaning W → ℕ → House W A g → Result Charges HouseError → Type 0
  ChargesOf work s h answer = (M : History W) → Agrees work (core_of h) M
      → answer ≡ told_answer (charges_reply (slice_get (faces work (world_after work M)) s))

  -- The result is the tick by which all that server s accepted is finished, if some units are owed. If the house is on
  -- time and no step to come takes anybody's time, the tick is kept, whatever is asked for later. If the house is paced
  -- and each advance to come is quiet, it is kept but for what is charged.
  pub record PromiseOf (work : Meaning W) (s : ℕ) (h : House W A g) (tick : Option ℕ) : Type 0 where
    pub value : (M : History W) → Agrees work (core_of h) M → tick ≡ promised work (account_in work M s)
    pub kept : IsHouseOnTime h → IfSome tick (λ t. (M : History W) → Agrees work (core_of h) M → AllFinishedBy work M s t)
    pub kept_charged : IsHousePaced h → IfSome tick (λ t. (M : History W) → Agrees work (core_of h) M → AllFinishedLate work M s t)

  -- the client looked at its ring anew, and sent nothing
  pub record LooksAtRing (old new : Client W A g) : Type 0 where
    pub same : SameClient old new
    pub sent : sent_by new ≡ sent_by old
    pub looked : free old ≤ free new

  -- A job is sent, and its number returned, or the job comes back. It comes back if the client has ended, or if no slot
  -- of the ring is known to be free. It also comes back if 2^64 - 1 jobs were sent. The next message takes a slot that
  -- is known to be free.
  pub record SendOf (job : W) (old : Client W A g) (answer : Result ℕ (SendRefused W)) (new : Client W A g) : Type 0 where
    pub same : SameClient old new
    pub ok : IfOk answer (λ number. (number ≡ length (jobs_among (sent_by old))) × (sent_by new ≡ sent_by old ++ Job job ∷ []))
    pub back : IfErr answer (λ refused. (refused.task ≡ job) × (sent_by new ≡ sent_by old))
    pub ended : MatchResult answer (λ _. has_end (sent_by old) ≡ false) (λ refused. (refused.error ≡ Ended) ↔ (has_end (sent_by old) ≡ true))
    pub succeeds : (has_end (sent_by old) ≡ false) × (0 < free old) × (length (jobs_among (sent_by old)) < most_jobs) → IsOk answer
    pub left : MatchResult answer (λ _. free old ≤ free new + 1) (λ _. free old ≤ free new)
    pub full : IfErr answer (λ refused. refused.error ≡ RingFull → (free new ≡ 0) ⊎ (length (jobs_among (sent_by old)) ≡ most_jobs))

  -- an end is sent, or it is refused: the client has ended, or no slot of the ring is known to be free
  pub record EndOf (old : Client W A g) (answer : Result (Unit {0}) SendError) (new : Client W A g) : Type 0 where
    pub same : SameClient old new
    pub ok : OnOk answer (sent_by new ≡ sent_by old ++ End ∷ [])
    pub back : OnErr answer (sent_by new ≡ sent_by old)
    pub ended : MatchResult answer (λ _. has_end (sent_by old) ≡ false) (λ error. (error ≡ Ended) ↔ (has_end (sent_by old) ≡ true))
    pub succeeds : (has_end (sent_by old) ≡ false) × (0 < free old) → IsOk answer
    pub left : MatchResult answer (λ _. free old ≤ free new + 1) (λ _. free old ≤ free new)
    pub full : IfErr answer (λ error. error ≡ RingFull → free new ≡ 0)
