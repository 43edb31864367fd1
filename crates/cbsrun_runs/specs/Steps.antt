-- Steps that a core makes, whatever its jobs are, as a view sees them.
use Rattle.std.specs.Prelude.{◌≡◌, ◌⊎◌, ℕ, List, [], ◌∷◌, ◌++◌, None}
use Rattle.cbs_core.specs.Agreement.{Agrees, Follows}
use Rattle.cbs_core.specs.Held.{CoreHeld}
use Rattle.cbs_job.specs.Work.{Meaning}
use Rattle.cbs_rules.specs.Setups.{ModedPlan}
use Rattle.cbs_steps.specs.Continuations.{◌⊕⊕◌}
use Rattle.cbs_steps.specs.History.{World, History, ◌⊕◌, faces, world_after, reply_in}
use Rattle.cbs_steps.specs.Laws.{account_in, completions_of, replies_after, Completes, NoneAfterClose}
use Rattle.cbs_steps.specs.Punctual.{IsPunctual}
use Rattle.cbs_steps.specs.Setups.{history_of}
use Rattle.cbs_steps.specs.declared.reply.Reply.{Reply}
use Rattle.cbs_steps.specs.declared.step.Step.{Step}
use Rattle.cbs_steps.specs.declared.step.Step.TheVariants as step
use Rattle.cbsrun_events.specs.Steps.{answer_in, ran_in, refusal_in, promised_in, submit_seen, advance_seen, close_seen, charge_seen, seen_at}
use Rattle.cbsrun_events.specs.declared.seen.Arrival.{Arrival}
use Rattle.cbsrun_events.specs.declared.seen.Event.{Event}
use Rattle.cbsrun_events.specs.declared.seen.Event.TheVariants as event
use Rattle.cbsrun_events.specs.declared.seen.Seen.{Seen}

-- a job that is submitted at a tick. There is no number of ticks within which it is to be finished
abbrev pub arrival_at : ℕ → ℕ → ℕ → Arrival
arrival_at now s units = record { server = s; came = now; units = units; within = None }

module _ {W : Type 0} where
  -- the event of a step, by its reply and by the world after it. A submit takes no tick, so the clock after it is the
  -- tick at which it came
  abbrev pub event_of_step : Meaning W → World W → Step W → Reply W → Event
  event_of_step work w (step.Submit s job) r = submit_seen (arrival_at w.now s (work.left job)) (answer_in r) (promised_in work w s (answer_in r))
  event_of_step work w step.Run r = event.Ran (ran_in r)
  event_of_step work w (step.Advance n) r = advance_seen n (refusal_in r)
  event_of_step work w (step.Close s) r = close_seen s (refusal_in r)
  event_of_step work w (step.Charge s n) r = charge_seen s n (refusal_in r)

  -- a step, as a view sees it, by its reply and by the world after it
  abbrev pub seen_of_step : Meaning W → World W → Step W → Reply W → Seen
  seen_of_step work w x r = seen_at w.now (faces work w) (event_of_step work w x r)

  -- the event of the step x after the history M
  abbrev pub event_after : Meaning W → History W → Step W → Event
  event_after work M x = event_of_step work (world_after work (M ⊕ x)) x (reply_in work M x)

  -- the step x after the history M, as a view sees it
  abbrev pub seen_after : Meaning W → History W → Step W → Seen
  seen_after work M x = seen_of_step work (world_after work (M ⊕ x)) x (reply_in work M x)

  -- steps after the history M, as a view sees them. They stand with the newest first, before what was seen earlier
  unfoldable pub seen_from : Meaning W → History W → List (Step W) → List Seen → List Seen
  seen_from work M [] seen = seen
  seen_from work M (x ∷ xs) seen = seen_from work (M ⊕ x) xs (seen_after work M x ∷ seen)

  -- A core and a view were stopped among steps after the history M. The core made the first of them, up to some step. The
  -- view saw these, or it failed to see the last of these
  pub record StopsAmong {S : Type 0} (work : Meaning W) (saw failed : S → S → List Seen → Type 0) (M : History W) (xs : List (Step W))
      (new : CoreHeld W) (old now : S) : Type 0 where
    pub made : List (Step W)
    pub left : List (Step W)
    pub all : made ++ left ≡ xs
    pub state : Agrees work new (M ⊕⊕ made)
    pub seen : (first : S) (seen : List Seen) → saw first old seen → saw first now (seen_from work M made seen) ⊎ failed first now (seen_from work M made seen)

  -- the completions of server s among the replies to these steps after M go on from its finished jobs, without gap or
  -- repeat. Each has the whole result of the job with its number
  abbrev pub CompletesAll : Meaning W → History W → List (Step W) → ℕ → Type 0
  CompletesAll work M steps s =
      Completes work (account_in work M s) (account_in work (M ⊕⊕ steps) s) (completions_of s (replies_after work M steps))

  -- a core made the step x after the history M, with this event. The completions of each server go on by those of the step
  pub record HasMade (work : Meaning W) (M : History W) (x : Step W) (new : CoreHeld W) (event : Event) : Type 0 where
    pub state : Agrees work new (M ⊕ x)
    pub told : event ≡ event_after work M x
    pub completes : (s : ℕ) → CompletesAll work M (x ∷ []) s

  -- the core did so, whatever history it agreed with before
  abbrev pub MakesStep : Meaning W → CoreHeld W → Step W → CoreHeld W → Event → Type 0
  MakesStep work old x new event = (M : History W) → Agrees work old M → HasMade work M x new event

  -- a view of a core that made these steps saw each of them, after what it saw before
  abbrev pub SeesAll : {S : Type 0} → Meaning W → (S → S → List Seen → Type 0) → CoreHeld W → List (Step W) → S → S → Type 0
  SeesAll {S} work saw core xs old now = (M : History W) → Agrees work core M
      → (first : S) (seen : List Seen) → saw first old seen → saw first now (seen_from work M xs seen)

  -- the completions of each server among the replies to these steps of a core go on so
  abbrev pub AllComplete : Meaning W → CoreHeld W → List (Step W) → Type 0
  AllComplete work core xs = (M : History W) → Agrees work core M → (s : ℕ) → CompletesAll work M xs s

  -- a core made these steps, and a view saw each of them. The completions of each server go on
  pub record Shows {S : Type 0} (work : Meaning W) (saw : S → S → List Seen → Type 0) (xs : List (Step W)) (old new : CoreHeld W)
      (before now : S) : Type 0 where
    pub state : Follows work old new xs
    pub seen : SeesAll work saw old xs before now
    pub completes : AllComplete work old xs

  -- a core and a view were stopped among these steps, whatever history the core agreed with before
  abbrev pub Stops : {S : Type 0} → Meaning W → (S → S → List Seen → Type 0) → (S → S → List Seen → Type 0) → List (Step W)
      → CoreHeld W → CoreHeld W → S → S → Type 0
  Stops work saw failed xs old new before now = (M : History W) → Agrees work old M → StopsAmong work saw failed M xs new before now

  -- servers with this backlog, before the first step
  abbrev pub start_with : ModedPlan → ℕ → History W
  start_with s backlog = history_of s.modes s.plan.rates backlog []

  -- the clock after steps
  abbrev pub clock_after : Meaning W → History W → List (Step W) → ℕ
  clock_after work M xs = (world_after work (M ⊕⊕ xs)).now

  -- What the replies to all steps of a run mean. The completions of each server go on so. After a close of a server no
  -- submit to it is accepted. The laws on time hold
  pub record KeepsLawsFrom (work : Meaning W) (start : History W) (steps : List (Step W)) : Type 0 where
    pub completions : (s : ℕ) → CompletesAll work start steps s
    pub closes : (s : ℕ) → NoneAfterClose s (account_in work start s).closed steps (replies_after work start steps)
    pub punctual : IsPunctual work (start ⊕⊕ steps)
