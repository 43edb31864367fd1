-- The moves of a simulation, as a view sees them.
use Rattle.std.specs.Prelude.{List, [], ◌∷◌}
use Rattle.cbs_job.specs.Work.{Meaning}
use Rattle.cbs_steps.specs.History.{World, faces, world_after, reply_in}
use Rattle.cbs_steps.specs.declared.reply.Reply.{Reply}
use Rattle.cbsrun_events.specs.Steps.{answer_in, ran_in, promised_in, submit_seen, seen_at}
use Rattle.cbsrun_events.specs.declared.seen.Arrival.{Arrival}
use Rattle.cbsrun_events.specs.declared.seen.Event.{Event}
use Rattle.cbsrun_events.specs.declared.seen.Event.TheVariants as event
use Rattle.cbsrun_events.specs.declared.seen.Seen.{Seen}
use Rattle.cbsrun_simulate.specs.Moves.{Move, submit, run, pass, charge, step_of, Simulation, after_move}
use Rattle.cbsrun_simulate.specs.declared.release.Release.{Release}

-- the job of a release, as a view sees it when it comes
abbrev pub arrival_of : Release → Arrival
arrival_of r = record { server = r.server; came = r.tick; units = r.units; within = r.within }

module _ {W : Type 0} (work : Meaning W) where
  -- the event of a move, by the world after it and the reply to its step
  abbrev pub event_of : World W → Move → Reply W → Event
  event_of w (submit r) answer = submit_seen (arrival_of r) (answer_in answer) (promised_in work w r.server (answer_in answer))
  event_of w run answer = event.Ran (ran_in answer)
  event_of w (pass n) answer = event.Advanced n
  event_of w (charge s n) answer = event.Charged s n

module _ {W : Type 0} (work : Meaning W) (job : Release → W) where
  -- what a view sees of a move of a simulation
  abbrev pub seen_of : Simulation W → Move → Seen
  seen_of sim m =
      let w = world_after work (after_move work job sim m).history in
      seen_at w.now (faces work w) (event_of work w m (reply_in work sim.history (step_of work job m)))

  -- what a view sees of moves, the newest first, before what it saw earlier
  abbrev pub shown : Simulation W → List Move → List Seen → List Seen
  shown sim [] seen = seen
  shown sim (m ∷ ms) seen = shown (after_move work job sim m) ms (seen_of sim m ∷ seen)
