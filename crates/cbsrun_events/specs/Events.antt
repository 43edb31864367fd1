-- The effect of a step, and its server.
use Rattle.std.specs.Prelude.{ℕ, ◌-◌, Option, Some, None}
use Rattle.cbs_steps.specs.declared.reply.Ran.{Ran}
use Rattle.cbs_steps.specs.declared.reply.Ran.TheVariants as ran
use Rattle.cbsrun_events.specs.declared.seen.Event.{Event}
use Rattle.cbsrun_events.specs.declared.seen.Event.TheVariants as event
use Rattle.cbsrun_events.specs.declared.seen.Seen.{Seen}

-- the server of a unit
abbrev pub server_of_unit : Ran → Option ℕ
server_of_unit (ran.Unit s q) = Some s
server_of_unit (ran.Done c) = Some c.server
server_of_unit _ = None

-- the server of a step: the one that a job came for, that ran, or that was charged
abbrev pub server_of : Event → Option ℕ
server_of (event.Accepted job number promised) = Some job.server
server_of (event.NotAccepted job error) = Some job.server
server_of (event.Ran r) = server_of_unit r
server_of (event.Charged s n) = Some s
server_of _ = None

-- the ticks that a run takes: 1 if it ran a unit, else 0
abbrev pub ticks_of_run : Ran → ℕ
ticks_of_run (ran.Unit s q) = 1
ticks_of_run (ran.Done c) = 1
ticks_of_run _ = 0

-- the ticks that the step took
abbrev pub ticks_of : Event → ℕ
ticks_of (event.Ran r) = ticks_of_run r
ticks_of (event.Advanced n) = n
ticks_of (event.Charged s n) = n
ticks_of _ = 0

-- the clock before the step
abbrev pub begun : Seen → ℕ
begun o = o.clock - ticks_of o.event
