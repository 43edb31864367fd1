-- The values that C is shown of a house.
use Rattle.std.specs.Prelude.{ℕ, ◌-◌, ◌%◌, ◌/◌, ◌^◌, Option}
use Rattle.std.specs.Option.{unwrap_or}
use Rattle.cbs_steps.specs.declared.reply.Ran.{Ran}
use Rattle.cbs_steps.specs.declared.reply.Ran.TheVariants as ran
use Rattle.cbs_steps.specs.declared.view.ServerView.{ServerView}
use Rattle.cbs_host.specs.declared.poll.Poll.{Poll}
use Rattle.cbs_host.specs.declared.poll.Poll.TheVariants as poll
use Rattle.cbs_embed.specs.declared.told.Turn as told_turn
use Rattle.cbs_embed.specs.declared.told.Unit as told_unit
use Rattle.cbs_c.specs.declared.values.Turn.{Turn}
use Rattle.cbs_c.specs.declared.values.Unit as unit
use Rattle.cbs_c.specs.declared.values.View.{View}

-- the unit of a run's result and a token, for C
abbrev pub ran_shown : Ran → ℕ → unit.Unit
ran_shown ran.Idle token = record { kind = 0; server = 0; seq = 0; token = token }
ran_shown ran.ClockEnd token = record { kind = 1; server = 0; seq = 0; token = token }
ran_shown (ran.Unit s q) token = record { kind = 2; server = s; seq = q; token = token }
ran_shown (ran.Done c) token = record { kind = 3; server = c.server; seq = c.seq; token = token }

-- the unit of a run for C
abbrev pub unit_shown : told_unit.Unit → unit.Unit
unit_shown u = ran_shown u.ran u.token

-- a turn for C
abbrev pub turn_shown : told_turn.Turn → Turn
turn_shown t = record {
  took = t.turn.took;
  advanced = t.turn.advanced;
  ran = ran_shown t.turn.ran t.token;
  out_of_memory = t.turn.out_of_memory;
  over = t.over;
}

-- the view of a server for C
abbrev pub view_shown : ServerView → View
view_shown v = record {
  budget = v.budget;
  deadline_low = v.deadline % 2 ^ 64;
  deadline_high = v.deadline / 2 ^ 64;
  accepted = v.accepted;
  finished = v.finished;
  throttled = v.throttled;
  closed = v.closed;
}

-- the number of a poll's result; if there is no such server, the call is refused instead
abbrev pub poll_kind : Poll → ℕ
poll_kind poll.Nothing = 0
poll_kind (poll.Took q) = 1
poll_kind poll.Closed = 2
poll_kind poll.Full = 3
poll_kind poll.OutOfMemory = 4
poll_kind poll.NoSuchServer = 0

-- the number of a span: the greatest of 64 bits if there is none
abbrev pub span_shown : Option ℕ → ℕ
span_shown span = unwrap_or span (2 ^ 64 - 1)

-- the number of a promise: the greatest of 128 bits if there is none
abbrev pub promise_shown : Option ℕ → ℕ
promise_shown tick = unwrap_or tick (2 ^ 128 - 1)

-- the halves of the number of a promise
abbrev pub promise_low : Option ℕ → ℕ
promise_low tick = promise_shown tick % 2 ^ 64

abbrev pub promise_high : Option ℕ → ℕ
promise_high tick = promise_shown tick / 2 ^ 64
