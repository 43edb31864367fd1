-- What C hands to the figures of a server.
use Rattle.std.specs.Prelude.{ℕ, ◌+◌, ◌*◌, ◌^◌, ◌==◌, Some, None, if◌then◌else◌}
use Rattle.cbs_embed.specs.declared.server.Server.{Server}
use Rattle.cbs_live.specs.declared.figures.Ended.{Ended}
use Rattle.cbs_live.specs.declared.late.Told.{Told}
use Rattle.cbs_c.specs.declared.values.Unit as unit
use Rattle.cbs_c.specs.declared.values.View.{View}

-- the end of a unit, which finishes its job if its kind says so
abbrev pub ended_of : unit.Unit → ℕ → ℕ → ℕ → Ended
ended_of u time charged lateness = record {
  time = time;
  done = if u.kind == 3 then Some u.seq else None;
  charged = charged;
  lateness = lateness;
}

-- what a view shows of a server, with the server's reservation
abbrev pub told_of : Server → View → Told
told_of s v = record {
  whole = s.budget;
  period = s.period;
  budget = v.budget;
  deadline = v.deadline_low + v.deadline_high * 2 ^ 64;
}
