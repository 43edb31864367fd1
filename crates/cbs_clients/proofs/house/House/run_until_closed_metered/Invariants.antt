use Rattle.std.proofs.Common.{◌+◌, ◌-◌, ◌*◌, ◌≤◌, ◌<◌, ◌≡◌}
use Rattle.cbs_core.specs.Held.{HoldsNoJob}
use Rattle.cbs_clients.specs.Houses.{core_of}
use Rattle.cbs_clients.specs.UntilClosed.{RunsOn, RunsTelling, open_servers}
use Rattle.cbs_clients.proofs.Runs.{left_of}
use Rattle.cbs_clients.proofs.house.House.run_until_closed_metered.Given as goal

abbrev pub invariant-turns : goal.invariant-turns
invariant-turns g l =
    record {
      run : RunsTelling g.W.Work.meaning g.M.Meter.may_tell g.S.Sink.hears l.initial.self l.self l.initial.sink l.sink;
      on : RunsOn g.W.Work.meaning g.M.Meter.may_tell l.most l.initial.self l.self l.idle;
      within : l.idle ≤ l.most;
      idle : 0 < l.idle → HoldsNoJob (core_of l.self);
      unclosed : l.unclosed ≡ open_servers (core_of l.self);
      few : l.unclosed ≤ 64;
    }

abbrev pub decreases-turns : goal.decreases-turns
decreases-turns g l = left_of (core_of l.self) * (l.most + 1) + (l.most - l.idle)
