use Rattle.std.proofs.Common.{◌≤◌, ◌*◌, length}
use Rattle.cbs_clients.specs.Houses.{core_of}
use Rattle.cbs_house.specs.Rounds.{TakesExactly}
use Rattle.cbs_house.proofs.round.house_turns.Given as goal

abbrev pub invariant-loop : goal.invariant-loop
invariant-loop g l =
    record {
      taken : TakesExactly g.W.Work.meaning g.M.Meter.may_tell l.counter l.initial.house l.house l.took;
      few : l.took ≤ l.counter * length (core_of l.initial.house).faces;
      most : l.took ≤ 64 * l.counter;
    }
