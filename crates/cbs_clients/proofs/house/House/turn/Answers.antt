use Rattle.cbs_host.specs.Meters.{NothingBeyond}
use Rattle.cbs_clients.proofs.Moves.{never_beyond, serves_never}
use Rattle.cbs_clients.proofs.house.House.turn.Goals as goal

pub returns : goal.returns
returns g c =
    let t = c.turn_metered in
    let e = t.ensures in
    record {
      turn = e.turn;
      steps = serves_never g.W.Work.meaning NothingBeyond c.args.self.now t.new.self never_beyond e.steps;
      on_time = e.on_time never_beyond;
      paced = e.paced;
      few = e.few;
      rings = e.rings;
      collects = e.collects;
      numbered = e.numbered;
      job = e.job;
    }
