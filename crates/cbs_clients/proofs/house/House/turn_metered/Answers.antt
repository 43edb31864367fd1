use Rattle.std.proofs.Common.{◌∙◌}
use Rattle.cbs_clients.proofs.Moves.{serves_on_time}
use Rattle.cbs_clients.proofs.PacedMoves.{serves_paced}
use Rattle.cbs_clients.proofs.Turns.{collects_behind, numbered_behind, polls_serve}
use Rattle.cbs_clients.proofs.house.House.turn_metered.Goals as goal

pub returns : goal.returns
returns g c =
    let work = g.W.Work.meaning in
    let may = g.M.Meter.may_tell in
    let a = c.args.self.now in
    let p = c.poll_marked-polls in
    let o = c.go_on_if_busy-ran in
    let steps = polls_serve work may a p.new.house o.new.self _ p.result.took o.result.1 p.result.out_of_memory o.result.0 p.ensures.polled o.ensures.goes_on in
    record {
      turn = record { between = p.new.house; polled = p.ensures.polled; goes_on = o.ensures.goes_on };
      steps = steps;
      on_time = λ never. serves_on_time work may a o.new.self never a.housed.history steps;
      paced = serves_paced work may a o.new.self a.housed.history steps;
      few = p.ensures.few;
      rings = o.ensures.rings ∙ p.ensures.polled.made.rings;
      collects = collects_behind o.result.0 a p.new.house o.new.self p.ensures.results o.ensures.collects;
      numbered = numbered_behind o.result.0 a p.new.house p.ensures.results (λ s. (p.ensures.polled.made.seats s).handed) o.ensures.numbered;
      job = o.ensures.job;
    }
