use Rattle.std.proofs.Common.{◌≡◌, ◌∙◌, length, refl, ap}
use Rattle.cbs_recorded.specs.Records.{tape_in}
use Rattle.cbs_hindsight.proofs.Hindsight.{has_cut}
use Rattle.cbs_lists.proofs.Lists.{length-changed_at}
use Rattle.cbs_core.specs.Agreement.{HasHistory, ended}
use Rattle.cbs_core.specs.Held.{CoreHeld, with_job_ended}
use Rattle.cbs_clients.proofs.HouseInvariant.{ended_next, housed_ended}
use Rattle.cbs_clients.proofs.house.House.finish.Goals as goal

pub take_early-requires : goal.take_early-requires
take_early-requires g c =
    let old = c.args.self.now in
    let j = c.in-Ok.ensures.job in
    ended_next g.W.Work.meaning old.core c.finish_told.new.core old.rings old.rings old.collector old.collector old.housed c.in-Ok.done c.args.server j.2 j.0

pub invariant_of-self : goal.invariant_of-self
invariant_of-self g c =
    let work = g.W.Work.meaning in
    let old = c.args.self.now in
    let new = c.finish_told.new.core in
    let j = c.in-Ok.ensures.job in
    let same = c.in-Ok.ensures.ended in
    let cut = has_cut work g.met.W.Work.lowers in
    let history : HasHistory work new = λ none. old.housed.history (λ M agrees. none (ended work cut.0 c.args.server M) (c.in-Ok.ensures.hindsight cut.0 cut.1 M agrees)) in
    let count : length new.faces ≡ length old.core.faces = ap (λ (x : CoreHeld _). length x.faces) same ∙ length-changed_at with_job_ended old.core.faces c.args.server in
    let t = c.take_early.ensures in
    record {
      housed = housed_ended work old.core new old.rings old.rings old.collector c.take_early.new.self old.housed c.in-Ok.done c.args.server j.2 j.0 j.1 history count
          (ap (λ (x : CoreHeld _). x.backlog) same) refl t.others.1 t.taken t.others.0;
    }

pub returns-in-Ok : goal.returns-in-Ok
returns-in-Ok g c =
    let e = c.in-Ok.ensures.job.2 in
    let t = rw e at c.take_early.ensures.taken in
    let others = rw e at c.take_early.ensures.others.0 in
    record {
      hindsight = c.in-Ok.ensures.hindsight;
      job = c.in-Ok.ensures.job;
      collects = (rw (t.handed, t.results, t.early) refl, λ u ne. rw ((others u ne).handed, (others u ne).results, (others u ne).early) refl);
      loses = c.in-Ok.ensures.loses;
      rings = refl;
      on_time = c.finish_told.ensures.on_time;
      paced = c.finish_told.ensures.paced;
      same = tt;
      refusal = c.in-Ok.ensures.refusal;
    }

pub returns-in-Err : goal.returns-in-Err
returns-in-Err g c = record {
  hindsight = tt;
  job = tt;
  collects = tt;
  loses = tt;
  rings = refl;
  on_time = c.finish_told.ensures.on_time;
  paced = c.finish_told.ensures.paced;
  same = record { core = c.in-Err.ensures.unchanged; rings = refl; tape = ap tape_in c.in-Err.ensures.same; seats = λ s. refl };
  refusal = (c.in-Err.error, c.in-Err.ensures.refusal, c.of_charge.ensures);
}
