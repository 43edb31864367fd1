use Rattle.std.proofs.Common.{◌∙◌, ◌∷◌, [], refl, sym, arith, rules}
use Rattle.cbs_steps.specs.declared.step.Step.TheVariants.{Submit, Close}
use Rattle.cbs_clients.proofs.HouseInvariant.{housed_one, keeps_job, keeps_end, same_shelf, none_handed}
use Rattle.cbs_clients.proofs.MadeSteps.{made_job, made_end}
use Rattle.cbs_clients.proofs.house.House.take_next.Goals as goal

pub invariant_of-self : goal.invariant_of-self
invariant_of-self g c =
    let work = g.W.Work.meaning in
    let old = c.args.self.now in
    let h = old.housed in
    let s = c.args.server in
    let t = c.in-Job.ensures in
    let u = c.submit_told-number.ensures in
    let e = c.expect_reserved in
    record {
      housed = housed_one work old.core c.submit_told-number.new.core old.rings c.take.new.self old.collector e.new.self h s t.rings
          e.ensures.others.1 u.makes.count
          (Submit s c.in-Job.task ∷ []) u.makes.state
          (λ l. keeps_job work _ _ _ _ _ _ _ _ _ _ (h.servers s l) c.in-Job.task c.submit_told-number.result u.job.0
          c.requires.room.accepts.is_open.unclosed t.received e.ensures.announced.handed e.ensures.announced.results e.ensures.announced.early)
          (λ l. let n = u.job.0.accepted in let m = e.ensures.announced.announced in omega (arith, h.announced s l))
          u.job.1 (λ r ne. (t.others r ne).0) e.ensures.others.0;
    }

pub invariant_of-self-in-End : goal.invariant_of-self-in-End
invariant_of-self-in-End g c =
    let work = g.W.Work.meaning in
    let old = c.args.self.now in
    let h = old.housed in
    let s = c.args.server in
    let t = c.in-End.ensures in
    let k = c.close_told.ensures in
    record {
      housed = housed_one work old.core c.close_told.new.core old.rings c.take.new.self old.collector old.collector h s t.rings refl k.makes.count
          (Close s ∷ []) k.makes.state
          (λ l. keeps_end work _ _ _ _ _ _ _ _ _ _ (h.servers s l) k.closed.0 c.requires.room.accepts.is_open.unclosed t.received refl refl refl)
          (λ l. h.announced s l ∙ sym k.closed.0.accepted)
          k.closed.1 (λ r ne. (t.others r ne).0) (λ r ne. same_shelf _);
    }

pub returns-in-Job-clause-polled : goal.returns-in-Job-clause-polled
returns-in-Job-clause-polled g c =
    let old = c.args.self.now in
    let s = c.args.server in
    let t = c.in-Job.ensures in
    let u = c.submit_told-number.ensures in
    let e = c.expect_reserved in
    let accepts = c.requires.room.accepts in (
      c.in-Job.task,
      made_job g.W.Work.meaning old _ s c.in-Job.task t.rings t.received t.known t.others
          (none_handed old.collector e.new.self s e.ensures.announced.handed e.ensures.announced.early e.ensures.others.0) u.makes.state u.makes.on_time u.makes.paced u.recorded,
      accepts,
      u.job.0.number ∙ (old.housed.servers s accepts.is_open.within).accepted,
    )

pub returns-in-End-clause-polled : goal.returns-in-End-clause-polled
returns-in-End-clause-polled g c =
    let t = c.in-End.ensures in
    let accepts = c.requires.room.accepts in (
      made_end g.W.Work.meaning c.args.self.now _ c.args.server t.rings t.received t.known t.others (λ s. (refl, refl))
          c.close_told.ensures.makes.state c.close_told.ensures.makes.on_time c.close_told.ensures.makes.paced c.close_told.ensures.recorded,
      accepts,
    )

pub returns-in-Job-clause-rings : goal.returns-in-Job-clause-rings
returns-in-Job-clause-rings g c = c.in-Job.ensures.rings

pub returns-in-End-clause-rings : goal.returns-in-End-clause-rings
returns-in-End-clause-rings g c = c.in-End.ensures.rings

pub returns-in-End-clause-results : goal.returns-in-End-clause-results
returns-in-End-clause-results g c = λ s. refl

pub expect_reserved-requires-clause-spare : goal.expect_reserved-requires-clause-spare
expect_reserved-requires-clause-spare g c = search rules
