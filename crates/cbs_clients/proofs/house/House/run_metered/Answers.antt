use Rattle.std.proofs.Common.{refl}
use Rattle.cbs_steps.specs.declared.reply.Ran.TheVariants as ran
use Rattle.cbs_clients.proofs.Metered.{unit_runs}
use Rattle.cbs_clients.proofs.MeteredRuns.{run_by, asks_nothing, asks_once}
use Rattle.cbs_clients.proofs.house.House.run_metered.Goals as goal

pub pay-requires : goal.pay-requires
pay-requires g c =
    let a = c.args.self.now in
    let r = c.run-ran in
    unit_runs g.W.Work.meaning a.core r.new.self.core (ran.Unit c.in-Unit.server c.in-Unit.seq) c.in-Unit.server a.housed.history r.ensures.made.steps
    c.in-Unit.ensures.reply refl

pub pay-requires-in-Done : goal.pay-requires-in-Done
pay-requires-in-Done g c =
    let a = c.args.self.now in
    let r = c.run-ran in
    unit_runs g.W.Work.meaning a.core r.new.self.core (ran.Done c.in-Done.done) c.in-Done.done.server a.housed.history r.ensures.made.steps
    c.in-Done.ensures.reply refl

pub returns-in-Unit-clause-run : goal.returns-in-Unit-clause-run
returns-in-Unit-clause-run g c =
    let a = c.args.self.now in
    run_by g.W.Work.meaning g.M.Meter.may_tell a c.run-ran.new.self c.pay.new.self (ran.Unit c.in-Unit.server c.in-Unit.seq) c.in-Unit.server
    c.beyond.result a.housed.history c.in-Unit.ensures refl c.beyond.ensures.may c.pay.ensures.made c.pay.ensures.results c.pay.ensures.jobs

pub returns-in-Unit-clause-meter : goal.returns-in-Unit-clause-meter
returns-in-Unit-clause-meter g c =
    let work = g.W.Work.meaning in
    let tells = g.M.Meter.tells in
    let a = c.args.self.now in
    let told = ran.Unit c.in-Unit.server c.in-Unit.seq in
    let v = c.begin.new.self in
    let w = c.beyond.new.self in
    asks_once work g.M.Meter.begins tells a c.args.meter.now v c.begin.ensures c.pay.new.self told c.in-Unit.server w refl
    (run_by work (λ s n. tells v s n w) a c.run-ran.new.self c.pay.new.self told c.in-Unit.server
    c.beyond.result a.housed.history c.in-Unit.ensures refl c.beyond.ensures.tells c.pay.ensures.made c.pay.ensures.results c.pay.ensures.jobs)

pub returns-in-Done-clause-run : goal.returns-in-Done-clause-run
returns-in-Done-clause-run g c =
    let a = c.args.self.now in
    run_by g.W.Work.meaning g.M.Meter.may_tell a c.run-ran.new.self c.pay-in-Done.new.self (ran.Done c.in-Done.done) c.in-Done.done.server
    c.beyond-in-Done.result a.housed.history c.in-Done.ensures refl c.beyond-in-Done.ensures.may c.pay-in-Done.ensures.made c.pay-in-Done.ensures.results
    c.pay-in-Done.ensures.jobs

pub returns-in-Done-clause-meter : goal.returns-in-Done-clause-meter
returns-in-Done-clause-meter g c =
    let work = g.W.Work.meaning in
    let tells = g.M.Meter.tells in
    let a = c.args.self.now in
    let told = ran.Done c.in-Done.done in
    let v = c.begin.new.self in
    let w = c.beyond-in-Done.new.self in
    asks_once work g.M.Meter.begins tells a c.args.meter.now v c.begin.ensures c.pay-in-Done.new.self told c.in-Done.done.server w refl
    (run_by work (λ s n. tells v s n w) a c.run-ran.new.self c.pay-in-Done.new.self told c.in-Done.done.server
    c.beyond-in-Done.result a.housed.history c.in-Done.ensures refl c.beyond-in-Done.ensures.tells c.pay-in-Done.ensures.made c.pay-in-Done.ensures.results
    c.pay-in-Done.ensures.jobs)

pub returns-in-Idle-clause-meter : goal.returns-in-Idle-clause-meter
returns-in-Idle-clause-meter g c =
    asks_nothing g.W.Work.meaning g.M.Meter.begins g.M.Meter.tells c.args.self.now c.args.meter.now c.begin.new.self c.begin.ensures
    c.run-ran.new.self c.run-ran.result c.in-Idle.is c.run-ran.ensures
