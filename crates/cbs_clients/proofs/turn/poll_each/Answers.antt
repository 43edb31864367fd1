use Rattle.std.proofs.Common.{◌≡◌, length, refl, ◌∙◌, arith}
use Rattle.cbs_clients.specs.Houses.{core_of}
use Rattle.cbs_clients.proofs.PolledServers.{polled_none, polled_next, polled_few}
use Rattle.cbs_clients.proofs.MadeSteps.{same_here}
use Rattle.cbs_clients.proofs.turn.poll_each.Goals as goal

pub loop-server-init : goal.loop-server-init
loop-server-init g c = record { polled = polled_none g.W.Work.meaning c.args.house.now c.args.house.now (same_here c.args.house.now); results = λ s. refl }

pub loop-server-preserved : goal.loop-server-preserved
loop-server-preserved g c =
    let l = c.loop-server in
    let p = c.poll-poll in
    record {
      polled =
          rw (c.count-took.ensures.value, c.is_out_of_memory-out_of_memory.ensures)
          (polled_next g.W.Work.meaning c.args.house.now l.house p.new.self l.server l.took l.out_of_memory p.result l.invariant.polled p.ensures.polled);
      results = λ s. p.ensures.results s ∙ l.invariant.results s;
    }

pub overflow_add-took : goal.overflow_add-took
overflow_add-took g c =
    let l = c.loop-server in
    let few = polled_few g.W.Work.meaning c.args.house.now l.house l.server l.took l.out_of_memory l.invariant.polled in
    omega (arith, few, c.count-took.ensures.most, c.loop-server-test.true, c.servers-server-end.ensures.few)

pub returns-clause-polled : goal.returns-clause-polled
returns-clause-polled g c =
    let l = c.loop-server in
    let all : l.server ≡ length (core_of c.args.house.now).faces =
    omega (arith, c.loop-server-test.false, l.auto.server-end, c.servers-server-end.ensures.value) in
    rw (← all) l.invariant.polled

pub returns-clause-few : goal.returns-clause-few
returns-clause-few g c =
    let l = c.loop-server in
    let few = polled_few g.W.Work.meaning c.args.house.now l.house l.server l.took l.out_of_memory l.invariant.polled in
    omega (arith, few, l.auto.server-end, c.servers-server-end.ensures.value)

pub returns-clause-most : goal.returns-clause-most
returns-clause-most g c =
    let l = c.loop-server in
    let few = polled_few g.W.Work.meaning c.args.house.now l.house l.server l.took l.out_of_memory l.invariant.polled in
    omega (arith, few, l.auto.server-end, c.servers-server-end.ensures.few)
