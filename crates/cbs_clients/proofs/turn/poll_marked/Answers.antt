use Rattle.std.proofs.Common.{◌≡◌, ◌+◌, ◌-◌, length, ap, ◌∙◌, arith}
use Rattle.cbs_clients.specs.Houses.{core_of, Seat}
use Rattle.cbs_clients.proofs.PolledServers.{polled_none, polled_next, polled_quietly, polled_few, same_servers, few_servers}
use Rattle.cbs_clients.proofs.turn.poll_marked.Goals as goal

pub loop-server-init : goal.loop-server-init
loop-server-init g c =
    let same = c.take_marks.ensures in
    record {
      polled = polled_none g.W.Work.meaning c.args.house.now c.take_marks.new.self same;
      within = omega arith;
      results = λ s. ap (λ (x : Seat _). x.results) (same.seats s);
    }

pub overflow_add-took : goal.overflow_add-took
overflow_add-took g c =
    let l = c.loop-server in
    let few = polled_few g.W.Work.meaning c.args.house.now l.house l.next l.took l.out_of_memory l.invariant.polled in
    let servers = few_servers g.W.Work.meaning c.args.house.now c.args.house.now.housed in
    omega (arith, few, servers, l.invariant.within, c.count-took.ensures.most)

pub loop-server-smaller : goal.loop-server-smaller
loop-server-smaller g c =
    let l = c.loop-server in
    let next = c.in-Some.ensures.some in
    let servers = same_servers g.W.Work.meaning c.args.house.now l.house c.args.house.now.housed l.house.housed l.invariant.polled.made.rings in
    omega (arith, servers, next.0, next.1)

pub loop-server-preserved : goal.loop-server-preserved
loop-server-preserved g c =
    let work = g.W.Work.meaning in
    let l = c.loop-server in
    let p = c.poll_and_unmark-poll in
    let server = c.in-Some.server in
    let next = c.in-Some.ensures.some in
    let servers = same_servers work c.args.house.now l.house c.args.house.now.housed l.house.housed l.invariant.polled.made.rings in
    let skipped : l.next + (server - l.next) ≡ server = omega (arith, next.0) in
    let before = rw skipped at (polled_quietly work c.args.house.now l.house l.next l.took l.out_of_memory (server - l.next) l.invariant.polled
    (let w = next.1 in omega (arith, w, skipped)) (λ s from below. next.2 s from (omega (arith, below, skipped)))) in
    record {
      polled = rw (c.count-took.ensures.value, c.is_out_of_memory-out_of_memory.ensures)
          (polled_next work c.args.house.now l.house p.new.self server l.took l.out_of_memory p.result before p.ensures.polled);
      within = omega (arith, servers, next.1);
      results = λ s. p.ensures.results s ∙ l.invariant.results s;
    }

pub returns-clause-polled : goal.returns-clause-polled
returns-clause-polled g c =
    let work = g.W.Work.meaning in
    let l = c.loop-server in
    let servers = same_servers work c.args.house.now l.house c.args.house.now.housed l.house.housed l.invariant.polled.made.rings in
    let n = length (core_of c.args.house.now).faces in
    let all : l.next + (n - l.next) ≡ n = omega (arith, l.invariant.within) in
    rw all at (polled_quietly work c.args.house.now l.house l.next l.took l.out_of_memory (n - l.next) l.invariant.polled
    (omega (arith, servers, all)) (λ s from below. c.in_default.ensures.none s from (omega (arith, below, servers, all))))

pub returns-clause-results : goal.returns-clause-results
returns-clause-results g c = c.loop-server.invariant.results

pub returns-clause-few : goal.returns-clause-few
returns-clause-few g c =
    let l = c.loop-server in
    let few = polled_few g.W.Work.meaning c.args.house.now l.house l.next l.took l.out_of_memory l.invariant.polled in
    omega (arith, few, l.invariant.within)

pub returns-clause-most : goal.returns-clause-most
returns-clause-most g c =
    let l = c.loop-server in
    let few = polled_few g.W.Work.meaning c.args.house.now l.house l.next l.took l.out_of_memory l.invariant.polled in
    let servers = few_servers g.W.Work.meaning c.args.house.now c.args.house.now.housed in
    omega (arith, few, servers, l.invariant.within)
