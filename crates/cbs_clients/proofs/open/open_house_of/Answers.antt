use Rattle.std.proofs.Common.{sym, ap, arith, ◌≡◌, ◌∙◌, ◌≤◌, length, map}
use Rattle.std.proofs.lemmas.Grind.{common_steps}
use Rattle.std.specs.List.{range_with_len}
use Rattle.std.proofs.lemmas.List.{length-map}
use Rattle.std.proofs.lemmas.List.FromFn.{length-range_with_len}
use Rattle.std.proofs.lemmas.Result.{IfOk-weaker}
use Rattle.cbs_rate.specs.Limits.{most_servers}
use Rattle.cbs_steps.specs.History.{Setup}
use Rattle.cbs_steps.specs.Setups.{setup_of}
use Rattle.cbs_core.proofs.Laws.{new_count, terms_count}
use Rattle.cbs_clients.specs.Calls.{IsNewHouse}
use Rattle.cbs_clients.specs.Clients.{server_of, AreOpened, EachOpened}
use Rattle.cbs_clients.specs.Houses.{rings_of}
use Rattle.cbs_clients.specs.Opened.{HousesCore}
use Rattle.cbs_clients.proofs.NewHouses.{each_opened, are_opened}
use Rattle.cbs_clients.proofs.open.open_house_of.Goals as goal

pub house_of-requires-clause-new : goal.house_of-requires-clause-new
house_of-requires-clause-new g c =
    let setup : Setup = setup_of c.args.modes.now c.args.plan.now.rates c.args.backlog in
    (setup, c.in-Ok.ensures.start, omega (arith, c.if-backlog-eq0.false))

pub returns-clause-new : goal.returns-clause-new
returns-clause-new g c =
    let work = g.W.Work.meaning in
    let setup : Setup = setup_of c.args.modes.now c.args.plan.now.rates c.args.backlog in
    IfOk-weaker c.house_of.result (λ r. HousesCore c.in-Ok.core c.args.ring r.0 r.1.items) (λ r. IsNewHouse work setup r.0) (λ r made. record {
      agrees = rw made.same c.in-Ok.ensures.start;
      empty = made.empty;
      untold = made.untold;
      on_time = rw made.same c.in-Ok.ensures.on_time;
      paced = rw made.same c.in-Ok.ensures.paced;
      punctual = c.in-Ok.ensures.punctual;
    }) c.house_of.ensures.made

pub returns-clause-clients : goal.returns-clause-clients
returns-clause-clients g c =
    let rates = c.args.plan.now.rates in
    let setup : Setup = setup_of c.args.modes.now rates c.args.backlog in
    let servers = new_count g.W.Work.meaning c.in-Ok.core setup c.in-Ok.ensures.start ∙ terms_count c.args.modes.now rates c.requires in
    IfOk-weaker c.house_of.result (λ r. HousesCore c.in-Ok.core c.args.ring r.0 r.1.items)
    (λ r. map server_of r.1.items ≡ range_with_len 0 (length rates)) (λ r made. rw servers at made.servers) c.house_of.ensures.made

pub returns-clause-count : goal.returns-clause-count
returns-clause-count g c =
    let core = c.in-Ok.core in
    let rates = c.args.plan.now.rates in
    let setup : Setup = setup_of c.args.modes.now rates c.args.backlog in
    let servers = new_count g.W.Work.meaning core setup c.in-Ok.ensures.start ∙ terms_count c.args.modes.now rates c.requires in
    IfOk-weaker c.house_of.result (λ r. HousesCore core c.args.ring r.0 r.1.items)
    (λ r. (length r.1.items ≡ length rates) × (length r.1.items ≤ most_servers)) (λ r made.
    let count : length r.1.items ≡ length core.faces =
    sym (length-map r.1.items server_of) ∙ (ap length made.servers ∙ length-range_with_len 0 (length core.faces)) in
    (count ∙ servers, omega (arith, count, made.few))) c.house_of.ensures.made

pub returns-clause-together : goal.returns-clause-together
returns-clause-together g c =
    IfOk-weaker c.house_of.result (λ r. HousesCore c.in-Ok.core c.args.ring r.0 r.1.items) (λ r. AreOpened (rings_of r.0) r.1.items)
    (λ r made. are_opened (rings_of r.0) r.1.items made.opened) c.house_of.ensures.made

pub returns-clause-each : goal.returns-clause-each
returns-clause-each g c =
    IfOk-weaker c.house_of.result (λ r. HousesCore c.in-Ok.core c.args.ring r.0 r.1.items) (λ r. EachOpened (rings_of r.0) r.1.items)
    (λ r made. each_opened (rings_of r.0) r.1.items made.opened) c.house_of.ensures.made

pub returns-clause-refusal : goal.returns-clause-refusal
returns-clause-refusal g c = grind (arith, common_steps)
