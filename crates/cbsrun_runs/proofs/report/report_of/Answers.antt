use Rattle.std.proofs.Common.{◌≡◌, ◌<◌, ◌+◌, ◌∙◌, ◌∷◌, [], ap, arith, length, length-append, Some}
use Rattle.std.proofs.lemmas.Grind.{common_steps}
use Rattle.std.specs.Prelude.{slice_get}
use Rattle.cbsrun_runs.specs.Runs.{Shown, IsServerReport}
use Rattle.cbsrun_runs.proofs.Servers.{each_is, each_more, figure_count, server_same, some_at}
use Rattle.cbsrun_runs.proofs.report.report_of.Goals as goal

pub loop-server-preserved : goal.loop-server-preserved
loop-server-preserved g c =
    let run = g.R.Run.run c.args.run.now in
    let after = g.R.Run.run c.outcome_of.new.run in
    let same = c.in_ok-outcome.ensures.servers in
    let l = c.loop-server in
    let r = c.in_ok-server_report.field-0 in
    let fs = c.in_ok-outcome.outcome.figures.items in
    let all = c.in_ok-outcome.ensures.figures in
    let planned : length c.plan.result.now.rates ≡ length run.plan.rates =
    ap (λ p. length p.rates) c.plan.ensures ∙ ap (λ (s : Shown). length s.plan.rates) same in
    let lt : l.server < length fs =
    omega (arith, figure_count run.plan.rates run.end run.seen fs all, c.len-server-end.ensures.value, c.loop-server-test.true, planned) in
    let at : slice_get fs l.server ≡ Some c.index-figures.result.now =
    some_at fs l.server c.index-figures.result.now lt (rw c.from.ensures at c.index-figures.ensures) in
    let told = c.in_ok-server_report.ensures in
    let one = server_same run after l.server r fs same all told.name told.mode told.reservation told.within (rw told.figures at) in
    record {
      count = ap length c.in_ok-push.ensures.items ∙ (length-append l.servers.items (r ∷ []) ∙ ap (λ n. n + 1) l.invariant.count);
      each = rw c.in_ok-push.ensures.items (each_more (IsServerReport run) 0 l.server l.servers.items r l.invariant.each (omega (arith, l.invariant.count)) one);
    }

pub returns-clause-few : goal.returns-clause-few
returns-clause-few g c =
    let few = c.len-server-end.ensures.lawful.few in
    omega (arith, few, c.loop-server.invariant.count, c.len-server-end.ensures.value, c.loop-server-test.false)

pub returns-clause-report : goal.returns-clause-report
returns-clause-report g c =
    let run = g.R.Run.run c.args.run.now in
    let same = c.in_ok-outcome.ensures.servers in
    let l = c.loop-server in
    let planned : length c.plan.result.now.rates ≡ length run.plan.rates =
    ap (λ p. length p.rates) c.plan.ensures ∙ ap (λ (s : Shown). length s.plan.rates) same in
    let third = c.plan-3.ensures ∙ ap (λ (s : Shown). s.plan) same in
    record {
      file = c.in_ok-from_str.ensures.ok;
      tick = c.tick.ensures ∙ ap (λ (s : Shown). s.tick) same;
      seed = c.seed.ensures ∙ ap (λ (s : Shown). s.seed) same;
      clock = c.in_ok-outcome.ensures.end;
      idle = c.in_ok-outcome.ensures.idle;
      backlog = c.backlog.ensures ∙ ap (λ (s : Shown). s.backlog) same;
      bound = c.bound.ensures ∙ ap (λ p. p.bound) (c.plan-2.ensures ∙ ap (λ (s : Shown). s.plan) same);
      reserved = rw (← third) c.bandwidth.ensures.value;
      count = omega (arith, l.invariant.count, c.len-server-end.ensures.value, c.loop-server-test.false, planned);
      each = λ s r e. each_is (IsServerReport run) l.servers.items s r l.invariant.each e;
    }

pub loop-server-init : goal.loop-server-init
loop-server-init g c = grind (arith, common_steps)

pub loop-server-smaller : goal.loop-server-smaller
loop-server-smaller g c = omega arith

pub overflow_cast-server-end : goal.overflow_cast-server-end
overflow_cast-server-end g c = omega arith

pub server_report-requires : goal.server_report-requires
server_report-requires g c =
    let same = c.in_ok-outcome.ensures.servers in
    let planned = ap (λ p. length p.rates) c.plan.ensures in
    omega (arith, planned, c.len-server-end.ensures.value, c.loop-server-test.true)

pub index-figures-requires : goal.index-figures-requires
index-figures-requires g c =
    let run = g.R.Run.run c.args.run.now in
    let same = c.in_ok-outcome.ensures.servers in
    let fs = c.in_ok-outcome.outcome.figures.items in
    let planned = ap (λ p. length p.rates) c.plan.ensures ∙ ap (λ (s : Shown). length s.plan.rates) same in
    omega (
      arith,
      figure_count run.plan.rates run.end run.seen fs c.in_ok-outcome.ensures.figures,
      c.from.ensures,
      c.len-server-end.ensures.value,
      c.loop-server-test.true,
      planned,
    )
