use Rattle.std.proofs.Common.{◌≡◌, ◌∙◌, [], sym, refl, arith}
use Rattle.std.proofs.lemmas.Grind.{common_steps}
use Rattle.std.proofs.lemmas.Option.{slice_get-get_or}
use Rattle.std.proofs.lemmas.List.Elements.{All-push}
use Rattle.cbsrun_figures.specs.Tallies.{Kept, kept_of}
use Rattle.cbsrun_figures.proofs.ReportSteps.{budgets_more}
use Rattle.cbsrun_figures.proofs.report.Report.new.Goals as goal

pub loop-server-preserved : goal.loop-server-preserved
loop-server-preserved g c =
    let l = c.loop-server in
    let more = c.in_ok-push.ensures.items in
    let one = c.in_ok-new.ensures in
    record {
      budgets = rw more (budgets_more l.tallies.items c.args.plan.now.rates l.server c.in_ok-new.field-0 c.unwrap-reservation.result
          l.invariant.budgets (sym c.unwrap-reservation.ensures ∙ c.get.ensures.value) (rw one (c.budget.ensures.value)));
      empty = rw more (All-push (λ (k : Kept). k ≡ kept_of k.budget []) l.tallies.items c.in_ok-new.field-0 l.invariant.empty (rw one refl));
    }

pub loop-server-init : goal.loop-server-init
loop-server-init g c = grind (arith, common_steps)

pub returns-clause-none : goal.returns-clause-none
returns-clause-none g c = grind (arith, common_steps)

pub returns-clause-servers : goal.returns-clause-servers
returns-clause-servers g c = grind (arith, common_steps)

pub unwrap-reservation-requires : goal.unwrap-reservation-requires
unwrap-reservation-requires g c =
    rw (c.get.ensures.value, slice_get-get_or c.args.plan.now.rates c.loop-server.server (record { budget = 0; period = 0 }) (omega arith)) refl
