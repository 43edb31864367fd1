use Rattle.std.proofs.Common.{List, ◌∷◌, refl, subst, inl, inr}
use Rattle.cbs_steps.specs.History.{world_after}
use Rattle.cbs_steps.specs.declared.step.Step.TheVariants.{Run, Advance}
use Rattle.cbs_steps.specs.declared.step.Step.{Step}
use Rattle.cbs_core.specs.Agreement.{Follows}
use Rattle.cbs_core.proofs.Laws.{run_later, advance_later, busy_by, later_by}
use Rattle.cbs_clients.proofs.MadeSteps.{on_ok, span_granted}
use Rattle.cbs_clients.proofs.Metered.{paid_is, unit_later}
use Rattle.cbs_clients.proofs.Turns.{numbered}
use Rattle.cbs_clients.proofs.house.House.go_on.Goals as goal

pub returns-in-None-clause-goes_on : goal.returns-in-None-clause-goes_on
returns-in-None-clause-goes_on g c =
    let work = g.W.Work.meaning in
    let core = c.args.self.now.core in
    let r = c.run_metered.ensures.run in
    inl (
      record {
        paid = r.paid;
        pays = r.pays;
        made = r.made;
        useful = λ M agrees. record {
          busy = busy_by work core M agrees c.requires.busy;
          early = rw agrees.world.clock at c.requires.early;
          ready = c.in-None.ensures M agrees;
        };
        answer = r.reply;
      },
      refl,
    )

pub returns-in-None-clause-later : goal.returns-in-None-clause-later
returns-in-None-clause-later g c =
    let work = g.W.Work.meaning in
    let old = c.args.self.now in
    let new = c.run_metered.new.self in
    let r = c.run_metered.ensures.run in
    let is = paid_is g.M.Meter.may_tell old.core.clock c.run_metered.result r.paid r.pays in
    unit_later work old.core new.core is.0 is.1 old.housed.history
    (subst (λ (xs : List (Step g.row.W.Denot)). Follows work old.core new.core (Run ∷ xs)) is.2 r.made.steps)
    (λ M agrees. run_later work M.setup.backlog (world_after work M) (c.in-None.ensures M agrees) (rw agrees.world.clock at c.requires.early))

pub returns-in-None-clause-numbered : goal.returns-in-None-clause-numbered
returns-in-None-clause-numbered g c = numbered g.W.Work.meaning c.args.self.now c.args.self.now.housed c.run_metered.result c.run_metered.ensures.run.reply

pub returns-in-Some-clause-goes_on : goal.returns-in-Some-clause-goes_on
returns-in-Some-clause-goes_on g c =
    let work = g.W.Work.meaning in
    let old = c.args.self.now in
    let granted = span_granted work old.core c.advance.result c.in-Some.span old.housed.history c.requires.early c.advance.ensures.end c.in-Some.ensures in
    inr (inl (
      record {
        made = on_ok c.advance.result _ granted c.advance.ensures.made;
        needed = λ M agrees. record {
          busy = busy_by work old.core M agrees c.requires.busy;
          early = rw agrees.world.clock at c.requires.early;
          span = c.in-Some.ensures M agrees;
        };
      },
      refl,
    ))

pub returns-in-Some-clause-later : goal.returns-in-Some-clause-later
returns-in-Some-clause-later g c =
    let work = g.W.Work.meaning in
    let old = c.args.self.now in
    let granted = span_granted work old.core c.advance.result c.in-Some.span old.housed.history c.requires.early c.advance.ensures.end c.in-Some.ensures in
    let made = on_ok c.advance.result _ granted c.advance.ensures.made in
    later_by work old.core c.advance.new.self.core (Advance c.in-Some.span) old.housed.history made.steps
    (λ M agrees. advance_later work M.setup.backlog (world_after work M) c.in-Some.span (c.in-Some.ensures M agrees)
    (rw agrees.world.clock at c.requires.early))

pub returns-in-None-clause-rings : goal.returns-in-None-clause-rings
returns-in-None-clause-rings g c = c.run_metered.ensures.run.made.rings

pub returns-in-None-clause-collects : goal.returns-in-None-clause-collects
returns-in-None-clause-collects g c = c.run_metered.ensures.run.collects

pub returns-in-None-clause-job : goal.returns-in-None-clause-job
returns-in-None-clause-job g c = c.run_metered.ensures.run.job

pub returns-in-Some-clause-rings : goal.returns-in-Some-clause-rings
returns-in-Some-clause-rings g c = c.advance.ensures.rings

pub returns-in-Some-clause-collects : goal.returns-in-Some-clause-collects
returns-in-Some-clause-collects g c = c.advance.ensures.results

pub unwrap-requires : goal.unwrap-requires
unwrap-requires g c =
    span_granted g.W.Work.meaning c.args.self.now.core c.advance.result c.in-Some.span c.args.self.now.housed.history c.requires.early c.advance.ensures.end
    c.in-Some.ensures
