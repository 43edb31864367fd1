use Rattle.std.proofs.Common.{◌∙◌, ◌+◌, true, false, refl, sym, arith}
use Rattle.std.proofs.lemmas.Grind.{common_steps}
use Rattle.cbs_lists.proofs.Lists.{counted}
use Rattle.cbs_core.proofs.Agreements.{next_late, late_still, idle_still, idle_next, reply_by, end_reply, unit_agrees, unit_answered}
use Rattle.cbs_core.proofs.Cores.{core_run, run_runs, right_false, may_run}
use Rattle.cbs_core.proofs.Effects.{did_run}
use Rattle.cbs_steps.specs.declared.reply.Ran.TheVariants as ran
use Rattle.cbs_steps.specs.declared.step.Step.TheVariants as step
use Rattle.cbs_core.proofs.LawfulCores.{makes_still, makes_new}
use Rattle.cbs_core.proofs.executor.Core.run.Goals as goal

pub run_first-output-requires : goal.run_first-output-requires
run_first-output-requires g c =
    let may = may_run c.self.invariant c.in-Some.ensures.choice c.if-self-ge-LIMIT.false in
    record { some = may.active; unfinished = may.unfinished }

pub invariant_of-self : goal.invariant_of-self
invariant_of-self g c =
    let may = may_run c.self.invariant c.in-Some.ensures.choice c.if-self-ge-LIMIT.false in
    let none = sym c.run_first-output.ensures.result ∙ c.in_default-output.is in
    core_run c.self.invariant true may (λ _. none) (rw none c.pass_tick.ensures) c.run_first-output.ensures.lists

pub invariant_of-self-2 : goal.invariant_of-self-2
invariant_of-self-2 g c =
    let may = may_run c.self.invariant c.in-Some.ensures.choice c.if-self-ge-LIMIT.false in
    let found = sym c.run_first-output.ensures.result ∙ c.in-Some-output.is in
    core_run c.self.invariant false may (λ e. cc) (rw found c.pass_tick-2.ensures) c.run_first-output.ensures.lists

pub returns-in_default-output-clause-job : goal.returns-in_default-output-clause-job
returns-in_default-output-clause-job g c =
    let may = may_run c.self.invariant c.in-Some.ensures.choice c.if-self-ge-LIMIT.false in
    let queues = c.run_first-output.new.self in
    let now = c.self.inside.clock + 1 in
    let last = record c.self.inside.last { server = c.in-Some.server; unfinished = true } in
    let unit = ran.Unit c.in-Some.server c.finished-seq.result in
    let none = sym c.run_first-output.ensures.result ∙ c.in_default-output.is in
    did_run g.met.W.Work.lowers c.self.view_is now now last c.pass_tick.new.self queues.lists queues.rooms
    c.in-Some.server unit may (rw (none, c.finished-seq.ensures) refl) (rw none c.pass_tick.ensures) c.run_first-output.ensures.lists

pub returns-clause-job : goal.returns-clause-job
returns-clause-job g c =
    let may = may_run c.self.invariant c.in-Some.ensures.choice c.if-self-ge-LIMIT.false in
    let queues = c.run_first-output.new.self in
    let now = c.self.inside.clock + 1 in
    let last = record c.self.inside.last { server = c.in-Some.server; unfinished = false } in
    let done = ran.Done (record { server = c.in-Some.server; seq = c.finished-seq.result; result = c.in-Some-output.result }) in
    let found = sym c.run_first-output.ensures.result ∙ c.in-Some-output.is in
    did_run g.met.W.Work.lowers c.self.view_is now now last c.pass_tick-2.new.self queues.lists queues.rooms
    c.in-Some.server done may (rw (found, c.finished-seq.ensures) refl) (rw found c.pass_tick-2.ensures) c.run_first-output.ensures.lists

pub returns-then-self-ge-LIMIT-clause-makes : goal.returns-then-self-ge-LIMIT-clause-makes
returns-then-self-ge-LIMIT-clause-makes g c = makes_still _ c.self.view_is c.self.invariant step.Run _ (λ M agrees. late_still c.self.view_is agrees c.if-self-ge-LIMIT.true) (λ M agrees. (
  end_reply c.self.view_is agrees c.in-Some.server c.in-Some.ensures.first c.if-self-ge-LIMIT.true,
  next_late c.self.view_is agrees c.if-self-ge-LIMIT.true,
))

pub returns-in_default-output-clause-makes : goal.returns-in_default-output-clause-makes
returns-in_default-output-clause-makes g c =
    let may = may_run c.self.invariant c.in-Some.ensures.choice c.if-self-ge-LIMIT.false in
    let first = c.in-Some.ensures.first in
    let none = sym c.run_first-output.ensures.result ∙ c.in_default-output.is in
    makes_new _ c.self.view_is c.self.invariant step.Run _ (invariant_of-self g c) (rw c.pass_tick.ensures (simp counted)) (λ M agrees. (
      unit_answered c.self.view_is agrees c.in-Some.server g.met.W.Work.lowers first may _ (rw (none, c.finished-seq.ensures) refl),
      unit_agrees c.self.view_is agrees c.in-Some.server g.met.W.Work.lowers first may true (λ _. none) (rw none c.pass_tick.ensures) c.run_first-output.ensures.lists,
    ))

pub returns-clause-makes : goal.returns-clause-makes
returns-clause-makes g c =
    let may = may_run c.self.invariant c.in-Some.ensures.choice c.if-self-ge-LIMIT.false in
    let first = c.in-Some.ensures.first in
    let found = sym c.run_first-output.ensures.result ∙ c.in-Some-output.is in
    makes_new _ c.self.view_is c.self.invariant step.Run _ (invariant_of-self-2 g c) (rw c.pass_tick-2.ensures (simp counted)) (λ M agrees. (
      unit_answered c.self.view_is agrees c.in-Some.server g.met.W.Work.lowers first may _ (rw (found, c.finished-seq.ensures) refl),
      unit_agrees c.self.view_is agrees c.in-Some.server g.met.W.Work.lowers first may false (λ e. cc) (rw found c.pass_tick-2.ensures) c.run_first-output.ensures.lists,
    ))

pub returns-in_default-clause-makes : goal.returns-in_default-clause-makes
returns-in_default-clause-makes g c =
    let none = c.in_default.ensures.first in
    makes_still _ c.self.view_is c.self.invariant step.Run _ (λ M agrees. idle_still c.self.view_is agrees none)
    (λ M agrees. (reply_by c.self.view_is agrees _ none, idle_next c.self.view_is agrees none))

pub returns-in_default-output-clause-ends : goal.returns-in_default-output-clause-ends
returns-in_default-output-clause-ends g c =
    let runs = run_runs c.self.invariant c.in-Some.server true c.pass_tick.new.self c.run_first-output.new.self.lists c.run_first-output.new.self.rooms in
    rw runs refl

pub returns-clause-ends : goal.returns-clause-ends
returns-clause-ends g c = right_false _

pub pass_tick-requires-clause-some : goal.pass_tick-requires-clause-some
pass_tick-requires-clause-some g c = grind (arith, common_steps)

pub pass_tick-requires-clause-room : goal.pass_tick-requires-clause-room
pass_tick-requires-clause-room g c = grind (arith, common_steps)

pub pass_tick-requires-2-clause-some : goal.pass_tick-requires-2-clause-some
pass_tick-requires-2-clause-some g c = grind (arith, common_steps)

pub pass_tick-requires-2-clause-room : goal.pass_tick-requires-2-clause-room
pass_tick-requires-2-clause-room g c = grind (arith, common_steps)
