use Rattle.std.proofs.Common.{◌≡◌, ◌∙◌, ap, sym}
use Rattle.cbs_tape.specs.Reading.{Told}
use Rattle.cbs_tape.specs.Tapes.{all_steps, steps_in}
use Rattle.cbsrun_runs.specs.Runs.{Shown}
use Rattle.cbsrun_run_records.proofs.Lists.{same_plan}
use Rattle.cbsrun_run_records.proofs.recorded.recorded_run.Goals as goal

pub returns-then-are_same_entries-clause-recorded : goal.returns-then-are_same_entries-clause-recorded
returns-then-are_same_entries-clause-recorded g c =
    let old = g.R.Run.run c.args.run.now in
    let r = c.in_ok-record.record in
    let servers = c.in_ok-tape.ensures.servers in
    let has = c.has_servers_of.ensures in
    let yes = c.if-has_servers_of.true in
    let tape = c.in_ok-tape.tape.items in
    let entries = c.in_ok-steps.steps.entries.items in
    let read : all_steps entries ≡ steps_in tape = sym (ap (λ (t : Told). all_steps t.entries) (rw c.deref.ensures.value at c.in_ok-steps.ensures.exact)) in
    let same : r.entries ≡ entries = rw (c.entries.ensures.value, c.deref-then-has_servers_of.ensures.value) at (c.are_same_entries.ensures c.if-are_same_entries.true) in
    record {
      r = r;
      spelled = rw c.deref-4.ensures.value at c.in_ok-record.ensures;
      named = has.names yes;
      modes = has.modes yes ∙ ap (λ (s : Shown). s.modes) servers;
      plan = same_plan _ _ (has.bound yes) (has.rates yes) ∙ ap (λ (s : Shown). s.plan) servers;
      backlog = has.backlog yes ∙ ap (λ (s : Shown). s.backlog) servers;
      tick = has.tick yes ∙ ap (λ (s : Shown). s.tick) servers;
      steps = ap all_steps same ∙ (read ∙ c.in_ok-tape.ensures.steps);
    }
