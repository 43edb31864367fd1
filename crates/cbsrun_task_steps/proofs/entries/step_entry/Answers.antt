use Rattle.cbsrun_task_steps.proofs.entries.step_entry.Goals as goal

pub returns-in-run-clause-named : goal.returns-in-run-clause-named
returns-in-run-clause-named c = c.run_entry.ensures.named c.args.servers

pub returns-in-advance-clause-named : goal.returns-in-advance-clause-named
returns-in-advance-clause-named c = c.advance_entry.ensures.named c.args.servers
