use Rattle.cbsrun_records.proofs.entries.step_entry.Goals as goal

pub returns-in-run-clause-lawful : goal.returns-in-run-clause-lawful
returns-in-run-clause-lawful c = c.run_entry.ensures.lawful c.args.servers

pub returns-in-advance-clause-lawful : goal.returns-in-advance-clause-lawful
returns-in-advance-clause-lawful c = c.advance_entry.ensures.lawful c.args.servers
