use Rattle.cbsrun_runs.proofs.simulated.LoadRun.modes.Goals as goal

pub returns-clause-servers : goal.returns-clause-servers
returns-clause-servers c = record { named = c.names-names.ensures.lawful.named; moded = c.names-names.ensures.lawful.moded }
