use Rattle.cbs_c.proofs.client.cbs_end.Goals as goal

pub returns : goal.returns
returns c = record { answer = c.end.result; does = c.end.ensures; told = c.status_of.ensures }
