use Rattle.cbs_c.proofs.handles.cbs_open.Goals as goal

pub returns : goal.returns
returns c = record { answer = c.open.result; opens = c.open.ensures; told = c.status_of.ensures }
