use Rattle.cbs_c.proofs.handles.cbs_admit.Goals as goal

pub returns : goal.returns
returns c = record { answer = c.admit.result; admitted = c.admit.ensures; told = c.status_of.ensures }
