use Rattle.cbs_c.proofs.pace.cbs_done.Goals as goal

pub returns : goal.returns
returns c = record { answer = c.done.result; does = c.done.ensures.done; told = c.status_of.ensures }
