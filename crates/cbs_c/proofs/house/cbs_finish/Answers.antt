use Rattle.cbs_c.proofs.house.cbs_finish.Goals as goal

pub returns : goal.returns
returns c = record { answer = c.finish.result; does = c.finish.ensures; told = c.status_of.ensures }
