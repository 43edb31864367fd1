use Rattle.cbs_c.proofs.house.cbs_advance.Goals as goal

pub returns : goal.returns
returns c = record { answer = c.advance.result; does = c.advance.ensures; told = c.status_of.ensures }
