use Rattle.cbs_c.proofs.house.cbs_charge.Goals as goal

pub returns : goal.returns
returns c = record { answer = c.charge.result; does = c.charge.ensures; told = c.status_of.ensures }
