use Rattle.cbs_c.proofs.house.cbs_tape_open.Goals as goal

pub returns : goal.returns
returns c = record { answer = c.open_tape.result; does = c.open_tape.ensures; told = c.status_of.ensures }
