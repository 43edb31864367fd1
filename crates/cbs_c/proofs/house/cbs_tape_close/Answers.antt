use Rattle.cbs_c.proofs.house.cbs_tape_close.Goals as goal

pub returns : goal.returns
returns c = record { answer = c.close_tape.result; does = c.close_tape.ensures; told = c.status_of.ensures }
