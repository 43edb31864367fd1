use Rattle.cbs_c.proofs.house.cbs_now.Goals as goal

pub returns : goal.returns
returns c = record { answer = c.now.result; does = c.now.ensures; told = c.tell.ensures.status; out = c.tell.ensures.out }
