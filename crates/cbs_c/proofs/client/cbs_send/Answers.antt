use Rattle.cbs_c.proofs.client.cbs_send.Goals as goal

pub returns : goal.returns
returns c = record { answer = c.send.result; does = c.send.ensures; told = c.tell.ensures.status; out = c.tell.ensures.out }
