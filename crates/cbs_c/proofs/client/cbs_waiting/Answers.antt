use Rattle.cbs_c.proofs.client.cbs_waiting.Goals as goal

pub returns : goal.returns
returns c = record { answer = c.waiting.result; does = c.waiting.ensures; told = c.tell.ensures.status; out = c.tell.ensures.out }
