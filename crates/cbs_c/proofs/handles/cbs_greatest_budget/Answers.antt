use Rattle.cbs_c.proofs.handles.cbs_greatest_budget.Goals as goal

pub returns : goal.returns
returns c = record { answer = c.greatest_budget.result; greatest = c.greatest_budget.ensures; told = c.tell.ensures.status; out = c.tell.ensures.out }
