use Rattle.cbs_c.proofs.pace.cbs_done_measured.Goals as goal

pub returns : goal.returns
returns c = record { answer = c.done_measured.result; does = c.done_measured.ensures.done; told = c.status_of.ensures }
