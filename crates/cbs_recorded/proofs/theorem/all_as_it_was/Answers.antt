use Rattle.cbs_recorded.proofs.Told.{as_it_was, as_it_began}
use Rattle.cbs_recorded.proofs.States.{as_it_was_from}
use Rattle.cbs_recorded.proofs.theorem.all_as_it_was.Goals as goal

pub returns-clause-as_it_was : goal.returns-clause-as_it_was
returns-clause-as_it_was g c = as_it_was g.W.Work.meaning

pub returns-clause-as_it_was_from : goal.returns-clause-as_it_was_from
returns-clause-as_it_was_from g c = as_it_was_from g.W.Work.meaning

pub returns-clause-as_it_began : goal.returns-clause-as_it_began
returns-clause-as_it_began g c = as_it_began g.W.Work.meaning
