use Rattle.cbs_units.proofs.Worlds.{world_same, faces_kept, choice_same}
use Rattle.cbs_units.proofs.Replies.{replies_same}
use Rattle.cbs_units.proofs.theorem.all_by_units.Goals as goal

pub returns-clause-world : goal.returns-clause-world
returns-clause-world g c = world_same g.W.Work.meaning

pub returns-clause-faces : goal.returns-clause-faces
returns-clause-faces g c = faces_kept g.W.Work.meaning

pub returns-clause-choice : goal.returns-clause-choice
returns-clause-choice g c = choice_same g.W.Work.meaning

pub returns-clause-replies : goal.returns-clause-replies
returns-clause-replies g c = replies_same g.W.Work.meaning
