use Rattle.cbs_clients.proofs.Moves.{never_beyond}
use Rattle.cbs_house.proofs.round.serve_round.Goals as goal

pub returns-clause-on_time : goal.returns-clause-on_time
returns-clause-on_time g c = c.serve_round_metered.ensures.on_time never_beyond

pub returns-clause-paced : goal.returns-clause-paced
returns-clause-paced g c = c.serve_round_metered.ensures.paced
