use Rattle.std.proofs.Common.{refl}
use Rattle.cbs_clients.proofs.MadeSteps.{same_by_ends, poll_same}
use Rattle.cbs_clients.proofs.house.House.poll_and_unmark.Goals as goal

pub returns-in-Nothing : goal.returns-in-Nothing
returns-in-Nothing g c =
    let polled = c.poll-poll.new.self in
    poll_same g.W.Work.meaning c.args.self.now polled _ c.args.server c.poll-poll.result c.requires c.poll-poll.ensures
    (same_by_ends polled _ refl refl c.unmark.ensures refl)
