use Rattle.std.proofs.Common.{Ok, Err}
use Rattle.cbs_clients.proofs.ClosedServers.{closed_shown}
use Rattle.cbs_clients.proofs.house.House.is_closed.Goals as goal

pub returns-in-Ok : goal.returns-in-Ok
returns-in-Ok g c = closed_shown c.args.self.now.core c.args.server (Ok c.in-Ok.view) c.in-Ok.ensures.held

pub returns-in-Err : goal.returns-in-Err
returns-in-Err g c = closed_shown c.args.self.now.core c.args.server (Err c.in-Err.field-0) c.in-Err.ensures.held
