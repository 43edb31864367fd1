use Rattle.std.proofs.Common.{Some}
use Rattle.std.proofs.lemmas.List.Elements.{All-pop}
use Rattle.cbs_clients.specs.Houses.{rings_of}
use Rattle.cbs_clients.specs.Clients.{IsOpened}
use Rattle.cbs_house_tests.proofs.tests.polling.one_client.Goals as goal

pub returns : goal.returns
returns g c = (All-pop (IsOpened (rings_of c.in-Ok.house)) c.in-Ok.clients.items c.pop.new.self.items (Some c.in-Some.client) c.in-Some.ensures.items c.in-Ok.ensures.opened).1
