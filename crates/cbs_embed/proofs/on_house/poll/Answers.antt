use Rattle.std.proofs.Common.{refl}
use Rattle.cbs_embed.proofs.Polled.{polled_server}
use Rattle.cbs_embed.proofs.on_house.poll.Goals as goal

pub returns-in-NoSuchServer : goal.returns-in-NoSuchServer
returns-in-NoSuchServer c = (refl, c.in-NoSuchServer.ensures.polled.1, c.in-NoSuchServer.ensures.same refl)

pub returns-in_default : goal.returns-in_default
returns-in_default c =
    (polled_server c.args.house.now c.poll.new.self c.args.server c.poll.result c.poll.ensures.polled c.in_default.not-NoSuchServer, c.poll.ensures)
