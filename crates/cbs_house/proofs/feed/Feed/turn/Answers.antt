use Rattle.std.proofs.Common.{sym, arith, rules}
use Rattle.std.proofs.lemmas.Grind.{common_steps}
use Rattle.cbs_house.proofs.Feeds.{keeps_feed, keeps_sent}
use Rattle.cbs_clients.proofs.Messages.{pushed}
use Rattle.cbs_house.proofs.feed.Feed.turn.Goals as goal

pub returns-then-ended-clause-kept : goal.returns-then-ended-clause-kept
returns-then-ended-clause-kept g c = keeps_feed c.args.self.now

pub returns-in-Some-clause-kept : goal.returns-in-Some-clause-kept
returns-in-Some-clause-kept g c =
    let sent = c.send_reserved.ensures in
    keeps_sent c.args.self.now (record { client = c.send_reserved.new.self; jobs = c.pop_front.new.self }) c.has_slot.new.self
    c.in-Some.task (c.has_slot.ensures.looked.same, c.has_slot.ensures.looked.sent) sent.same sent.sent c.in-Some.ensures.items
    (sym c.if-ended.ensures.ended)

pub returns-in-None-clause-kept : goal.returns-in-None-clause-kept
returns-in-None-clause-kept g c = grind (arith, pushed)

pub returns-in-Some-clause-count : goal.returns-in-Some-clause-count
returns-in-Some-clause-count g c = grind (arith, common_steps)

pub returns-in-None-clause-count : goal.returns-in-None-clause-count
returns-in-None-clause-count g c = grind (arith, common_steps)

pub returns-then-not-may_send-clause-refused : goal.returns-then-not-may_send-clause-refused
returns-then-not-may_send-clause-refused g c = search rules

pub send_reserved-requires-clause-slot : goal.send_reserved-requires-clause-slot
send_reserved-requires-clause-slot g c = search rules

pub end_reserved-requires-clause-slot : goal.end_reserved-requires-clause-slot
end_reserved-requires-clause-slot g c = search rules
