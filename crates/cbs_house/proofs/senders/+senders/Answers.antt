use Rattle.std.proofs.Common.{◌≡◌, ℕ, ◌+◌, ◌*◌, ◌≤◌, length, rules, arith}
use Rattle.std.proofs.lemmas.Grind.{common_steps}
use Rattle.std.proofs.Math.Nat.{mul-add}
use Rattle.cbs_house.proofs.Feeds.{sends_none, sends_set, sends_both}
use Rattle.cbs_house.proofs.senders.+senders.Goals as goal

most_of_both : (turns front back all a b : ℕ) → front + back ≡ all → a ≤ turns * front → b ≤ turns * back → a + b ≤ turns * all
most_of_both turns front back all a b e p q = rw (← e, mul-add turns front back) (omega (arith, p, q))

pub send_all-returns-in-Some-clause-sends : goal.send_all-returns-in-Some-clause-sends
send_all-returns-in-Some-clause-sends g n c =
    let i = c.in-Some.ensures.item in
    let sent = c.send_turns-sent.ensures in
    sends_set c.args.turns c.args.feeds.now 0 c.send_turns-sent.new.feed c.in-Some.feed.now i.3.0 (rw (← i.1) sent.kept)
    (rw (← i.1) (omega (arith, sent.count, sent.most)))

pub send_all-returns-clause-most : goal.send_all-returns-clause-most
send_all-returns-clause-most g t c =
    let both : length c.split_at_mut-front.result.0.now + length c.split_at_mut-front.result.1.now ≡ length c.args.feeds.now = search rules in
    let most = c.send_both-a.ensures.most in
    most_of_both c.args.turns _ _ _ _ _ both most.0 most.1

pub send_all-returns-in-None-clause-sends : goal.send_all-returns-in-None-clause-sends
send_all-returns-in-None-clause-sends g t c = sends_none c.args.turns c.args.feeds.now

pub send_all-returns-clause-sends : goal.send_all-returns-clause-sends
send_all-returns-clause-sends g t c =
    let parts = c.split_at_mut-front in
    let sent = c.send_both-a in
    rw parts.ensures.value (sends_both c.args.turns parts.result.0.now sent.new.front parts.result.1.now sent.new.back sent.ensures.sends.0
    sent.ensures.sends.1)

pub send_both-join_mut+arg2-returns : goal.send_both-join_mut+arg2-returns
send_both-join_mut+arg2-returns g t c = let sent = c.send_all.ensures in (sent.sends, sent.count, sent.most)

pub send_both-join_mut+arg3-returns : goal.send_both-join_mut+arg3-returns
send_both-join_mut+arg3-returns g t c = let sent = c.send_all.ensures in (sent.sends, sent.count, sent.most)

pub send_all-returns-in-Some-clause-most : goal.send_all-returns-in-Some-clause-most
send_all-returns-in-Some-clause-most g t c =
    let one : length c.args.feeds.now ≡ 1 = omega (arith, c.if-feeds-lt2.true, c.in-Some.ensures.item.3.0) in
    rw one (omega (arith, c.send_turns-sent.ensures.most))

pub send_all-returns-in-Some-clause-count : goal.send_all-returns-in-Some-clause-count
send_all-returns-in-Some-clause-count g t c = grind (arith, common_steps)

pub send_all-overflow_add-result : goal.send_all-overflow_add-result
send_all-overflow_add-result g t c = grind arith

pub send_all-returns-clause-count : goal.send_all-returns-clause-count
send_all-returns-clause-count g t c = grind (arith, common_steps)

pub send_all-split_at_mut-front-requires : goal.send_all-split_at_mut-front-requires
send_all-split_at_mut-front-requires g t c = omega arith

pub send_both-returns-clause-sends : goal.send_both-returns-clause-sends
send_both-returns-clause-sends g t c = search rules
