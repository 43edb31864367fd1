use Rattle.std.proofs.Common.{◌≡◌, suc, ◌∙◌, Result, Ok, Err, subst}
use Rattle.std.specs.Prelude.{IfErr, MatchResult}
use Rattle.cbs_job.specs.declared.work.Work.{Ghosts}
use Rattle.cbs_clients.specs.declared.error.HouseError.{HouseError}
use Rattle.cbs_clients.specs.declared.error.HouseError.TheVariants.{OutOfMemory}
use Rattle.cbs_clients.specs.declared.house.House.{House}
use Rattle.cbs_clients.specs.Houses.{Polled}
use Rattle.cbs_steps.specs.Continuations.{MayDrain}
use Rattle.cbs_house.specs.Rounds.{Halts}
use Rattle.cbs_house.proofs.Feeds.{opened_moved}
use Rattle.cbs_clients.proofs.Moves.{serves_then, serves_poll, serves_drain}
use Rattle.cbs_house.proofs.StandingMessages.{answered_ok, poll_takes, not_full, standing_looked, standing_moved}
use Rattle.cbs_house.proofs.service.take_message.Goals as goal

pub returns-in_err-drain_metered-in-Full-clause-steps : goal.returns-in_err-drain_metered-in-Full-clause-steps
returns-in_err-drain_metered-in-Full-clause-steps g c =
    let work = g.W.Work.meaning in
    let may = g.M.Meter.may_tell in
    let h = c.args.house.now in
    serves_then work may h c.poll.new.self c.drain_metered.new.self (serves_poll work may h c.poll.new.self c.server-server.result c.poll.result c.poll.ensures.polled)
    (serves_drain work may c.poll.new.self c.drain_metered.new.self 0 c.drain_metered.ensures.moves)

pub returns-in_ok-drain_metered-in-Full-clause-steps : goal.returns-in_ok-drain_metered-in-Full-clause-steps
returns-in_ok-drain_metered-in-Full-clause-steps g c =
    let work = g.W.Work.meaning in
    let may = g.M.Meter.may_tell in
    let h = c.args.house.now in
    let s = c.server-server.result in
    let p = c.poll-in-Full in
    serves_then work may h c.drain_metered.new.self p.new.self
    (serves_then work may h c.poll.new.self c.drain_metered.new.self (serves_poll work may h c.poll.new.self s c.poll.result c.poll.ensures.polled)
    (serves_drain work may c.poll.new.self c.drain_metered.new.self 0 c.drain_metered.ensures.moves))
    (serves_poll work may c.drain_metered.new.self p.new.self s p.result p.ensures.polled)

pub returns-in_default-clause-steps : goal.returns-in_default-clause-steps
returns-in_default-clause-steps g c =
    serves_poll g.W.Work.meaning g.M.Meter.may_tell c.args.house.now c.poll.new.self c.server-server.result c.poll.result c.poll.ensures.polled

-- the first poll found the backlog full; after the drain the second takes the message
pub returns-in_ok-drain_metered-in-Full-clause-taken : goal.returns-in_ok-drain_metered-in-Full-clause-taken
returns-in_ok-drain_metered-in-Full-clause-taken g c =
    let work = g.W.Work.meaning in
    let may = g.M.Meter.may_tell in
    let h = c.args.house.now in
    let client = c.args.client.now in
    let a = c.poll.new.self in
    let b = c.drain_metered.new.self in
    let p = c.poll-in-Full in
    let polled = subst (λ s. Polled work b s p.result p.new.self) c.server-server.ensures p.ensures.polled in
    let opened = opened_moved h b client (c.drain_metered.ensures.rings ∙ c.poll.ensures.rings) c.requires.opened in
    answered_ok c.memory_for.result _ _ c.memory_for.ensures
    (λ memory n standing.
    poll_takes work b p.new.self client p.result b.housed client.last opened polled memory
    (not_full work b p.new.self c.server-server.result p.result b.housed c.in_ok-drain_metered-in-Full.ensures.ok p.ensures.polled) n
    (standing_moved work may (MayDrain work) a b client (suc n) c.drain_metered.ensures.moves
    (standing_looked work h a client (suc n) c.in-Full.ensures.polled.0 standing)))

pub returns-in_default-clause-taken : goal.returns-in_default-clause-taken
returns-in_default-clause-taken g c =
    let work = g.W.Work.meaning in
    let may = g.M.Meter.may_tell in
    let h = c.args.house.now in
    let client = c.args.client.now in
    let p = c.poll in
    let polled = subst (λ s. Polled work h s p.result p.new.self) c.server-server.ensures p.ensures.polled in
    answered_ok c.memory_for-in_default.result _ _ c.memory_for-in_default.ensures
    (λ memory n standing. poll_takes work h p.new.self client p.result h.housed client.last c.requires.opened polled memory c.in_default.not-Full n standing)

-- a house halts for want of memory
memory_halts : {W A : Type 0} {g : Ghosts W} (X : Type 0) (r : Result (Unit {0}) HouseError) (h : House W A g) → MatchResult r (λ _. X) (λ e. e ≡ OutOfMemory)
    → IfErr r (λ e. Halts e h)
memory_halts X (Ok x) h is = tt
memory_halts X (Err e) h is = rw is tt

pub returns-in_ok-drain_metered-in-Full-clause-halts : goal.returns-in_ok-drain_metered-in-Full-clause-halts
returns-in_ok-drain_metered-in-Full-clause-halts g c = memory_halts _ c.memory_for.result c.poll-in-Full.new.self c.memory_for.ensures

pub returns-in_default-clause-halts : goal.returns-in_default-clause-halts
returns-in_default-clause-halts g c = memory_halts _ c.memory_for-in_default.result c.poll.new.self c.memory_for-in_default.ensures
