use Rattle.std.proofs.Common.{◌∙◌, refl, sym, arith, rules}
use Rattle.cbs_steps.specs.Continuations.{MayDrain}
use Rattle.cbs_clients.proofs.Moves.{by_nothing, by_both, by_none, serves_drain, serves_on_time}
use Rattle.cbs_clients.proofs.PacedMoves.{serves_paced}
use Rattle.cbs_clients.proofs.HouseInvariant.{none_held}
use Rattle.cbs_clients.proofs.Turns.{drained_on}
use Rattle.cbs_clients.proofs.house.House.drain_metered.Goals as goal

pub loop-self-init : goal.loop-self-init
loop-self-init g c = by_nothing g.W.Work.meaning g.M.Meter.may_tell (MayDrain g.W.Work.meaning) c.args.self.now

pub loop-self-preserved : goal.loop-self-preserved
loop-self-preserved g c =
    let work = g.W.Work.meaning in
    let may = g.M.Meter.may_tell in
    let l = c.loop-self in
    let on = c.go_on in
    by_both work may (MayDrain work) c.args.self.now l.self on.new.self 0 0 l.invariant
    (drained_on work may l.self on.new.self on.result.0 on.result.1 on.ensures.goes_on on.ensures.later)

pub returns-then-now-eq-LIMIT-clause-received : goal.returns-then-now-eq-LIMIT-clause-received
returns-then-now-eq-LIMIT-clause-received g c =
    by_none g.W.Work.meaning g.M.Meter.may_tell (MayDrain g.W.Work.meaning) c.args.self.now c.loop-self.self c.loop-self.invariant

pub returns-clause-received : goal.returns-clause-received
returns-clause-received g c =
    by_none g.W.Work.meaning g.M.Meter.may_tell (MayDrain g.W.Work.meaning) c.args.self.now c.loop-self.self c.loop-self.invariant

pub returns-then-now-eq-LIMIT-clause-rings : goal.returns-then-now-eq-LIMIT-clause-rings
returns-then-now-eq-LIMIT-clause-rings g c = c.loop-self.invariant.made.rings

pub returns-clause-rings : goal.returns-clause-rings
returns-clause-rings g c = c.loop-self.invariant.made.rings

pub returns-clause-finished : goal.returns-clause-finished
returns-clause-finished g c = none_held g.W.Work.meaning c.loop-self.self c.loop-self.self.housed (c.is_busy.ensures.none (search rules))

pub returns-then-now-eq-LIMIT-clause-on_time : goal.returns-then-now-eq-LIMIT-clause-on_time
returns-then-now-eq-LIMIT-clause-on_time g c = λ never.
    let work = g.W.Work.meaning in
    let may = g.M.Meter.may_tell in
    let a = c.args.self.now in
    let b = c.loop-self.self in
    serves_on_time work may a b never a.housed.history (serves_drain work may a b 0 c.loop-self.invariant)

pub returns-clause-on_time : goal.returns-clause-on_time
returns-clause-on_time g c = λ never.
    let work = g.W.Work.meaning in
    let may = g.M.Meter.may_tell in
    let a = c.args.self.now in
    let b = c.loop-self.self in
    serves_on_time work may a b never a.housed.history (serves_drain work may a b 0 c.loop-self.invariant)

pub returns-then-now-eq-LIMIT-clause-paced : goal.returns-then-now-eq-LIMIT-clause-paced
returns-then-now-eq-LIMIT-clause-paced g c =
    let work = g.W.Work.meaning in
    let may = g.M.Meter.may_tell in
    let a = c.args.self.now in
    serves_paced work may a c.loop-self.self a.housed.history (serves_drain work may a c.loop-self.self 0 c.loop-self.invariant)

pub returns-clause-paced : goal.returns-clause-paced
returns-clause-paced g c =
    let work = g.W.Work.meaning in
    let may = g.M.Meter.may_tell in
    let a = c.args.self.now in
    serves_paced work may a c.loop-self.self a.housed.history (serves_drain work may a c.loop-self.self 0 c.loop-self.invariant)

pub returns-then-now-eq-LIMIT-clause-moves : goal.returns-then-now-eq-LIMIT-clause-moves
returns-then-now-eq-LIMIT-clause-moves g c = c.loop-self.invariant

pub returns-then-now-eq-LIMIT-clause-end : goal.returns-then-now-eq-LIMIT-clause-end
returns-then-now-eq-LIMIT-clause-end g c = (refl, (sym c.now.ensures.clock ∙ c.if-now-eq-LIMIT.true, c.is_busy.ensures.some c.loop-self-test.true))

pub returns-clause-moves : goal.returns-clause-moves
returns-clause-moves g c = c.loop-self.invariant

pub returns-clause-ok : goal.returns-clause-ok
returns-clause-ok g c = c.is_busy.ensures.none c.loop-self-test.false

pub go_on-requires-clause-busy : goal.go_on-requires-clause-busy
go_on-requires-clause-busy g c = c.is_busy.ensures.some c.loop-self-test.true

pub go_on-requires-clause-early : goal.go_on-requires-clause-early
go_on-requires-clause-early g c =
    let clock = c.now.ensures.clock in let most = c.now.ensures.most in omega (arith, clock, most, c.if-now-eq-LIMIT.false)

pub loop-self-smaller : goal.loop-self-smaller
loop-self-smaller g c =
    let clock = c.now.ensures.clock in
    let most = c.now.ensures.most in
    let later = c.go_on.ensures.later in
    omega (arith, clock, most, later, c.if-now-eq-LIMIT.false)
