use Rattle.std.proofs.Common.{◌≡◌, ◌≤◌, ◌<◌, arith, refl, sym, None}
use Rattle.cbsrun_simulate.specs.Loading.{loading, job_of}
use Rattle.cbsrun_simulate.specs.Simulating.{stop_at}
use Rattle.cbsrun_simulate.proofs.Driven.{same_coming, not_after, goes_next, charges_next, submits_next, ends, makes_one, stops_one}
use Rattle.cbsrun_simulate.proofs.Goes.{on_err}
use Rattle.cbsrun_simulate.proofs.Loop.{none_made, smaller, preserved, stopped, all_made}
use Rattle.cbsrun_simulate.proofs.driver.simulate.Goals as goal
use Rattle.cbsrun_simulate.proofs.driver.simulate.Goals.{in-None+else-now-stop, in-Some+else-now-until}

pub loop-owing-init : goal.loop-owing-init
loop-owing-init g c = record {
  made = λ M agrees. none_made loading job_of c.args.until g.V.View.saw
      (record { history = M; coming = g.R.Releases.coming c.args.releases.now; owing = None }) c.args.core.now (c.args.view.now, c.args.lent.now) agrees;
  ready = c.requires.ready;
  stop = c.stop_of-stop.ensures;
}

-- a unit ran, or ticks passed
pub loop-owing-smaller-then-now-stop : goal.loop-owing-smaller-then-now-stop
loop-owing-smaller-then-now-stop g c =
    let early : c.loop-owing.core.clock < c.loop-owing.stop = rw (← c.now.ensures.clock) c.if-now-stop.true in
    let next = goes_next c.args.until c.loop-owing.core (g.R.Releases.coming c.loop-owing.releases) c.loop-owing.owing c.loop-owing.stop c.in-None.is c.loop-owing.invariant.stop early in
    let coming = same_coming _ _ _ (g.R.Releases.coming c.loop-owing.releases) in
    smaller loading job_of c.args.until g.V.View.saw c.requires.end _ _ _ _ _ _ _ _ c.requires.early c.requires.order c.loop-owing.invariant.made _ _ _
    (makes_one c.args.until c.loop-owing.core (g.R.Releases.coming c.loop-owing.releases) c.loop-owing.owing g.V.View.saw g.V.View.failed _ next _ _ _ _ _ coming (λ M agrees. c.in_ok-owing-in-None.ensures.owes
    (record { history = M; coming = g.R.Releases.coming c.loop-owing.releases; owing = c.loop-owing.owing }) agrees)
    c.in_ok-owing-in-None.ensures.makes) c.requires.history

pub loop-owing-preserved-then-now-stop : goal.loop-owing-preserved-then-now-stop
loop-owing-preserved-then-now-stop g c =
    let early : c.loop-owing.core.clock < c.loop-owing.stop = rw (← c.now.ensures.clock) c.if-now-stop.true in
    let next = goes_next c.args.until c.loop-owing.core (g.R.Releases.coming c.loop-owing.releases) c.loop-owing.owing c.loop-owing.stop c.in-None.is c.loop-owing.invariant.stop early in
    let coming = same_coming _ _ _ (g.R.Releases.coming c.loop-owing.releases) in
    record {
      made = preserved loading job_of c.args.until g.V.View.saw c.requires.end _ _ _ _ _ _ _ _ c.requires.early c.requires.order c.loop-owing.invariant.made _ _ _
          (makes_one c.args.until c.loop-owing.core (g.R.Releases.coming c.loop-owing.releases) c.loop-owing.owing g.V.View.saw g.V.View.failed _ next _ _ _ _ _ coming (λ M agrees. c.in_ok-owing-in-None.ensures.owes
          (record { history = M; coming = g.R.Releases.coming c.loop-owing.releases; owing = c.loop-owing.owing }) agrees)
          c.in_ok-owing-in-None.ensures.makes);
      ready = c.in_ok-owing-in-None.ensures.ready;
      stop = c.loop-owing.invariant.stop;
    }

pub returns-in_err-owing-in-None-clause-stopped : goal.returns-in_err-owing-in-None-clause-stopped
returns-in_err-owing-in-None-clause-stopped g c =
    let early : c.loop-owing.core.clock < c.loop-owing.stop = rw (← c.now.ensures.clock) c.if-now-stop.true in
    let next = goes_next c.args.until c.loop-owing.core (g.R.Releases.coming c.loop-owing.releases) c.loop-owing.owing c.loop-owing.stop c.in-None.is c.loop-owing.invariant.stop early in
    on_err c.from_residual.result (stopped loading job_of c.args.until g.V.View.saw c.requires.end _ _ _ _ _ _ _ _ c.requires.early c.requires.order c.loop-owing.invariant.made g.V.View.failed _
    (stops_one c.args.until c.loop-owing.core (g.R.Releases.coming c.loop-owing.releases) c.loop-owing.owing g.V.View.saw g.V.View.failed _ next _ _ _ c.in_err-owing-in-None.ensures.stopped))

-- what was owed is charged
pub loop-owing-smaller-then-now-until : goal.loop-owing-smaller-then-now-until
loop-owing-smaller-then-now-until g c =
    let early : c.loop-owing.core.clock < c.args.until = rw (← c.now-in-Some.ensures.clock) c.if-now-until.true in
    let next = charges_next c.args.until c.loop-owing.core (g.R.Releases.coming c.loop-owing.releases) c.loop-owing.owing c.in-Some.owed c.in-Some.is early in
    smaller loading job_of c.args.until g.V.View.saw c.requires.end _ _ _ _ _ _ _ _ c.requires.early c.requires.order c.loop-owing.invariant.made _ _ _
    (makes_one c.args.until c.loop-owing.core (g.R.Releases.coming c.loop-owing.releases) c.loop-owing.owing g.V.View.saw g.V.View.failed _ next _ _ _ _ None refl (λ M agrees. refl) c.in_ok-charge_owed-in-Some.ensures.makes)
    c.requires.history

pub loop-owing-preserved-then-now-until : goal.loop-owing-preserved-then-now-until
loop-owing-preserved-then-now-until g c =
    let early : c.loop-owing.core.clock < c.args.until = rw (← c.now-in-Some.ensures.clock) c.if-now-until.true in
    let next = charges_next c.args.until c.loop-owing.core (g.R.Releases.coming c.loop-owing.releases) c.loop-owing.owing c.in-Some.owed c.in-Some.is early in
    record {
      made = preserved loading job_of c.args.until g.V.View.saw c.requires.end _ _ _ _ _ _ _ _ c.requires.early c.requires.order c.loop-owing.invariant.made _ _ _
          (makes_one c.args.until c.loop-owing.core (g.R.Releases.coming c.loop-owing.releases) c.loop-owing.owing g.V.View.saw g.V.View.failed _ next _ _ _ _ None refl (λ M agrees. refl) c.in_ok-charge_owed-in-Some.ensures.makes);
      ready = c.in_ok-charge_owed-in-Some.ensures.ready;
      stop = c.loop-owing.invariant.stop;
    }

pub returns-in_err-charge_owed-in-Some-clause-stopped : goal.returns-in_err-charge_owed-in-Some-clause-stopped
returns-in_err-charge_owed-in-Some-clause-stopped g c =
    let early : c.loop-owing.core.clock < c.args.until = rw (← c.now-in-Some.ensures.clock) c.if-now-until.true in
    let next = charges_next c.args.until c.loop-owing.core (g.R.Releases.coming c.loop-owing.releases) c.loop-owing.owing c.in-Some.owed c.in-Some.is early in
    on_err c.from_residual-in_err-charge_owed-in-Some.result (stopped loading job_of c.args.until g.V.View.saw c.requires.end _ _ _ _ _ _ _ _ c.requires.early c.requires.order c.loop-owing.invariant.made g.V.View.failed _
    (stops_one c.args.until c.loop-owing.core (g.R.Releases.coming c.loop-owing.releases) c.loop-owing.owing g.V.View.saw g.V.View.failed _ next _ _ _ c.in_err-charge_owed-in-Some.ensures.stopped))

-- a release was submitted
pub loop-owing-preserved : goal.loop-owing-preserved
loop-owing-preserved g c =
    let late : stop_at c.args.until (g.R.Releases.coming c.loop-owing.releases) ≤ c.loop-owing.core.clock = elim c.match-owing.branch [
      | in-None+else-now-stop w ↦ let is = c.loop-owing.invariant.stop in let at = w.now.ensures.clock in let f = w.if-now-stop.false in omega arith
      | in-Some+else-now-until w ↦
          let most = not_after c.args.until (g.R.Releases.coming c.loop-owing.releases) in
          let at = w.now-in-Some.ensures.clock in
          let f = w.if-now-until.false in
          omega arith
    ] in
    let free : c.loop-owing.core.clock < c.args.until → c.loop-owing.owing ≡ None = λ lt. elim c.match-owing.branch [
      | in-None+else-now-stop w ↦ w.in-None.is
      | in-Some+else-now-until w ↦ let at = w.now-in-Some.ensures.clock in let f = w.if-now-until.false in absurd (omega arith)
    ] in
    let next = submits_next c.args.until c.loop-owing.core (g.R.Releases.coming c.loop-owing.releases) c.loop-owing.owing c.in-Some-first.release (sym c.in-Some-first.ensures.next) late c.if-release-until.true free in
    let same : c.match-owing.owing ≡ c.loop-owing.owing = elim c.match-owing.branch [
      | in-None+else-now-stop w ↦ let is = w.owing-is in cc
      | in-Some+else-now-until w ↦ let is = w.owing-is in cc
    ] in
    record {
      made = preserved loading job_of c.args.until g.V.View.saw c.requires.end _ _ _ _ _ _ _ _ c.requires.early c.requires.order c.loop-owing.invariant.made _ _ _
          (makes_one c.args.until c.loop-owing.core (g.R.Releases.coming c.loop-owing.releases) c.loop-owing.owing g.V.View.saw g.V.View.failed _ next _ _ _ _ _ c.in_ok-submit_first-in-Some-first.ensures.rest (λ M agrees. same)
          c.in_ok-submit_first-in-Some-first.ensures.makes);
      ready = c.in_ok-submit_first-in-Some-first.ensures.ready;
      stop = c.stop_of-stop-in-Some-first.ensures;
    }

pub returns-in_err-submit_first-in-Some-first-clause-stopped : goal.returns-in_err-submit_first-in-Some-first-clause-stopped
returns-in_err-submit_first-in-Some-first-clause-stopped g c =
    let late : stop_at c.args.until (g.R.Releases.coming c.loop-owing.releases) ≤ c.loop-owing.core.clock = elim c.match-owing.branch [
      | in-None+else-now-stop w ↦ let is = c.loop-owing.invariant.stop in let at = w.now.ensures.clock in let f = w.if-now-stop.false in omega arith
      | in-Some+else-now-until w ↦
          let most = not_after c.args.until (g.R.Releases.coming c.loop-owing.releases) in
          let at = w.now-in-Some.ensures.clock in
          let f = w.if-now-until.false in
          omega arith
    ] in
    let free : c.loop-owing.core.clock < c.args.until → c.loop-owing.owing ≡ None = λ lt. elim c.match-owing.branch [
      | in-None+else-now-stop w ↦ w.in-None.is
      | in-Some+else-now-until w ↦ let at = w.now-in-Some.ensures.clock in let f = w.if-now-until.false in absurd (omega arith)
    ] in
    let next = submits_next c.args.until c.loop-owing.core (g.R.Releases.coming c.loop-owing.releases) c.loop-owing.owing c.in-Some-first.release (sym c.in-Some-first.ensures.next) late c.if-release-until.true free in
    on_err c.from_residual-in_err-submit_first-in-Some-first.result (stopped loading job_of c.args.until g.V.View.saw c.requires.end _ _ _ _ _ _ _ _ c.requires.early c.requires.order c.loop-owing.invariant.made g.V.View.failed _
    (stops_one c.args.until c.loop-owing.core (g.R.Releases.coming c.loop-owing.releases) c.loop-owing.owing g.V.View.saw g.V.View.failed _ next _ _ _ c.in_err-submit_first-in-Some-first.ensures.stopped))

-- there is no next move
pub returns-in_default-clause-simulates : goal.returns-in_default-clause-simulates
returns-in_default-clause-simulates g c =
    let late : stop_at c.args.until (g.R.Releases.coming c.loop-owing.releases) ≤ c.loop-owing.core.clock = elim c.match-owing.branch [
      | in-None+else-now-stop w ↦ let is = c.loop-owing.invariant.stop in let at = w.now.ensures.clock in let f = w.if-now-stop.false in omega arith
      | in-Some+else-now-until w ↦
          let most = not_after c.args.until (g.R.Releases.coming c.loop-owing.releases) in
          let at = w.now-in-Some.ensures.clock in
          let f = w.if-now-until.false in
          omega arith
    ] in
    all_made loading job_of c.args.until g.V.View.saw c.requires.end _ _ c.loop-owing.core _ _ _ _ _ c.requires.early c.requires.order c.loop-owing.invariant.made
    (ends c.args.until c.loop-owing.core (g.R.Releases.coming c.loop-owing.releases) c.loop-owing.owing late (λ r first.
    let is = c.in-Some-first.ensures.next in
    let same : c.in-Some-first.release ≡ r = cc in
    let f = c.if-release-until.false in
    rw (← same) (omega arith)))

pub returns-in_default-2-clause-simulates : goal.returns-in_default-2-clause-simulates
returns-in_default-2-clause-simulates g c =
    let late : stop_at c.args.until (g.R.Releases.coming c.loop-owing.releases) ≤ c.loop-owing.core.clock = elim c.match-owing.branch [
      | in-None+else-now-stop w ↦ let is = c.loop-owing.invariant.stop in let at = w.now.ensures.clock in let f = w.if-now-stop.false in omega arith
      | in-Some+else-now-until w ↦
          let most = not_after c.args.until (g.R.Releases.coming c.loop-owing.releases) in
          let at = w.now-in-Some.ensures.clock in
          let f = w.if-now-until.false in
          omega arith
    ] in
    all_made loading job_of c.args.until g.V.View.saw c.requires.end _ _ c.loop-owing.core _ _ _ _ _ c.requires.early c.requires.order c.loop-owing.invariant.made
    (ends c.args.until c.loop-owing.core (g.R.Releases.coming c.loop-owing.releases) c.loop-owing.owing late (λ r first.
    let is = c.in_default.ensures.next in
    let none = c.in_default.is in
    cc))
