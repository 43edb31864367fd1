use Rattle.std.proofs.Common.{◌≡◌, ◌+◌, false, eqb, ltb, refl, arith, inl, inr}
use Rattle.std.proofs.lemmas.Bool.{cases_Bool}
use Rattle.std.proofs.lemmas.Bool.Decides.{nat_tests}
use Rattle.cbs_rate.specs.Limits.{longest_period}
use Rattle.cbs_rate.specs.Rate.{IsRate}
use Rattle.cbsrun_proposals.specs.Proposals.{rate}
use Rattle.cbsrun_proposals.proofs.Periods.{not_enough_longer}
use Rattle.cbsrun_proposals.proofs.proposal.longest.Goals as goal

pub returns-then-not-suffices : goal.returns-then-not-suffices
returns-then-not-suffices c = λ period is.
    let some = is.some in
    let within = is.within in
    let short = is.short in
    let here : IsRate c.args.budget c.args.budget = record { some = some; within = omega arith; short = omega arith } in
    let fails : c.suffices.result ≡ false = elim (cases_Bool c.suffices.result) [ inl y ↦ let q = rw y at c.if-not-suffices.true in cc | inr n ↦ n ] in
    not_enough_longer c.args.budget c.args.budget period some within c.args.sources.now c.args.wanted (c.suffices.ensures.no fails here)

-- the budget and the period are those of a reservation, so the last test of these cannot fail
pub returns-in-Ok : goal.returns-in-Ok
returns-in-Ok c =
    let budget = c.args.budget in
    let l = c.loop-beyond.invariant in
    let next : c.loop-beyond.beyond ≡ c.loop-beyond.found + 1 = omega arith in
    let is : IsRate budget c.loop-beyond.found = l.2.0 in
    let same : c.in-Ok.server ≡ rate budget c.loop-beyond.found = c.in-Ok.ensures.1 in
    rw same record {
      same = refl;
      lawful = is;
      enough = l.2.1;
      longest = λ period more lawful.
          let some = lawful.some in
          let short = lawful.short in
          let within = is.within in
          let beyond : IsRate budget c.loop-beyond.beyond = record { some = some; within = omega arith; short = omega arith } in
          not_enough_longer budget c.loop-beyond.beyond period (omega arith) (omega arith) c.args.sources.now c.args.wanted (l.3 beyond);
    }

pub returns-in-Err : goal.returns-in-Err
returns-in-Err c =
    let is : IsRate c.args.budget c.loop-beyond.found = c.loop-beyond.invariant.2.0 in
    let some = is.some in
    let within = is.within in
    let short = is.short in
    let one : eqb c.args.budget 0 ≡ false = grind (arith, nat_tests) in
    let two : ltb longest_period c.loop-beyond.found ≡ false = grind (arith, nat_tests) in
    let three : ltb c.loop-beyond.found c.args.budget ≡ false = grind (arith, nat_tests) in
    let none = rw (one, two, three) at c.in-Err.ensures in
    absurd (cc)

pub loop-beyond-init : goal.loop-beyond-init
loop-beyond-init c =
    let enough = c.suffices.ensures.yes c.if-not-suffices.false in
    let short = enough.0.short in
    (omega arith, omega arith, enough, λ is. let beyond = is.short in absurd (omega arith))

pub loop-beyond-preserved-then-suffices : goal.loop-beyond-preserved-then-suffices
loop-beyond-preserved-then-suffices c =
    let l = c.loop-beyond.invariant in
    (omega arith, l.1, c.suffices-in-loop-beyond.ensures.yes c.if-suffices.true, l.3)

pub loop-beyond-preserved : goal.loop-beyond-preserved
loop-beyond-preserved c =
    let l = c.loop-beyond.invariant in
    (omega arith, omega arith, l.2, c.suffices-in-loop-beyond.ensures.no c.if-suffices.false)
