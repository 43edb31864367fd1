use Rattle.std.proofs.Common.{◌≡◌, ◌+◌, suc, true, false, eqb, get_or, arith}
use Rattle.std.proofs.lemmas.Bool.Decides.{nat_tests}
use Rattle.cbs_ready.specs.declared.entries.Entry.{Entry}
use Rattle.cbs_ready.proofs.Ordered.{place_found, place_none, All-take_more}
use Rattle.cbs_ready.proofs.entries.place_of.Goals as goal

abbrev none : Entry
none = record { deadline = 0; server = 0 }

pub loop-place-init : goal.loop-place-init
loop-place-init c = record { within = omega arith; before = tt }

pub loop-place-smaller : goal.loop-place-smaller
loop-place-smaller c = omega (arith, c.loop-place-test.true)

pub loop-place-preserved : goal.loop-place-preserved
loop-place-preserved c =
    let l = c.loop-place in
    let ne = c.if-entries-place.true in
    let f : eqb (get_or c.args.entries.now l.place none).server c.args.server ≡ false = grind (arith, nat_tests) in
    let next : l.place + 1 ≡ suc l.place = omega arith in
    record {
      within = omega (arith, c.loop-place-test.true);
      before = rw next (All-take_more (λ (e : Entry). eqb e.server c.args.server ≡ false) c.args.entries.now l.place none c.loop-place-test.true l.invariant.before f);
    }

pub returns-else-entries-place : goal.returns-else-entries-place
returns-else-entries-place c =
    let l = c.loop-place in
    let same = c.if-entries-place.false in
    let t : eqb (get_or c.args.entries.now l.place none).server c.args.server ≡ true = grind (arith, nat_tests) in
    record {
      within = l.invariant.within;
      rest = place_found c.args.server c.args.entries.now l.place none c.loop-place-test.true l.invariant.before t;
    }

pub returns-after-loop-place : goal.returns-after-loop-place
returns-after-loop-place c =
    let l = c.loop-place in
    record {
      within = l.invariant.within;
      rest = place_none c.args.server c.args.entries.now l.place (omega (arith, c.loop-place-test.false)) l.invariant.before;
    }
