use Rattle.std.proofs.Common.{◌-◌, length, take, get_or, sym, ◌∙◌, arith}
use Rattle.std.proofs.lemmas.List.{length-take-le, drop_all}
use Rattle.std.proofs.lemmas.List.Edits.{get_or-insert_below}
use Rattle.cbs_ready.specs.declared.entries.Entry.{Entry}
use Rattle.cbs_lists.proofs.FreeSlots.{last_behind, far_moved}
use Rattle.cbs_ready.proofs.Slots.{ahead_from}
use Rattle.cbs_ready.proofs.entries.pass_fours.Goals as goal

pub loop-place-init : goal.loop-place-init
loop-place-init c =
    let es = c.args.entries.now in
    let long = length-take-le (length es - 1) es (omega arith) in
    record {
      within = omega (arith, long);
      moved = last_behind es c.requires.some;
      behind = rw (drop_all (length es - 1) (take (length es - 1) es) (omega (arith, long))) tt;
    }

pub loop-place-preserved : goal.loop-place-preserved
loop-place-preserved c =
    let es = take (length c.args.entries.now - 1) c.args.entries.now in
    let l = c.loop-place in
    let i = l.invariant in
    let some = c.loop-place-test.true in
    let within = i.within in
    let none : Entry = record { deadline = 0; server = 0 } in
    let read = get_or-insert_below es l.place i.moved.0 none (l.place - 4) (omega arith) within in
    let ahead = rw (i.moved.1, read) at (sym c.is_ahead.ensures ∙ c.if-is_ahead.true) in
    let moved = far_moved es l.entries (l.place - 4) l.place i.moved.0 none (omega arith) within i.moved.1 in
    record {
      within = omega (arith, some, within);
      moved = (get_or es (l.place - 4) none, c.copy_within.ensures.after ∙ moved);
      behind = ahead_from c.args.entry es (l.place - 4) none c.requires.order (omega (arith, some, within)) ahead;
    }
