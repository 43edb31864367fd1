use Rattle.std.proofs.Common.{◌≡◌, ◌-◌, length, take, get_or, subst, sym, ◌∙◌, arith, rules}
use Rattle.std.proofs.lemmas.List.Edits.{get_or-insert_below}
use Rattle.cbs_ready.specs.declared.entries.Entry.{Entry}
use Rattle.cbs_lists.proofs.FreeSlots.{moved_down, written_free}
use Rattle.cbs_ready.proofs.Slots.{ahead_from, insert-entered, own_place, IsBehind}
use Rattle.cbs_ready.proofs.entries.put.Goals as goal
use Rattle.cbs_ready.proofs.entries.put.Goals.{then-loop-place-test+else-is_ahead, else-loop-place-test}

-- the entry if there is none
abbrev none : Entry
none = record { deadline = 0; server = 0 }

pub loop-place-preserved : goal.loop-place-preserved
loop-place-preserved c =
    let es = take (length c.args.entries.now - 1) c.args.entries.now in
    let l = c.loop-place in
    let i = l.invariant in
    let some = c.loop-place-test.true in
    let within = i.within in
    let read = get_or-insert_below es l.place i.moved.0 none (l.place - 1) (omega arith) within in
    let ahead = rw (i.moved.1, read) at (sym c.is_ahead.ensures ∙ c.if-is_ahead.true) in
    record {
      within = omega (arith, some, within);
      moved = (get_or es (l.place - 1) none, moved_down es l.entries (l.place - 1) l.place i.moved.0 none (omega arith) within i.moved.1);
      behind = ahead_from c.args.entry es (l.place - 1) none c.requires.order (omega (arith, some, within)) ahead;
    }

pub returns : goal.returns
returns c =
    let es = take (length c.args.entries.now - 1) c.args.entries.now in
    let l = c.loop-place in
    let i = l.invariant in
    let within = i.within in
    let own : IsBehind c.args.entry none es l.place = elim c.loop-place-test.branch [
      | then-loop-place-test+else-is_ahead w ↦
          let some = w.loop-place-test.true in
          let read = get_or-insert_below es l.place i.moved.0 none (l.place - 1) (omega arith) within in
          own_place c.args.entry none es l.place some (rw (i.moved.1, read) at (sym w.is_ahead.ensures ∙ w.if-is_ahead.false))
      | else-loop-place-test w ↦
          let first : l.place ≡ 0 = omega (arith, w.loop-place-test.false) in
          subst (λ n. IsBehind c.args.entry none es n) (sym first) tt
    ] in
    rw (c.write.ensures, i.moved.1)
    (written_free es l.place i.moved.0 c.args.entry within ∙ insert-entered c.args.entry none es l.place within c.requires.order i.behind own)

pub pass_fours-place-requires-clause-order : goal.pass_fours-place-requires-clause-order
pass_fours-place-requires-clause-order c = search rules
