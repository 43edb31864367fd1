-- The lines of steps, written line by line.
use Rattle.std.proofs.Common.{◌≡◌, ◌+◌, ◌++◌, ℕ, true, false, List, [], ◌∷◌, ap, inl, inr, refl, sym, ◌∙◌, append_assoc, Result, Ok, Err}
use Rattle.std.specs.Prelude.{IsOk, OnErr, OnOk}
use Rattle.std.proofs.lemmas.List.{append-nil}
use Rattle.cbsrun_events.specs.declared.seen.Seen.{Seen}
use Rattle.cbsrun_lines.specs.Lines.{lines_of, line_of, HasWritten, FailedToWrite, WroteSome, WroteShown}
use Rattle.cbsrun_lines.specs.Traces.{WritesSomeLines}
use Rattle.cbsrun_lines.specs.Writers.{Writer, Writes, WritesAllBut, FailsToWrite}
use Rattle.cbsrun_io.specs.Writers.{AppendsFront, AppendsAllBut}
use Rattle.cbsrun_lines.specs.declared.lines.Lines.{Lines}
use Rattle.cbsrun_io.proofs.WrittenText.{Appends-nothing, Appends-then, all_but_then, all_waits, front_more, part_ends, waits_too}

-- before the first step
pub begins : (lines : Lines) (w : Writer) → lines.write_failed ≡ false → lines.pending ≡ [] → HasWritten lines w w []
unfolding lines_of
begins lines w well none = record { well = well; writes = (rw none (all_waits w.written []), refl) }

module _ (old mid new : Writer) (lines after : Lines) (os : List Seen) (o : Seen) (text : List ℕ) (has : HasWritten lines old mid os)
    (is : text ≡ line_of o) where
  -- the text that waits, with one more line, is what is not yet written of the lines
  more_waits : AppendsAllBut old.written mid.written (lines.pending ++ text) (lines_of (o ∷ os))
  unfolding lines_of
  more_waits = rw (← is) (waits_too old.written mid.written lines.pending (lines_of os) text has.writes.0)

  -- one line more
  pub wrote_line : after.write_failed ≡ lines.write_failed → WritesAllBut mid new after.pending (lines.pending ++ text)
      → HasWritten after old new (o ∷ os)
  wrote_line same push = record {
    well = same ∙ has.well;
    writes = (
      all_but_then old.written mid.written new.written (lines.pending ++ text) after.pending (lines_of (o ∷ os)) more_waits push.0,
      push.1 ∙ has.writes.1,
    );
  }

  -- a line that could not be written
  pub failed_line : after.write_failed ≡ true → FailsToWrite mid new (lines.pending ++ text) → FailedToWrite after old new (o ∷ os)
  failed_line flag fails = inl (
    flag,
    (
      fails.0 ∙ ap (λ n. n + 1) has.writes.1,
      part_ends old.written mid.written new.written (lines.pending ++ text) [] (lines.pending ++ text) (lines_of (o ∷ os))
          (sym (append-nil (lines.pending ++ text))) more_waits fails.1,
    ),
  )

module _ (old mid new : Writer) (lines : Lines) (os : List Seen) (has : HasWritten lines old mid os) where
  -- what waited is written
  pub flushed : Writes mid new lines.pending → Writes old new (lines_of os)
  flushed wrote =
      let so_far = has.writes.0 in (
        rw (← so_far.2) (Appends-then old.written mid.written new.written so_far.0 lines.pending so_far.1 wrote.0),
        wrote.1 ∙ has.writes.1,
      )

  -- or a prefix of it, and then a call failed
  pub flush_failed : FailsToWrite mid new lines.pending → FailsToWrite old new (lines_of os)
  flush_failed fails = (
    fails.0 ∙ ap (λ n. n + 1) has.writes.1,
    part_ends old.written mid.written new.written lines.pending [] lines.pending (lines_of os) (sym (append-nil lines.pending)) has.writes.0 fails.1,
  )

-- the lines of the first steps, up to some step, begin the lines of all steps
lines_begin : (later done : List Seen) → (more : List ℕ) × (lines_of (later ++ done) ≡ lines_of done ++ more)
unfolding lines_of
lines_begin [] done = ([], sym (append-nil (lines_of done)))
lines_begin (o ∷ later) done =
    let h = lines_begin later done in
    (h.0 ++ line_of o, ap (λ t. t ++ line_of o) h.1 ∙ append_assoc (lines_of done) h.0 (line_of o))

-- a prefix of the lines of the first steps is a prefix of all lines
front_in_all : (old new : Writer) (later done steps : List Seen) → later ++ done ≡ steps → AppendsFront old.written new.written (lines_of done)
    → AppendsFront old.written new.written (lines_of steps)
front_in_all old new later done steps all front =
    let h = lines_begin later done in
    let is : lines_of done ++ h.0 ≡ lines_of steps = sym h.1 ∙ ap lines_of all in
    rw is at (front_more old.written new.written (lines_of done) h.0 front)

-- also if a call then failed
fails_in_all : (old new : Writer) (later done steps : List Seen) → later ++ done ≡ steps → FailsToWrite old new (lines_of done)
    → FailsToWrite old new (lines_of steps)
fails_in_all old new later done steps all fails = (fails.0, front_in_all old new later done steps all fails.1)

-- the lines of some first steps were written
some_lines : (old new : Writer) (later done steps : List Seen) → later ++ done ≡ steps → Writes old new (lines_of done) → WritesSomeLines steps old new
some_lines old new later done steps all wrote = record {
  later = later;
  done = done;
  all = all;
  written = wrote;
  front = front_in_all old new later done steps all (lines_of done, [], wrote.0, sym (append-nil (lines_of done)));
}

-- no line was written
pub nothing_written : (steps : List Seen) (w : Writer) → WritesSomeLines steps w w
unfolding lines_of
nothing_written steps w = some_lines w w steps [] steps (append-nil steps) (Appends-nothing w.written, refl)

-- the lines of the first steps, up to some step, are written, except for the text that waits
record HasSome (lines : Lines) (old new : Writer) (steps : List Seen) : Type 0 where
  later : List Seen
  done : List Seen
  all : later ++ done ≡ steps
  has : HasWritten lines old new done

module _ (lines : Lines) (old mid : Writer) (steps : List Seen) (some : WroteSome lines old mid steps) where
  -- if no write failed, so they are
  some_written : lines.write_failed ≡ false → HasSome lines old mid steps
  some_written well = elim some.wrote [
    | inl has ↦ record { later = some.later; done = some.done; all = some.all; has = has }
    | inr failed ↦ elim failed [
      | inl p ↦ let t = p.0 in absurd cc
      | inr p ↦
          let o = p.0 in
          let is : (some.later ++ o ∷ []) ++ p.1 ≡ some.later ++ some.done =
          append_assoc some.later (o ∷ []) p.1 ∙ ap (λ xs. some.later ++ xs) (sym p.2) in
          record { later = some.later ++ o ∷ []; done = p.1; all = is ∙ some.all; has = p.3 }
    ]
  ]

  -- so no call failed
  pub none_failed : lines.write_failed ≡ false → mid.failed ≡ old.failed
  none_failed well = (some_written well).has.writes.1

  -- if one failed, a prefix of all lines is written
  pub prefix_written : lines.write_failed ≡ true → FailsToWrite old mid (lines_of steps)
  prefix_written flag = elim some.wrote [
    | inl has ↦ let f = has.well in absurd cc
    | inr failed ↦ elim failed [
      | inl p ↦ fails_in_all old mid some.later some.done steps some.all p.1
      | inr p ↦ let f = p.3.well in absurd cc
    ]
  ]

  -- what waited is written
  pub some_flushed : (new : Writer) → lines.write_failed ≡ false → Writes mid new lines.pending → WritesSomeLines steps old new
  some_flushed new well wrote =
      let h = some_written well in
      some_lines old new h.later h.done steps h.all (flushed old mid new lines h.done h.has wrote)

  -- or a prefix of it, and then a call failed
  pub some_flush_failed : (new : Writer) → lines.write_failed ≡ false → FailsToWrite mid new lines.pending → FailsToWrite old new (lines_of steps)
  some_flush_failed new well fails =
      let h = some_written well in
      fails_in_all old new h.later h.done steps h.all (flush_failed old mid new lines h.done h.has fails)

-- what is written of the lines of steps, by the result with which they were shown
pub wrote_shown : {T E : Type 0} (lines : Lines) (old mid : Writer) (steps : List Seen) (shown : Result T E) → OnOk shown (HasWritten lines old mid steps)
    → OnErr shown (WroteSome lines old mid steps) → WroteShown shown lines old mid steps
wrote_shown lines old mid steps (Ok x) ok err = ok
wrote_shown lines old mid steps (Err e) ok err = err

-- what is known of lines once steps were shown to them, whatever the result
module _ {T E : Type 0} (lines : Lines) (old mid : Writer) (steps : List Seen) where
  -- if a write failed, a prefix of the lines is written
  pub fault_ends : (shown : Result T E) → WroteShown shown lines old mid steps → lines.write_failed ≡ true → FailsToWrite old mid (lines_of steps)
  fault_ends (Ok x) has flag = let f = has.well in absurd cc
  fault_ends (Err e) some flag = prefix_written lines old mid steps some flag

  -- if none did, no call failed
  pub none_ends : (shown : Result T E) → WroteShown shown lines old mid steps → lines.write_failed ≡ false → mid.failed ≡ old.failed
  none_ends (Ok x) has well = has.writes.1
  none_ends (Err e) some well = none_failed lines old mid steps some well

  -- and if what waits cannot be written, a prefix of the lines is
  pub flush_ends : (shown : Result T E) → WroteShown shown lines old mid steps → lines.write_failed ≡ false
      → (new : Writer) → FailsToWrite mid new lines.pending → FailsToWrite old new (lines_of steps)
  flush_ends (Ok x) has well new fails = flush_failed old mid new lines steps has fails
  flush_ends (Err e) some well new fails = some_flush_failed lines old mid steps some new well fails

-- what holds if steps were shown to their end holds if all was written
pub ok_both : {T U E D : Type 0} (P : Type 0) (r : Result T E) (shown : Result U D) → OnOk r (IsOk shown) → OnOk shown P → OnOk r P
ok_both P (Ok x) (Ok y) is p = p
ok_both P (Ok x) (Err e) is p = absurd cc
ok_both P (Err d) shown is p = tt
