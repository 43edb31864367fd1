use Rattle.std.proofs.Common.{◌≡◌, ◌∙◌, ℕ, ◌+◌, ◌<◌, ◌++◌, ◌∷◌, [], List, ap, append_assoc, append-nil, arith, drop, get_or, length, refl, sym, take}
use Rattle.std.proofs.lemmas.List.{take_all, take_more, take-append-drop}
use Rattle.cbs_steps.specs.declared.step.Step.{Step}
use Rattle.cbs_tape.specs.Tapes.{all_steps, steps_of}
use Rattle.cbs_tape.specs.declared.entry.Entry.{Entry}
use Rattle.cbs_units.specs.Counting.{counting}
use Rattle.cbs_units.specs.declared.count.CountJob.{CountJob}
use Rattle.cbsrun_runs.proofs.SeenSteps.{on_err_always, shows_both, shows_none, stops_later}
use Rattle.cbsrun_runs.proofs.recorded.show_entries.Goals as goal

-- the steps of some entries, and then of some more
steps_both : (xs ys : List Entry) → all_steps (xs ++ ys) ≡ all_steps xs ++ all_steps ys
steps_both [] ys = refl
steps_both (x ∷ xs) ys =
    ap (λ (zs : List (Step CountJob)). steps_of x ++ zs) (steps_both xs ys) ∙ sym (append_assoc (steps_of x) (all_steps xs) (all_steps ys))

-- the steps of the first entries, and of one more
steps_more : (es : List Entry) (i : ℕ) (d : Entry) → i < length es → all_steps (take i es) ++ steps_of (get_or es i d) ≡ all_steps (take (i + 1) es)
steps_more es i d lt =
    let e = get_or es i d in
    sym (ap all_steps (take_more es i d lt) ∙ steps_both (take i es) (e ∷ [])
    ∙ ap (λ (zs : List (Step CountJob)). all_steps (take i es) ++ zs) (append-nil (steps_of e)))

-- the steps of the first entries, of one more, and of those that are left
steps_left : (es : List Entry) (i : ℕ) (d : Entry) → i < length es
    → all_steps (take i es) ++ (steps_of (get_or es i d) ++ all_steps (drop (i + 1) es)) ≡ all_steps es
steps_left es i d lt =
    let left = all_steps (drop (i + 1) es) in
    sym (append_assoc (all_steps (take i es)) (steps_of (get_or es i d)) left)
    ∙ ap (λ (zs : List (Step CountJob)). zs ++ left) (steps_more es i d lt)
    ∙ sym (steps_both (take (i + 1) es) (drop (i + 1) es)) ∙ ap all_steps (take-append-drop (i + 1) es)

pub loop-entry-init : goal.loop-entry-init
loop-entry-init g c = record { ready = c.requires.ready; shown = shows_none counting g.V.View.saw _ _ }

pub loop-entry-preserved : goal.loop-entry-preserved
loop-entry-preserved g c =
    let es = c.args.entries.now in
    let i = c.loop-entry.entry-index in
    record {
      ready = c.in_ok-show_entry.ensures.ready;
      shown = rw (steps_more es i _ c.loop-entry-test.true) at (shows_both counting g.V.View.saw (all_steps (take i es)) _ _ _ _ _ _ _
          c.loop-entry.invariant.shown c.in_ok-show_entry.ensures.shown);
    }

pub returns-clause-shown : goal.returns-clause-shown
returns-clause-shown g c =
    let all = take_all c.loop-entry.entry-index c.args.entries.now c.loop-entry-test.false in
    rw all at c.loop-entry.invariant.shown

pub returns-in_err-show_entry-clause-stopped : goal.returns-in_err-show_entry-clause-stopped
returns-in_err-show_entry-clause-stopped g c = on_err_always c.from_residual.result (
    let es = c.args.entries.now in
    let i = c.loop-entry.entry-index in
    stops_later counting g.V.View.saw g.V.View.failed (all_steps (take i es)) _ (all_steps (drop (i + 1) es)) (all_steps es)
    _ _ _ _ _ _ (steps_left es i _ c.loop-entry-test.true) c.loop-entry.invariant.shown c.in_err-show_entry.ensures.stopped)
