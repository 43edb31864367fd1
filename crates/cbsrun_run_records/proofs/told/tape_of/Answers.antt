use Rattle.std.proofs.Common.{◌≡◌, ◌∙◌, true, append-nil, sym}
use Rattle.cbsrun_run_records.proofs.told.tape_of.Goals as goal

pub returns-clause-steps : goal.returns-clause-steps
returns-clause-steps g c =
    let tape = c.in_ok-new.field-0 in
    let whole : c.show-shown.new.view.tape.whole ≡ true = let e = c.is_whole.ensures in let t = c.if-not-is_whole.false in cc in
    let seen = c.in_ok-shown.ensures.seen (record { tape = tape }, tt) (λ w. sym (append-nil tape.steps)) whole in
    c.end.ensures.steps ∙ rw c.in_ok-new.ensures at seen
