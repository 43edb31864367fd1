use Rattle.std.proofs.Common.{◌≡◌, ◌∙◌, List, ℕ, ◌++◌, append_assoc, ap, codes}
use Rattle.std.proofs.lemmas.Result.{IfOk-equal}
use Rattle.cbsrun_time_texts.specs.Texts.{time_text}
use Rattle.cbsrun_report_text.specs.Notes.{delay_text}
use Rattle.cbsrun_report_text.proofs.notes.append_delay.Goals as goal

joined : (old name time : List ℕ) → (old ++ (codes "units of " ++ (name ++ codes " overran by up to "))) ++ time
    ≡ old ++ (codes "units of " ++ name ++ codes " overran by up to " ++ time)
joined old name time = simp append_assoc

pub returns : goal.returns
unfolding delay_text
returns c =
    let time = time_text c.args.tick c.args.ticks in
    IfOk-equal c.append_time.result _ _ _ c.append_time.ensures (ap (λ t. t ++ time) c.in_ok-write.ensures.bytes ∙ joined _ _ time)
