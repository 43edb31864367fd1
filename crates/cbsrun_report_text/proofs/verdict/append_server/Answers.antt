use Rattle.std.proofs.Common.{◌≡◌, ◌∙◌, ℕ, List, ◌++◌, append_assoc, ap, codes}
use Rattle.std.proofs.lemmas.Result.{IfOk-equal}
use Rattle.cbsrun_report_text.specs.Notes.{wrong_text, others_text}
use Rattle.cbsrun_report_text.proofs.verdict.append_server.Goals as goal

joined : (old name wrong others : List ℕ) → (old ++ (codes "not in time: " ++ (name ++ codes ": "))) ++ wrong ++ others
    ≡ old ++ (codes "not in time: " ++ name ++ codes ": " ++ wrong ++ others)
joined old name wrong others = simp append_assoc

pub returns : goal.returns
returns c =
    let wrong = wrong_text c.args.server.now.figures in
    let others = others_text c.args.others in
    IfOk-equal c.append_others.result _ _ _ c.append_others.ensures (ap (λ t. t ++ others)
    (c.in_ok-append_wrong.ensures ∙ ap (λ t. t ++ wrong) c.in_ok-write.ensures.bytes)
    ∙ joined _ _ wrong others)
