use Rattle.std.proofs.Common.{◌∙◌, ℕ, List, [], append-nil, refl, string_bytes, subst, sym}
use Rattle.cbsrun_fault_texts.specs.Explanations.{ExplainsRefusal}
use Rattle.cbsrun_lines.proofs.Writers.{tries, tries_below, tries_alone}
use Rattle.cbsrun_commands.specs.FaultLines.{document_of}
use Rattle.cbsrun_commands.proofs.Others.{done_with, was_done, was_made, writes_below}
use Rattle.cbsrun_commands.proofs.ending.write_explained.Goals as goal

pub returns-in_err-ok-clause-explained : goal.returns-in_err-ok-clause-explained
returns-in_err-ok-clause-explained g c =
    ([], tt, tries_alone _ _ _ (tries c.write_file_fault.result _ _ _ c.write_file_fault.ensures.ok c.write_file_fault.ensures.err))

pub returns-clause-explained : goal.returns-clause-explained
returns-clause-explained g c =
    let line = was_done c.write_file_fault.result c.ok.result _ c.ok.ensures.value c.in_ok-ok.was c.write_file_fault.ensures.ok in
    let below = tries c.write_pieces.result _ _ _ c.write_pieces.ensures.ok c.write_pieces.ensures.err in
    let Told : List ℕ → Type 0 = λ text. ExplainsRefusal c.args.name.now (document_of c.args.bytes.now) c.args.fault text in
    let told = was_made (λ s. Told (string_bytes s)) c.explain.result c.ok-2.result c.in_ok-text.text c.ok-2.ensures.value c.in_ok-text.was
    (rw c.document_of-document.ensures at c.explain.ensures.refusal) in
    (_, (refl, subst Told (sym (append-nil c.as_str.result.now ∙ c.as_str.ensures.value)) told), tries_below _ _ _ _ _ line below)

pub returns-clause-whole : goal.returns-clause-whole
returns-clause-whole g c =
    let line = was_done c.write_file_fault.result c.ok.result _ c.ok.ensures.value c.in_ok-ok.was c.write_file_fault.ensures.ok in
    let Told : List ℕ → Type 0 = λ text. ExplainsRefusal c.args.name.now (document_of c.args.bytes.now) c.args.fault text in
    let told = was_made (λ s. Told (string_bytes s)) c.explain.result c.ok-2.result c.in_ok-text.text c.ok-2.ensures.value c.in_ok-text.was
    (rw c.document_of-document.ensures at c.explain.ensures.refusal) in
    done_with c.write_pieces.result c.ok-3.result c.ok-3.ensures.value c.write_pieces.ensures.ok
    (λ more. (_, subst Told (sym (append-nil c.as_str.result.now ∙ c.as_str.ensures.value)) told, writes_below _ _ _ _ _ line more))
