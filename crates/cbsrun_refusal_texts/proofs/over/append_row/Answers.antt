use Rattle.std.proofs.Common.{◌≡◌, ℕ, List, [], ◌++◌, ◌∙◌}
use Rattle.std.specs.Prelude.{codes, string_bytes}
use Rattle.std.proofs.lemmas.List.{append_assoc, append-nil}
use Rattle.cbsrun_check_text.specs.Fractions.{fraction_text, percent_text}
use Rattle.cbsrun_refusal_texts.specs.Over.{row}
use Rattle.cbsrun_refusal_texts.specs.declared.over.Columns.{Columns}
use Rattle.cbsrun_refusal_texts.specs.Pages.{left_in, right_in}
use Rattle.cbsrun_refusal_texts.proofs.Pages.{then, as_text, accepted}
use Rattle.cbsrun_refusal_texts.proofs.over.append_row.Goals as goal

row_is : (columns : Columns) (label end fraction percent : List ℕ) (part whole : ℕ) → fraction ≡ fraction_text part whole → percent ≡ percent_text part whole
    → codes "   | " ++ (left_in columns.label label ++ (codes "  " ++ (right_in columns.fraction fraction ++ (codes "  " ++ (right_in 7 percent ++ (end ++ (codes "\n" ++ [])))))))
    ≡ row columns label part whole end
unfolding row
row_is columns label end fraction percent part whole f p = rw (f, p) (by (left_in columns.label label) (right_in columns.fraction (fraction_text part whole)) (right_in 7 (percent_text part whole)) end)
  where
    by : (l f p e : List ℕ) → codes "   | " ++ (l ++ (codes "  " ++ (f ++ (codes "  " ++ (p ++ (e ++ (codes "\n" ++ []))))))) ≡ codes "   | " ++ l ++ codes "  " ++ f ++ codes "  " ++ p ++ e ++ codes "\n"
    by l f p e = simp (append_assoc, append-nil)

pub returns : goal.returns
returns c =
    let end = c.push_all.new.self in
    let fraction = accepted c.fraction_of-fraction.result c.accept.result c.in-Some.fraction c.args.page.now c.accept.new.self
    (λ text. string_bytes text ≡ fraction_text c.args.ratio.part c.args.ratio.whole) c.accept.ensures c.in-Some.is c.fraction_of-fraction.ensures in
    let percent = accepted c.percent_of-percent.result c.accept-2.result c.in-Some-accept.percent c.accept.new.self c.accept-2.new.self
    (λ text. string_bytes text ≡ percent_text c.args.ratio.part c.args.ratio.whole) c.accept-2.ensures c.in-Some-accept.is c.percent_of-percent.ensures in
    rw (percent.1, fraction.1) at (as_text c.accept-2.new.self end _ _
    (then c.accept-2.new.self c.push.new.self end _ _ c.push.ensures
    (then c.push.new.self c.push_left.new.self end _ _ c.push_left.ensures
    (then c.push_left.new.self c.push-2.new.self end _ _ c.push-2.ensures
    (then c.push-2.new.self c.push_right.new.self end _ _ c.push_right.ensures
    (then c.push_right.new.self c.push-3.new.self end _ _ c.push-3.ensures
    (then c.push-3.new.self c.push_right-2.new.self end _ _ c.push_right-2.ensures c.push_all.ensures))))))
    (row_is c.args.columns c.args.label.now c.args.end.now c.deref.result.now c.deref-2.result.now c.args.ratio.part c.args.ratio.whole (c.deref.ensures ∙ fraction.0)
    (c.deref-2.ensures ∙ percent.0)))
