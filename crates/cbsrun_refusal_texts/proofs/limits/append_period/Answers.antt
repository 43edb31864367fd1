use Rattle.std.proofs.Common.{◌≡◌, ℕ, List, ◌++◌, [], length, ap, refl, ◌∙◌, sym}
use Rattle.std.specs.Prelude.{codes, decimal, string_bytes}
use Rattle.std.proofs.lemmas.List.{append_assoc, append-nil}
use Rattle.cbs_rate.specs.Plan.{common_multiple}
use Rattle.cbsrun_refusal_texts.specs.Pages.{IsNote, bar, marked_line}
use Rattle.cbsrun_refusal_texts.specs.Refusals.{period_lines, before_words, coarser_words, IsPeriodText}
use Rattle.cbsrun_refusal_texts.proofs.Helps.{note_of}
use Rattle.cbsrun_refusal_texts.proofs.Pages.{then, as_text, after, both, accepted}
use Rattle.cbsrun_refusal_texts.proofs.limits.append_period.Goals as goal

lines_are : (period count : ℕ) (digits : List ℕ) → digits ≡ decimal period → count ≡ length digits
    → marked_line (codes "  ") (codes "period = " ++ (digits ++ [])) 9 count ++ (codes "\n" ++ bar 2) ≡ period_lines period
unfolding period_lines
lines_are period count digits is n =
    rw (n, append-nil digits, is) (sym (append_assoc (marked_line (codes "  ") (codes "period = " ++ decimal period) 9 (length (decimal period))) (codes "\n") (bar 2)))

pub returns : goal.returns
returns c =
    let refused = c.args.refused.now in
    let period = refused.reservation.period in
    let digits = accepted c.to_string-digits.result c.accept.result c.in-Some.digits c.args.page.now c.accept.new.self
    (λ text. string_bytes text ≡ decimal c.period.result) c.accept.ensures c.in-Some.is c.to_string-digits.ensures.ok in
    let Note = IsNote 2 (codes "note") (before_words (common_multiple refused.plan.rates)) in
    let Help = IsNote 2 (codes "help") coarser_words in
    let Rest = λ (t : List ℕ). (x : List ℕ) × (y : List ℕ) × Note x × Help y × (t ≡ x ++ y) in
    let lines = as_text c.accept.new.self c.push_bar.new.self _ (period_lines period)
    (then c.accept.new.self c.push_line.new.self c.push_bar.new.self _ _ c.push_line.ensures
    (then c.push_line.new.self c.push.new.self c.push_bar.new.self _ _ c.push.ensures c.push_bar.ensures))
    (lines_are period (length c.as_str-text.result.now) c.as_str-text.result.now (c.as_str-text.ensures.value ∙ (digits.0 ∙ ap decimal c.period.ensures.value)) refl) in
    after c.args.page.now c.push_bar.new.self c.push_note.new.self (period_lines period) Rest (IsPeriodText refused) (rw digits.1 at lines)
    (both c.push_bar.new.self c.append_before.new.page c.push_note.new.self Note Help Rest (rw c.bandwidth.ensures.value at c.append_before.ensures)
    (note_of 2 (codes "help") c.from_str.result c.append_before.new.page c.push_note.new.self coarser_words c.from_str.ensures.ok c.push_note.ensures)
    (λ x y n h. (x, y, n, h, refl)))
    (λ t h. record {
      note = h.0;
      help = h.1;
      is_note = h.2;
      is_help = h.3;
      bytes = rw h.4 (sym (append_assoc (period_lines period) h.0 h.1));
    })
