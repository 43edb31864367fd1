use Rattle.std.proofs.Common.{◌≡◌, ℕ, List, ◌++◌, map, length, refl}
use Rattle.std.specs.Prelude.{codes, decimal}
use Rattle.std.proofs.lemmas.List.{append_assoc, length-map}
use Rattle.toml.specs.View.{view}
use Rattle.cbsrun_refusal_texts.specs.Pages.{IsNote, bar}
use Rattle.cbsrun_refusal_texts.specs.Refusals.{too_many_line, others_words, IsTooManyText, IsSpotLine}
use Rattle.cbsrun_refusal_texts.proofs.Helps.{note_as}
use Rattle.cbsrun_refusal_texts.proofs.Pages.{then, as_text, after, both}
use Rattle.cbsrun_refusal_texts.proofs.limits.append_too_many.Goals as goal

line_is : (count : ℕ) → (codes "error: there are " ++ decimal count) ++ (codes " servers, and there may be at most " ++ decimal 64) ≡ too_many_line count
unfolding too_many_line
line_is count = by (decimal count) (decimal 64)
  where
    by : (n m : List ℕ) → (codes "error: there are " ++ n) ++ (codes " servers, and there may be at most " ++ m)
        ≡ codes "error: there are " ++ n ++ codes " servers, and there may be at most " ++ m
    by n m = simp append_assoc

words_are : (n : List ℕ) → codes "an executor has at most " ++ (n ++ codes " servers: take a second one for the others")
    ≡ codes "an executor has at most " ++ n ++ codes " servers: take a second one for the others"
words_are n = simp append_assoc

pub returns : goal.returns
returns c =
    let servers = c.args.spot.now.document.servers.now in
    let entries = map view servers in
    let p0 = c.args.page.now in
    let p2 = c.push_number-2.new.self in
    let p3 = c.push_spot.new.self in
    let p4 = c.push_bar.new.self in
    let p5 = c.push_note.new.self in
    let line = too_many_line (length entries) in
    let IsPlace = IsSpotLine c.args.spot.now in
    let Help = IsNote 2 (codes "help") others_words in
    let Rest = λ (t : List ℕ). (y : List ℕ) × Help y × (t ≡ bar 2 ++ y) in
    let AtPlace = λ (t : List ℕ). (x : List ℕ) × (y : List ℕ) × IsPlace x × Help y × (t ≡ x ++ (bar 2 ++ y)) in
    after p0 p2 p5 line AtPlace (IsTooManyText IsPlace entries)
    (as_text p0 p2 _ line (then p0 c.push_number.new.self p2 _ _ c.push_number.ensures c.push_number-2.ensures)
    (rw (length-map servers view) (line_is (length servers))))
    (both p2 p3 p5 IsPlace Rest AtPlace c.push_spot.ensures
    (after p3 p4 p5 (bar 2) Help Rest c.push_bar.ensures
    (note_as 2 (codes "help") c.format-help.result p4 p5 _ others_words c.format-help.ensures.ok (words_are (decimal 64)) c.push_note.ensures)
    (λ y h. (y, h, refl)))
    (λ x t s h. (x, h.0, s, h.1, rw h.2 refl)))
    (λ t h. record {
      place = h.0;
      help = h.1;
      is_place = h.2;
      is_help = h.3;
      bytes = rw h.4 (simp append_assoc);
    })
