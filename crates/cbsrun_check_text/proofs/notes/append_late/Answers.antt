use Rattle.std.proofs.Common.{codes, string_bytes}
use Rattle.std.proofs.lemmas.List.{append_assoc}
use Rattle.cbsrun_check_text.specs.Notes.{late_text}
use Rattle.cbsrun_remedy_texts.proofs.Texts.{pushed}
use Rattle.cbsrun_check_text.proofs.notes.append_late.Goals as goal

pub returns : goal.returns
unfolding late_text
returns c = pushed c.push_str-3.result _ (string_bytes c.append_optional.new.text) (codes " is wanted") _ c.push_str-3.ensures.bytes (simp (
  c.in_ok-append_optional.ensures,
  c.in_ok-push_str-2.ensures.bytes,
  c.in_ok-append_ticks.ensures,
  c.in_ok-push_str.ensures.bytes,
  append_assoc,
))
