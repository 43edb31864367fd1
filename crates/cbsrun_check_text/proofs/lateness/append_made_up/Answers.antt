use Rattle.std.proofs.Common.{codes, string_bytes}
use Rattle.std.proofs.lemmas.List.{append_assoc}
use Rattle.cbsrun_check_text.specs.Checks.{made_up_text}
use Rattle.cbsrun_remedy_texts.proofs.Texts.{pushed}
use Rattle.cbsrun_check_text.proofs.lateness.append_made_up.Goals as goal

pub returns : goal.returns
unfolding made_up_text
returns c = pushed c.push_str-2.result _ (string_bytes c.append_fraction.new.text) (codes " of the time is free.\n") _ c.push_str-2.ensures.bytes (simp (
  c.in_ok-append_fraction.ensures,
  c.in_ok-append_great.ensures,
  c.in_ok-push_str.ensures.bytes,
  c.saturating_sub-free.ensures,
  c.from.ensures,
  c.from-2.ensures,
  c.bandwidth-reserved.ensures.value,
  append_assoc,
))
