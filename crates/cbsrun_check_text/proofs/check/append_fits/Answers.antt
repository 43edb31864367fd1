use Rattle.std.proofs.Common.{codes, string_bytes}
use Rattle.std.proofs.lemmas.List.{append_assoc}
use Rattle.cbsrun_check_text.specs.Checks.{fits_text}
use Rattle.cbsrun_remedy_texts.proofs.Texts.{pushed}
use Rattle.cbsrun_check_text.proofs.check.append_fits.Goals as goal

pub returns : goal.returns
unfolding fits_text
returns c = pushed c.push_str.result _ (string_bytes c.append_pair-2.new.text) (codes "\n") _ c.push_str.ensures.bytes (simp (
  c.in_ok-append_pair-2.ensures,
  c.in_ok-append_pair.ensures,
  c.in_ok-append_fraction-2.ensures,
  c.in_ok-append_fraction.ensures,
  c.left_over-left.ensures,
  c.from.ensures,
  c.from-of.ensures,
  c.from-2.ensures,
  c.bandwidth-reserved.ensures.value,
  c.num-num.ensures.value,
  c.den-den.ensures.value,
  c.bound-bound.ensures,
  append_assoc,
))
