use Rattle.std.proofs.Common.{codes, string_bytes}
use Rattle.std.proofs.lemmas.List.{append_assoc}
use Rattle.cbsrun_check_text.specs.Notes.{demand_text}
use Rattle.cbsrun_remedy_texts.proofs.Texts.{pushed}
use Rattle.cbsrun_check_text.proofs.notes.append_demand.Goals as goal

pub returns : goal.returns
unfolding demand_text
returns c = pushed c.push_str-2.result _ (string_bytes c.append_fraction-2.new.text) (codes "\n") _ c.push_str-2.ensures.bytes (simp (
  c.in_ok-append_fraction-2.ensures,
  c.in_ok-append_once.ensures,
  c.in_ok-push_str.ensures.bytes,
  c.in_ok-append_fraction.ensures,
  c.from.ensures,
  c.from-2.ensures,
  c.from-3.ensures,
  c.budget.ensures.value,
  c.period.ensures.value,
  append_assoc,
))
