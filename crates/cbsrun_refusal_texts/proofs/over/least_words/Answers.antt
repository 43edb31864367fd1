use Rattle.std.proofs.Common.{refl, ◌∙◌}
use Rattle.cbsrun_refusal_texts.proofs.over.least_words.Goals as goal

pub returns : goal.returns
returns c = record {
  period = c.in-Some.period;
  least = c.in-Some.ensures;
  words = c.in_ok-append_time-2.ensures ∙ rw (c.in_ok-push_str.ensures.bytes, c.in_ok-append_time.ensures, c.in_ok-words.ensures.ok) refl;
}
