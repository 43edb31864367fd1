use Rattle.std.proofs.Common.{codes, string_bytes}
use Rattle.std.proofs.lemmas.List.{append_assoc}
use Rattle.cbsrun_remedy_texts.specs.Remedies.{none_text}
use Rattle.cbsrun_remedy_texts.proofs.Texts.{pushed}
use Rattle.cbsrun_remedy_texts.proofs.remedy.append_none.Goals as goal

pub returns : goal.returns
unfolding none_text
returns c = rw c.in-Some.is
    (pushed c.push_str-3.result _ (string_bytes c.append_time.new.text) (codes "\n") _ c.push_str-3.ensures.bytes
    (simp (c.in_ok-append_time.ensures, c.in_ok-push_str.ensures.bytes, append_assoc)))
