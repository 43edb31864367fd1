use Rattle.std.proofs.Common.{codes, string_bytes}
use Rattle.std.proofs.lemmas.List.{append_assoc}
use Rattle.cbsrun_remedy_texts.specs.Remedies.{backlog_text}
use Rattle.cbsrun_remedy_texts.proofs.Texts.{pushed}
use Rattle.cbsrun_remedy_texts.proofs.remedy.append_backlog.Goals as goal

pub returns : goal.returns
unfolding backlog_text
returns c = rw c.in-Some.is
    (pushed c.push_str.result _ (string_bytes c.append_pair.new.text) (codes " would do\n") _ c.push_str.ensures.bytes (simp (c.in_ok-append_pair.ensures, append_assoc)))
