use Rattle.std.proofs.Common.{codes, string_bytes}
use Rattle.std.proofs.lemmas.List.{append_assoc}
use Rattle.cbsrun_check_text.specs.Checks.{tick_text}
use Rattle.cbsrun_remedy_texts.proofs.Texts.{pushed}
use Rattle.cbsrun_check_text.proofs.check.append_tick.Goals as goal

pub returns : goal.returns
unfolding tick_text
returns c = pushed c.push_str-2.result _ (string_bytes c.append_time.new.text) (codes ".\n") _ c.push_str-2.ensures.bytes
    (simp (c.in_ok-append_time.ensures, c.in_ok-push_str.ensures.bytes, append_assoc))
