use Rattle.std.proofs.Common.{string_bytes}
use Rattle.std.proofs.lemmas.List.{append_assoc}
use Rattle.cbsrun_check_text.specs.Checks.{tick_text, together_text}
use Rattle.cbsrun_remedy_texts.proofs.Texts.{appended}
use Rattle.cbsrun_check_text.proofs.check.append_together.Goals as goal

pub returns : goal.returns
unfolding together_text
returns c = appended c.append_tick.result _ (string_bytes c.append_time.new.text) (tick_text c.args.tick) _ c.append_tick.ensures
    (simp (c.in_ok-append_time.ensures, c.in_ok-push_str.ensures.bytes, append_assoc))
