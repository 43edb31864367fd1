use Rattle.std.proofs.Common.{◌≡◌, false, eqb, codes, string_bytes, arith}
use Rattle.std.proofs.lemmas.Bool.Decides.{nat_tests}
use Rattle.std.proofs.lemmas.List.{append_assoc}
use Rattle.cbsrun_check_text.specs.Checks.{late_by_text}
use Rattle.cbsrun_remedy_texts.proofs.Texts.{pushed}
use Rattle.cbsrun_check_text.proofs.lateness.append_late_by.Goals as goal

pub returns : goal.returns
unfolding late_by_text
returns c =
    let none : eqb c.args.ticks 0 ≡ false = grind (arith, nat_tests) in
    pushed c.push_str-3.result _ (string_bytes c.append_count.new.text) (codes ".\n") _ c.push_str-3.ensures.bytes
    (simp (c.in_ok-append_count.ensures, c.in_ok-push_str.ensures.bytes, none, append_assoc))
