use Rattle.std.proofs.Common.{◌≡◌, false, eqb, codes, string_bytes, arith}
use Rattle.std.proofs.lemmas.Bool.Decides.{nat_tests}
use Rattle.std.proofs.lemmas.List.{append_assoc}
use Rattle.cbsrun_remedy_texts.proofs.Texts.{pushed}
use Rattle.cbsrun_check_text.proofs.check.append_every.Goals as goal

pub returns : goal.returns
returns c =
    let t : eqb c.args.ticks 1 ≡ false = grind (arith, nat_tests) in
    pushed c.push_str-2.result _ (string_bytes c.append_pair.new.text) (codes " ticks.\n") _ c.push_str-2.ensures.bytes
    (simp (c.in_ok-append_pair.ensures, t, append_assoc))
