use Rattle.std.proofs.Common.{◌≡◌, leb, false, codes, string_bytes, arith}
use Rattle.std.proofs.lemmas.Bool.Decides.{nat_tests}
use Rattle.std.proofs.lemmas.List.{append_assoc}
use Rattle.cbsrun_remedy_texts.specs.Remedies.{fit_text}
use Rattle.cbsrun_remedy_texts.proofs.Texts.{pushed}
use Rattle.cbsrun_remedy_texts.proofs.remedy.append_fit.Goals as goal

pub returns : goal.returns
unfolding fit_text
returns c =
    let more = c.if-budget-room.false in
    let beyond : leb c.args.budget c.args.room ≡ false = grind (arith, nat_tests) in
    rw beyond (pushed c.push_str-3.result _ (string_bytes c.append_time.new.text) (codes " fits\n") _ c.push_str-3.ensures.bytes
    (simp (c.in_ok-append_time.ensures, c.in_ok-push_str.ensures.bytes, append_assoc)))
