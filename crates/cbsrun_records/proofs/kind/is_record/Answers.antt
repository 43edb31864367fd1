use Rattle.std.proofs.Common.{◌≡◌, true, inl, inr, refl}
use Rattle.std.specs.Str.{is_utf8}
use Rattle.std.proofs.lemmas.Bool.{cases_Bool}
use Rattle.std.proofs.lemmas.Str.{is_utf8-from_IsUtf8, IsUtf8-from_is_utf8}
use Rattle.cbsrun_records.proofs.kind.is_record.Goals as goal

pub returns-in-Ok : goal.returns-in-Ok
returns-in-Ok c =
    let text_is = c.in-Ok.ensures.cases in
    let utf8 : is_utf8 c.text_of.result.now ≡ true = is_utf8-from_IsUtf8 c.text_of.result.now text_is.1 in
    rw (← c.text_of.ensures, c.begins_pair.ensures, c.skip_blank.ensures.rest, c.skip_bom.ensures.rest, text_is.0, utf8) refl

pub returns-in-Err : goal.returns-in-Err
returns-in-Err c = elim (cases_Bool (is_utf8 c.text_of.result.now)) [
  | inl y ↦ absurd (c.in-Err.ensures.cases.0 (IsUtf8-from_is_utf8 c.text_of.result.now y))
  | inr n ↦ rw (← c.text_of.ensures, n) refl
]
