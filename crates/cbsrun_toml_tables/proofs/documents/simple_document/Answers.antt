use Rattle.std.proofs.Common.{◌≡◌, true, refl}
use Rattle.std.specs.Str.{is_utf8}
use Rattle.std.proofs.lemmas.Str.{is_utf8-from_IsUtf8}
use Rattle.cbsrun_toml_tables.proofs.documents.simple_document.Goals as goal

pub returns-in-Ok-document : goal.returns-in-Ok-document
returns-in-Ok-document c =
    let text_is = c.in-Ok.ensures.cases in
    let utf8 : is_utf8 c.args.bytes.now ≡ true = is_utf8-from_IsUtf8 c.args.bytes.now text_is.1 in
    rw (utf8, rw text_is.0 at c.in-Ok-document.ensures) refl
