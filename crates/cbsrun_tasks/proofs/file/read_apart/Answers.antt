use Rattle.std.proofs.Common.{◌≡◌, true, inr}
use Rattle.std.specs.Str.{is_utf8}
use Rattle.std.proofs.lemmas.Str.{is_utf8-from_IsUtf8}
use Rattle.cbsrun_tasks.proofs.ReadApart.{not_toml}
use Rattle.cbsrun_tasks.proofs.file.read_apart.Goals as goal

pub returns-in-Ok-read_document : goal.returns-in-Ok-read_document
returns-in-Ok-read_document c =
    let text_is = c.in-Ok.ensures.cases in
    let utf8 : is_utf8 c.args.bytes.now ≡ true = is_utf8-from_IsUtf8 c.args.bytes.now text_is.1 in
    c.finish.ensures c.args.bytes.now utf8 (rw text_is.0 at c.in-Ok-read_document.ensures.value)

pub returns-in-Err-NotToml : goal.returns-in-Err-NotToml
returns-in-Err-NotToml c =
    let text_is = c.in-Ok.ensures.cases in
    let utf8 : is_utf8 c.args.bytes.now ≡ true = is_utf8-from_IsUtf8 c.args.bytes.now text_is.1 in
    inr (rw c.faulty.ensures (not_toml c.args.bytes.now utf8 (rw text_is.0 at (c.in-Err-NotToml.ensures.value c.in-Err-NotToml.field-0-is))))
