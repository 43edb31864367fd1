use Rattle.std.proofs.Common.{◌≡◌, ◌∙◌, ap, sym, codes, false, is_some, true, Ok}
use Rattle.std.specs.Str.{is_utf8}
use Rattle.std.proofs.lemmas.Str.{is_utf8-from_IsUtf8}
use Rattle.toml.specs.Data.{get_member}
use Rattle.toml.specs.View.{table_view}
use Rattle.cbsrun_toml_tables.specs.Documents.{has_key}
use Rattle.cbsrun_toml.proofs.Puts.{has_key as key_found}
use Rattle.cbsrun_tasks.proofs.ReadApart.{load_key, whole_table}
use Rattle.cbsrun_tasks.proofs.kinds.find_apart.Goals as goal

pub returns-then-not-contains_key : goal.returns-then-not-contains_key
returns-then-not-contains_key c =
    let bytes = c.args.bytes.now in
    let doc = c.in-Ok-read_document.document in
    let text_is = c.in-Ok.ensures.cases in
    let utf8 : is_utf8 bytes ≡ true = is_utf8-from_IsUtf8 bytes text_is.1 in
    let parsed = rw text_is.0 at c.in-Ok-read_document.ensures.value in
    let key : is_some (get_member (codes "load") (table_view doc.table)) ≡ false =
    sym (key_found (codes "load") doc.table.entries) ∙ (sym c.contains_key.ensures ∙ c.if-not-contains_key.true) in
    let lacks : has_key (codes "load") bytes ≡ Ok false = load_key doc doc.read bytes utf8 parsed ∙ ap (λ b. Ok b) key in
    c.tasks_found.ensures bytes lacks (rw c.in_ok-finish-in-Ok-read_document.was at (c.finish.ensures bytes utf8 parsed))

pub returns-in-None : goal.returns-in-None
returns-in-None c =
    let bytes = c.args.bytes.now in
    let doc = c.in-Ok-read_document.document in
    let text_is = c.in-Ok.ensures.cases in
    let utf8 : is_utf8 bytes ≡ true = is_utf8-from_IsUtf8 bytes text_is.1 in
    let parsed = rw text_is.0 at c.in-Ok-read_document.ensures.value in
    let key : is_some (get_member (codes "load") (table_view doc.table)) ≡ true =
    sym (key_found (codes "load") doc.table.entries) ∙ (sym c.contains_key.ensures ∙ c.if-not-contains_key.false) in
    (load_key doc doc.read bytes utf8 parsed ∙ ap (λ b. Ok b) key, whole_table bytes (table_view doc.table) utf8 (rw c.in-None.is at parsed))
