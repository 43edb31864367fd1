use Rattle.std.proofs.Common.{◌<◌, length, string_bytes, arith}
use Rattle.std.proofs.lemmas.Bool.Decides.{nat_tests}
use Rattle.std.proofs.lemmas.Result.{IfOk-equal}
use Rattle.cbsrun_roundings.proofs.Rows.{text_of}
use Rattle.cbsrun_roundings.proofs.table.append_roundings.Goals as goal

pub returns : goal.returns
returns c =
    let tested = c.if-is_empty.ensures in
    let some : 0 < length c.args.rounded.now = grind (arith, nat_tests) in
    IfOk-equal c.append_more.result _ _ _ c.append_more.ensures
    (text_of c.args.tick c.args.rounded.now c.min-shown.result (string_bytes c.args.text.now) (string_bytes c.append_columns.new.text) some
    c.min-shown.ensures (rw (c.deref.ensures.value, c.in_ok-rows.ensures, c.in_ok-push_str.ensures.bytes) at c.in_ok-append_columns.ensures))
