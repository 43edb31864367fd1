use Rattle.std.proofs.Common.{◌<◌, ap, length, string_bytes, arith}
use Rattle.std.proofs.lemmas.List.{length-map}
use Rattle.cbsrun_check_json.proofs.Listed.{name_is, source_is}
use Rattle.cbsrun_check_json.proofs.json.source_of.Goals as goal

pub returns : goal.returns
returns c =
    let t = c.args.terms.now in
    let f = c.args.load.now in
    let loads = c.args.loads.now in
    let place = c.from.result in
    let within : t.server < length c.names.result.now =
    omega (arith, length-map c.names.result.now string_bytes, ap length c.names.ensures.value, c.names.ensures.lawful.named, c.requires) in
    let name = name_is string_bytes c.names.result.now place t.server c.index-names-from.result c.as_str-name.result.now within
    c.from.ensures c.index-names-from.is c.as_str-name.ensures.value in
    rw (source_is f loads t c.as_str-name.result.now c.promised_for.result (rw c.names.ensures.value at name) c.promised_for.ensures) c.source_value.ensures
