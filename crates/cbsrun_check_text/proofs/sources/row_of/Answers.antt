use Rattle.std.proofs.Common.{◌≡◌, ◌<◌, refl, sym, ap, ◌∙◌, get_or, length, string_bytes, arith}
use Rattle.std.proofs.lemmas.List.{length-map}
use Rattle.std.proofs.lemmas.Option.{get_or_from_slice_get, slice_get-get_or}
use Rattle.cbsrun_sizing.specs.ServerLoads.{no_load}
use Rattle.cbsrun_check_text.proofs.Texts.{name_is, source_row_is}
use Rattle.cbsrun_check_text.proofs.sources.row_of.Goals as goal

pub unwrap-rate-requires : goal.unwrap-rate-requires
unwrap-rate-requires c =
    rw (c.get.ensures.value, c.plan.ensures, slice_get-get_or c.args.load.now.plan.rates c.args.terms.now.server (record { budget = 0; period = 0 }) c.requires.held)

pub returns : goal.returns
returns c =
    let t = c.args.terms.now in
    let f = c.args.load.now in
    let loads = c.args.loads.now in
    let place = c.from-server.result in
    let within : t.server < length c.names.result.now =
    omega (arith, length-map c.names.result.now string_bytes, ap length c.names.ensures.value, c.names.ensures.lawful.named, c.requires.held) in
    let name = name_is string_bytes c.names.result.now place t.server c.index-names-server.result c.as_str-name.result.now within
    c.from-server.ensures c.index-names-server.is c.as_str-name.ensures.value in
    let rate = get_or_from_slice_get f.plan.rates t.server c.unwrap-rate.result (record { budget = 0; period = 0 })
    (rw c.plan.ensures at (sym c.get.ensures.value ∙ c.unwrap-rate.ensures)) in
    let load : get_or loads t.server no_load ≡ get_or loads place no_load = rw c.from-server.ensures refl in
    rw (source_row_is f.tick f.names f.plan.rates loads t c.as_str-name.result.now c.unwrap-rate.result (get_or loads place no_load)
    (rw c.names.ensures.value at name) rate load) (rw c.tick.ensures at c.source_row.ensures)
