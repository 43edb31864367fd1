use Rattle.std.proofs.Common.{◌≡◌, ◌<◌, refl, sym, ap, ◌∙◌, get_or, length, string_bytes, arith}
use Rattle.std.proofs.lemmas.List.{length-map}
use Rattle.std.proofs.lemmas.Option.{get_or_from_slice_get, slice_get-get_or}
use Rattle.cbs_rules.specs.declared.mode.Mode.TheVariants.{Soft}
use Rattle.cbsrun_sizing.specs.ServerLoads.{no_load}
use Rattle.serde_json.proofs.Views.{view-Object}
use Rattle.serde_json.specs.Data.{object}
use Rattle.cbsrun_check_json.specs.Json.{server_data, with_figures}
use Rattle.cbsrun_check_json.proofs.Listed.{name_is, server_is}
use Rattle.cbsrun_check_json.proofs.json.server_at.Goals as goal

pub unwrap-mode-requires : goal.unwrap-mode-requires
unwrap-mode-requires c =
    let here : c.args.server < length c.args.load.now.modes = omega (arith, c.names.ensures.lawful.moded, c.requires.held) in
    rw (c.get.ensures, c.modes.ensures, slice_get-get_or c.args.load.now.modes c.args.server Soft here)

pub unwrap-reservation-requires : goal.unwrap-reservation-requires
unwrap-reservation-requires c =
    rw (c.get-2.ensures.value, c.plan.ensures, slice_get-get_or c.args.load.now.plan.rates c.args.server (record { budget = 0; period = 0 }) c.requires.held)

pub returns : goal.returns
unfolding server_data
returns c =
    let s = c.args.server in
    let f = c.args.load.now in
    let budgets = c.args.budgets.now in
    let loads = c.args.loads.now in
    let place = c.from-place.result in
    let within : s < length c.names.result.now =
    omega (arith, length-map c.names.result.now string_bytes, ap length c.names.ensures.value, c.names.ensures.lawful.named, c.requires.held) in
    let name = name_is string_bytes c.names.result.now place s c.index-names-place.result c.as_str-name.result.now within
    c.from-place.ensures c.index-names-place.is c.as_str-name.ensures.value in
    let mode = get_or_from_slice_get f.modes s c.unwrap-mode.result Soft (rw c.modes.ensures at (sym c.get.ensures ∙ c.unwrap-mode.ensures)) in
    let rate = get_or_from_slice_get f.plan.rates s c.unwrap-reservation.result (record { budget = 0; period = 0 })
    (rw c.plan.ensures at (sym c.get-2.ensures.value ∙ c.unwrap-reservation.ensures)) in
    let budget : get_or budgets s 0 ≡ get_or budgets place 0 = rw c.from-place.ensures refl in
    let load : get_or loads s no_load ≡ get_or loads place no_load = rw c.from-place.ensures refl in
    let least = rw c.sources.ensures.value at c.least_within-within.ensures in
    let figures = with_figures c.least_within-within.result (get_or loads place no_load) in
    rw (server_is f budgets loads s c.as_str-name.result.now c.unwrap-mode.result c.unwrap-reservation.result (get_or budgets place 0)
    c.least_within-within.result (get_or loads place no_load) (rw c.names.ensures.value at name) mode rate budget least load)
    (view-Object c.put_figures.new.members ∙ ap object (c.in_ok-put_figures.ensures ∙ ap figures c.in_ok-members.ensures))
