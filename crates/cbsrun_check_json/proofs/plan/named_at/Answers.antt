use Rattle.std.proofs.Common.{◌≡◌, ◌<◌, get_or, length, refl, sym, ap, ◌∙◌, string_bytes, arith}
use Rattle.std.proofs.lemmas.Option.{get_or_from_slice_get, slice_get-get_or}
use Rattle.std.specs.Prelude.{map}
use Rattle.serde_json.proofs.Views.{view-Object}
use Rattle.serde_json.specs.Data.{object}
use Rattle.cbs_rules.specs.declared.mode.Mode.TheVariants.{Soft}
use Rattle.cbsrun_check_json.proofs.Listed.{name_is, named_is}
use Rattle.cbsrun_check_json.proofs.plan.named_at.Goals as goal

pub unwrap-mode-requires : goal.unwrap-mode-requires
unwrap-mode-requires c =
    let here : c.args.server < length c.args.modes.now = omega (arith, c.requires.moded, c.requires.held) in
    rw (c.get.ensures, slice_get-get_or c.args.modes.now c.args.server Soft here)

pub unwrap-reservation-requires : goal.unwrap-reservation-requires
unwrap-reservation-requires c =
    rw (c.get-2.ensures.value, slice_get-get_or c.args.plan.now.rates c.args.server (record { budget = 0; period = 0 }) c.requires.held)

pub returns : goal.returns
returns c =
    let s = c.args.server in
    let names = c.args.names.now in
    let modes = c.args.modes.now in
    let plan = c.args.plan.now in
    let budgets = c.args.budgets.now in
    let place = c.from-place.result in
    let within : s < length names = omega (arith, c.requires.named, c.requires.held) in
    let name = name_is string_bytes names place s c.index-names-place.result c.as_str-name.result.now within
    c.from-place.ensures c.index-names-place.is c.as_str-name.ensures.value in
    let mode = get_or_from_slice_get modes s c.unwrap-mode.result Soft (sym c.get.ensures ∙ c.unwrap-mode.ensures) in
    let rate = get_or_from_slice_get plan.rates s c.unwrap-reservation.result (record { budget = 0; period = 0 })
    (sym c.get-2.ensures.value ∙ c.unwrap-reservation.ensures) in
    let budget : get_or budgets s 0 ≡ get_or budgets place 0 = rw c.from-place.ensures refl in
    rw (named_is (map string_bytes names) modes plan budgets s c.as_str-name.result.now c.unwrap-mode.result c.unwrap-reservation.result
    (get_or budgets place 0) name mode rate budget) (view-Object c.in_ok-members.members ∙ ap object c.in_ok-members.ensures)
