use Rattle.std.proofs.Common.{◌≡◌, refl, sym, ◌∙◌, get_or, string_bytes, arith}
use Rattle.std.specs.Prelude.{map}
use Rattle.std.proofs.lemmas.Option.{get_or_from_slice_get, slice_get-get_or}
use Rattle.cbs_rules.specs.declared.mode.Mode.TheVariants.{Soft}
use Rattle.cbsrun_check_text.proofs.Texts.{name_is, row_is}
use Rattle.cbsrun_check_text.proofs.servers.row_at.Goals as goal

pub unwrap-mode-requires : goal.unwrap-mode-requires
unwrap-mode-requires c = rw (c.get.ensures, slice_get-get_or c.args.modes.now c.args.server Soft (omega arith))

pub unwrap-rate-requires : goal.unwrap-rate-requires
unwrap-rate-requires c = rw (c.get-2.ensures.value, slice_get-get_or c.args.plan.now.rates c.args.server (record { budget = 0; period = 0 }) c.requires.held)

pub returns : goal.returns
returns c =
    let s = c.args.server in
    let names = map string_bytes c.args.names.now in
    let modes = c.args.modes.now in
    let rates = c.args.plan.now.rates in
    let budgets = c.args.budgets.now in
    let name = name_is string_bytes c.args.names.now c.from.result s c.index-names-from.result c.as_str-name.result.now (omega arith)
    c.from.ensures c.index-names-from.is c.as_str-name.ensures.value in
    let mode = get_or_from_slice_get modes s c.unwrap-mode.result Soft (sym c.get.ensures ∙ c.unwrap-mode.ensures) in
    let rate = get_or_from_slice_get rates s c.unwrap-rate.result (record { budget = 0; period = 0 })
    (sym c.get-2.ensures.value ∙ c.unwrap-rate.ensures) in
    let budget : get_or budgets s 0 ≡ get_or budgets c.from-2.result 0 = rw c.from-2.ensures refl in
    rw (row_is c.args.tick names modes rates budgets s c.as_str-name.result.now c.unwrap-mode.result c.unwrap-rate.result
    (get_or budgets c.from-2.result 0) name mode rate budget) c.server_row.ensures
