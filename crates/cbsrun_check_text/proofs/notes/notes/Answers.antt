use Rattle.std.proofs.Common.{◌≡◌, ◌<◌, refl, sym, ap, ◌∙◌, get_or, length, string_bytes, arith}
use Rattle.std.proofs.lemmas.Grind.{common_steps}
use Rattle.std.proofs.lemmas.List.{length-map}
use Rattle.std.proofs.lemmas.Option.{get_or_from_slice_get}
use Rattle.cbsrun_sizing.specs.ServerLoads.{no_load}
use Rattle.cbsrun_check_text.proofs.Texts.{name_is, note_more}
use Rattle.cbsrun_check_text.proofs.notes.notes.Goals as goal

pub loop-server-preserved : goal.loop-server-preserved
loop-server-preserved c =
    let s = c.loop-server.server in
    let f = c.args.load.now in
    let loads = c.args.loads.now in
    let place = c.from-at.result in
    let within : s < length c.names-names.result.now =
    omega (
      arith,
      length-map c.names-names.result.now string_bytes,
      ap length c.names-names.ensures.value,
      c.names-names.ensures.lawful.named,
      ap (λ p. length p.rates) c.plan-plan.ensures,
    ) in
    let name = name_is string_bytes c.names-names.result.now place s c.index-names-at.result c.as_str.result.now within
    c.from-at.ensures c.index-names-at.is c.as_str.ensures.value in
    let rate = get_or_from_slice_get f.plan.rates s c.unwrap-rate.result (record { budget = 0; period = 0 })
    (rw c.plan-plan.ensures at (sym c.get.ensures.value ∙ c.unwrap-rate.ensures)) in
    let load : get_or loads s no_load ≡ get_or loads place no_load = rw c.from-at.ensures refl in
    let within = rw c.sources.ensures.value at c.least_within-within.ensures in
    note_more f loads s (string_bytes c.loop-server.text) (string_bytes c.append_note.new.text) c.as_str.result.now c.unwrap-rate.result
    c.least_within-within.result (get_or loads place no_load) (rw (c.backlog.ensures.value, c.tick.ensures) at c.in_ok-append_note.ensures) c.loop-server.invariant
    (rw c.names-names.ensures.value at name) rate within load

pub loop-server-init : goal.loop-server-init
loop-server-init c = grind (arith, common_steps)

pub returns : goal.returns
returns c = grind (arith, common_steps)
