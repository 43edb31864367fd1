use Rattle.std.proofs.Common.{◌≡◌, ◌<◌, ap, ◌∙◌, get_or, length}
use Rattle.serde_json.specs.View.{view}
use Rattle.cbsrun_check_json.specs.Json.{source_of}
use Rattle.cbsrun_json.proofs.Listed.{listed_more}
use Rattle.cbsrun_check_json.proofs.json.sources_values.Goals as goal

pub source_of-requires : goal.source_of-requires
source_of-requires c =
    let i = c.loop-terms.terms-index in
    let t = c.terms-item.result in
    let f = c.args.load.now in
    let is : t ≡ get_or f.sources i t = rw c.sources-terms-items.ensures.value at c.terms-item.is in
    let here : i < length f.sources = rw c.sources-terms-items.ensures.value at c.loop-terms-test.true in
    let of_server : (get_or f.sources i t).server < length f.plan.rates = (c.sources-terms-items.ensures.lawful.lawful i t here).named in
    rw (← is) at of_server

pub loop-terms-preserved : goal.loop-terms-preserved
loop-terms-preserved c =
    let i = c.loop-terms.terms-index in
    let t = c.terms-item.result in
    let f = c.args.load.now in
    let source = source_of f c.args.loads.now in
    let is : t ≡ get_or f.sources i t = rw c.sources-terms-items.ensures.value at c.terms-item.is in
    let here : i < length f.sources = rw c.sources-terms-items.ensures.value at c.loop-terms-test.true in
    rw c.in_ok-push.ensures.items
    (listed_more view source c.loop-terms.values.items c.in_ok-source_of.field-0 f.sources i t here
    c.loop-terms.invariant (c.in_ok-source_of.ensures ∙ ap source is))
