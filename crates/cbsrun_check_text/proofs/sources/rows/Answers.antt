use Rattle.std.proofs.Common.{◌≡◌, ◌<◌, ap, ◌∙◌, get_or, length, arith}
use Rattle.std.proofs.lemmas.Grind.{common_steps}
use Rattle.cbsrun_simulate.proofs.Apart.{distance_some}
use Rattle.cbsrun_check_text.specs.Tables.{sources_heading, row_of}
use Rattle.cbsrun_check_text.proofs.Jobs.{job_short}
use Rattle.cbsrun_check_text.proofs.Rows.{listed_more}
use Rattle.cbsrun_check_text.proofs.sources.rows.Goals as goal

pub row_of-requires-clause-held : goal.row_of-requires-clause-held
row_of-requires-clause-held c =
    let i = c.loop-terms.terms-index in
    let t = c.terms-item.result in
    let f = c.args.load.now in
    let is : t ≡ get_or f.sources i t = rw c.sources-terms-items.ensures.value at c.terms-item.is in
    let here : i < length f.sources = rw c.sources-terms-items.ensures.value at c.loop-terms-test.true in
    let of_server : (get_or f.sources i t).server < length f.plan.rates = (c.sources-terms-items.ensures.lawful.lawful i t here).named in
    rw (← is) at of_server

pub row_of-requires-clause-apart : goal.row_of-requires-clause-apart
row_of-requires-clause-apart c =
    let i = c.loop-terms.terms-index in
    let t = c.terms-item.result in
    let f = c.args.load.now in
    let is : t ≡ get_or f.sources i t = rw c.sources-terms-items.ensures.value at c.terms-item.is in
    let here : i < length f.sources = rw c.sources-terms-items.ensures.value at c.loop-terms-test.true in
    let little = (c.sources-terms-items.ensures.lawful.lawful i t here).lawful.little_jitter in
    rw (← is) at (distance_some (get_or f.sources i t) little)

pub row_of-requires-clause-short : goal.row_of-requires-clause-short
row_of-requires-clause-short c =
    let i = c.loop-terms.terms-index in
    let t = c.terms-item.result in
    let f = c.args.load.now in
    let is : t ≡ get_or f.sources i t = rw c.sources-terms-items.ensures.value at c.terms-item.is in
    let here : i < length f.sources = rw c.sources-terms-items.ensures.value at c.loop-terms-test.true in
    let source = c.sources-terms-items.ensures.lawful.lawful i t here in
    rw is (job_short (length f.plan.rates) (get_or f.sources i t) source)

pub loop-terms-preserved : goal.loop-terms-preserved
loop-terms-preserved c =
    let i = c.loop-terms.terms-index in
    let t = c.terms-item.result in
    let f = c.args.load.now in
    let row = row_of f.tick f.names f.plan.rates c.args.loads.now in
    let is : t ≡ get_or f.sources i t = rw c.sources-terms-items.ensures.value at c.terms-item.is in
    let here : i < length f.sources = rw c.sources-terms-items.ensures.value at c.loop-terms-test.true in
    rw c.in_ok-push-2.ensures.items
    (listed_more (λ r. r.items) row sources_heading c.loop-terms.rows.items c.in_ok-row_of.field-0 f.sources i t here
    c.loop-terms.invariant (c.in_ok-row_of.ensures ∙ ap row is))

pub returns : goal.returns
returns c = grind (arith, common_steps)

pub loop-terms-init : goal.loop-terms-init
loop-terms-init c = grind (arith, common_steps)
