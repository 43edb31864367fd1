use Rattle.std.proofs.Common.{◌≡◌, ◌∙◌, ◌+◌, ◌++◌, ap, arith, take, sym}
use Rattle.cbsrun_perfetto.specs.Traces.{events_of, numbered}
use Rattle.cbsrun_perfetto.proofs.Numbering.{numbered_next}
use Rattle.cbsrun_perfetto.proofs.trace.all_events.Goals as goal

pub loop-place-preserved : goal.loop-place-preserved
loop-place-preserved c =
    let f = events_of c.args.window in
    let ds = c.args.servers.now in
    let i = c.loop-place.place in
    let d = c.index-servers-place.result in
    let number : i + 1 ≡ 1 + i = omega arith in
    c.in_ok-append_events.ensures ∙ (ap (λ t. t ++ f (i + 1) d) c.loop-place.invariant
    ∙ (ap (λ n. numbered f 1 (take i ds) ++ f n d) number ∙ (ap (λ x. numbered f 1 (take i ds) ++ f (1 + i) x) c.index-servers-place.is
    ∙ sym (numbered_next f 1 ds i d c.loop-place-test.true))))
