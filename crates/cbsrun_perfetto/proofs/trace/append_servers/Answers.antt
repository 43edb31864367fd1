use Rattle.std.proofs.Common.{◌≡◌, ◌∙◌, ◌+◌, ◌++◌, ap, arith, string_bytes, sym, take}
use Rattle.cbsrun_perfetto.specs.Traces.{numbered, server_text}
use Rattle.cbsrun_perfetto.proofs.Growing.{grown}
use Rattle.cbsrun_perfetto.proofs.Numbering.{numbered_next}
use Rattle.cbsrun_perfetto.proofs.trace.append_servers.Goals as goal

pub loop-place-preserved : goal.loop-place-preserved
loop-place-preserved c =
    let n = c.args.nanoseconds in
    let ds = c.args.servers.now in
    let i = c.loop-place.place in
    let d = c.index-servers-place.result in
    let number : i ≡ 0 + i = omega arith in
    let front = numbered (server_text n) 0 (take i ds) in
    grown _ _ _ front (server_text n i d) c.in_ok-append_server.ensures c.loop-place.invariant
    ∙ ap (λ t. string_bytes c.args.text.now ++ t) (ap (λ k. front ++ server_text n k d) number
    ∙ (ap (λ x. front ++ server_text n (0 + i) x) c.index-servers-place.is ∙ sym (numbered_next (server_text n) 0 ds i d c.loop-place-test.true)))
