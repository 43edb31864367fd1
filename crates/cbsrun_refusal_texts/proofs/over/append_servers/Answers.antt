use Rattle.std.proofs.Common.{map}
use Rattle.toml.specs.View.{view}
use Rattle.cbsrun_refusal_texts.proofs.Listed.{servers_more}
use Rattle.cbsrun_refusal_texts.proofs.Pages.{then, as_text}
use Rattle.cbsrun_refusal_texts.proofs.over.append_servers.Goals as goal

pub loop-place-preserved : goal.loop-place-preserved
loop-place-preserved c =
    let end = c.append_server.new.page in
    as_text c.args.page.now end _ _
    (then c.args.page.now c.loop-place.page end _ _ c.loop-place.invariant
    (then c.loop-place.page c.push.new.self end _ _ c.push.ensures c.append_server.ensures))
    (rw c.separator.ensures (servers_more (map view c.args.document.servers.now) c.args.servers.now c.loop-place.place 0 c.loop-place-test.true))
