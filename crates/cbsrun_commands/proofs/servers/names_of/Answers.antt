use Rattle.std.proofs.Common.{string_bytes}
use Rattle.cbsrun_commands.proofs.Wanted.{map_taken}
use Rattle.cbsrun_commands.proofs.servers.names_of.Goals as goal

pub loop-server-preserved : goal.loop-server-preserved
loop-server-preserved g c =
    let run = g.R.Run.run c.args.run.now in
    let l = c.loop-server in
    rw c.in_ok-push.ensures.items (map_taken string_bytes l.names.items run.names l.server c.in_ok-name.field-0 l.invariant c.in_ok-name.ensures)
