use Rattle.std.proofs.Common.{sym, arith}
use Rattle.std.specs.Prelude.{string_bytes}
use Rattle.std.proofs.lemmas.List.{length_push}
use Rattle.cbsrun_runs.proofs.Drawings.{map_more}
use Rattle.cbsrun_runs.proofs.jobs.names_of.Goals as goal

pub loop-server-preserved : goal.loop-server-preserved
loop-server-preserved g c =
    let l = c.loop-server in
    let name = c.in_ok-name.field-0 in
    record {
      names = rw c.in_ok-push.ensures.items (map_more string_bytes l.names.items (g.R.Run.run c.args.run.now).names l.server name l.invariant.names
          (sym c.in_ok-name.ensures));
      count = rw c.in_ok-push.ensures.items (let e = length_push l.names.items name in let n = l.invariant.count in omega arith);
    }
