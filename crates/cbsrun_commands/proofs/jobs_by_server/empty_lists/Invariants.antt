use Rattle.std.proofs.Common.{◌≡◌, map, replicate, []}
use Rattle.cbsrun_commands.proofs.jobs_by_server.empty_lists.Given as goal

abbrev pub invariant-loop-server : goal.invariant-loop-server
invariant-loop-server l = map (λ jobs. jobs.items) l.lists.items ≡ replicate l._server []
