use Rattle.std.specs.Prelude.{string_bytes}
use Rattle.cbsrun_runs.proofs.Servers.{named_at}
use Rattle.cbsrun_runs.proofs.replay.ReplayRun.name.Goals as goal

pub returns : goal.returns
returns c = named_at _ c.args.server (string_bytes c.in_ok-name.name) c.requires c.in_ok-name.ensures.ok
