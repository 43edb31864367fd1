use Rattle.cbsrun_commands.proofs.Wanted.{grown}
use Rattle.cbsrun_commands.proofs.servers.append_meant.Goals as goal

pub returns-in-Some : goal.returns-in-Some
returns-in-Some c = grown c.writeln.result _ _ _ c.writeln.ensures.bytes
