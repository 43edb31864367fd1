use Rattle.std.proofs.Common.{◌≡◌, arith, string_bytes}
use Rattle.std.proofs.lemmas.Grind.{common_steps}
use Rattle.cbsrun_commands.specs.Drawings.{no_server_line}
use Rattle.cbsrun_commands.proofs.Wanted.{begins_as}
use Rattle.cbsrun_commands.proofs.servers.missing_text.Goals as goal

pub returns : goal.returns
unfolding no_server_line
returns c =
    let line : string_bytes c.writeln.new.self ≡ no_server_line c.args.name.now = grind (arith, common_steps) in
    begins_as _ _ _ line c.in_ok-append_meant.ensures
