use Rattle.std.proofs.Common.{◌∙◌, string_bytes, sym}
use Rattle.std.specs.Prelude.{bytes_eq}
use Rattle.cbsrun_chart.proofs.Choosing.{any_map}
use Rattle.cbsrun_commands.proofs.servers.is_among.Goals as goal

pub returns : goal.returns
returns c = c.has.ensures ∙ sym (any_map string_bytes (λ one. bytes_eq one c.args.name.now) c.args.names.now)
