use Rattle.std.proofs.Common.{string_bytes}
use Rattle.std.specs.Prelude.{bytes_eq}
use Rattle.cbsrun_chart.proofs.Choosing.{any_map}
use Rattle.cbsrun_chart.proofs.picture.is_named.Goals as goal

pub returns : goal.returns
returns c =
    let same = any_map string_bytes (λ name. bytes_eq name (string_bytes c.args.server.now.name)) c.args.names.now in
    rw same (rw c.deref.ensures at c.is_among.ensures)
