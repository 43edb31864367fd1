use Rattle.std.proofs.Common.{map, string_bytes}
use Rattle.cbsrun_commands.specs.Records.{record_drawer}
use Rattle.cbsrun_commands.proofs.Drawings.{ends_drawing}
use Rattle.cbsrun_commands.proofs.records.draw_record_within.Goals as goal

pub returns : goal.returns
returns g c =
    rw (← c.is_closed.ensures) (ends_drawing (record_drawer c.args.asked (map string_bytes c.args.servers.now) c.args.name.now) c.args.bytes.now _ _ _ _ _ c.draw_record-ended.result c.status_of_drawing.result
    c.draw_record-ended.ensures c.status_of_drawing.ensures)
