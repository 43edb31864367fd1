use Rattle.std.proofs.Common.{map, string_bytes}
use Rattle.cbsrun_commands.specs.Drawings.{load_drawer}
use Rattle.cbsrun_commands.proofs.Drawings.{ends_drawing}
use Rattle.cbsrun_commands.proofs.pictures.draw_load_within.Goals as goal

pub returns : goal.returns
returns g c =
    rw (← c.is_closed.ensures) (ends_drawing (load_drawer c.args.changes c.args.asked (map string_bytes c.args.servers.now) c.args.name.now) c.args.bytes.now _ _ _ _ _ c.draw_load-ended.result c.status_of_drawing.result
    c.draw_load-ended.ensures c.status_of_drawing.ensures)
