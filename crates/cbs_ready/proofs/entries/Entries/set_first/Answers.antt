use Rattle.std.proofs.Common.{◌<◌, length, length-drop, arith}
use Rattle.std.proofs.lemmas.List.{drop-set, drop-drop}
use Rattle.cbs_ready.proofs.entries.Entries.set_first.Goals as goal

pub returns : goal.returns
returns g c =
    let es = c.self.inside.slots.items in
    let first = c.self.inside.first in
    let some = rw (← c.self.view_is) at c.requires in
    let lt : first < length es = omega (arith, some, length-drop first es) in
    rw (c.index_mut.ensures, c.write.ensures, ← c.self.view_is, drop-drop 1 first es) (drop-set es first c.args.entry lt)
