use Rattle.std.proofs.Common.{sym}
use Rattle.std.proofs.lemmas.List.{drop-drop}
use Rattle.cbs_ready.proofs.entries.Entries.remove_first.Goals as goal

pub returns : goal.returns
returns g c = rw (← c.self.view_is) (sym (drop-drop 1 c.self.inside.first c.self.inside.slots.items))
