use Rattle.std.proofs.Common.{◌<◌}
use Rattle.cbs_ready.specs.declared.entries.Entry.{Entry}
use Rattle.cbs_ready.proofs.Ordered.{listed-here, listed-other, place_for, ordered-entered, All-entered}
use Rattle.cbs_ready.proofs.ready_list.ReadyList.insert.Goals as goal

pub insert-requires-clause-room : goal.insert-requires-clause-room
insert-requires-clause-room g c =
    let x : Entry = record { deadline = c.args.deadline; server = c.args.server } in
    place_for 64 x c.self.inside.entries c.self.invariant.0 c.self.invariant.1 (rw (← c.self.view_is) at c.requires.absent) c.requires.known

pub invariant_of-self : goal.invariant_of-self
invariant_of-self g c =
    let x : Entry = record { deadline = c.args.deadline; server = c.args.server } in
    let es = c.self.inside.entries in
    rw c.insert.ensures (
      ordered-entered x es c.self.invariant.0 (rw (← c.self.view_is) at c.requires.absent),
      All-entered (λ e. e.server < 64) x es c.requires.known c.self.invariant.1,
    )

pub returns-clause-here : goal.returns-clause-here
returns-clause-here g c =
    let x : Entry = record { deadline = c.args.deadline; server = c.args.server } in
    rw c.insert.ensures (listed-here x c.self.inside.entries (rw (← c.self.view_is) at c.requires.absent))

pub returns-clause-others : goal.returns-clause-others
returns-clause-others g c = λ t ne.
    let x : Entry = record { deadline = c.args.deadline; server = c.args.server } in
    rw (← c.self.view_is, c.insert.ensures) (listed-other x c.self.inside.entries t ne)

pub returns-clause-ordered : goal.returns-clause-ordered
returns-clause-ordered g c = (invariant_of-self g c).0
