use Rattle.std.proofs.Common.{◌≡◌, ◌∙◌, true, rules, arith}
use Rattle.std.proofs.lemmas.Grind.{common_steps}
use Rattle.cbs_steps.specs.Faces.{with_unit, is_ready}
use Rattle.cbs_lists.proofs.Lists.{written}
use Rattle.cbs_core.proofs.ReadyServers.{chosen_first, lists_same, lists_set}
use Rattle.cbs_core.proofs.Waiting.{keeps_noted, keeps_ready}
use Rattle.cbs_steps.proofs.Waiting.{wake_ready}
use Rattle.cbs_core.proofs.servers.Servers.use_tick.Goals as goal

pub use_tick-requires-clause-ready : goal.use_tick-requires-clause-ready
use_tick-requires-clause-ready g c =
    let read = rw c.from.ensures at c.index_mut-it.ensures.value in
    let first = chosen_first _ _ _ _ c.self.invariant.1 (rw (← c.self.view_is) at c.requires.chosen) read in
    first.ready

pub returns-then-use_tick : goal.returns-then-use_tick
returns-then-use_tick g c =
    let read = rw c.from.ensures at c.index_mut-it.ensures.value in
    let first = chosen_first _ _ _ _ c.self.invariant.1 (rw (← c.self.view_is) at c.requires.chosen) read in
    rw (← c.self.view_is) (written (with_unit c.args.done) _ _ _ _ _ c.from.ensures first.within c.index_mut-it.ensures.value c.use_tick.ensures.face)

pub invariant_of-self : goal.invariant_of-self
invariant_of-self g c =
    let old = c.self.inside in
    let stays = c.use_tick.ensures.stays c.if-use_tick.true in
    let read = rw c.from.ensures at c.index_mut-it.ensures.value in
    let first = chosen_first _ _ _ _ c.self.invariant.1 (rw (← c.self.view_is) at c.requires.chosen) read in (
      search rules,
      rw c.from.ensures (lists_same _ _ _ _ _ c.self.invariant.1 first.within read (rw (stays.0, first.ready, stays.1))),
      rw c.from.ensures (keeps_ready _ _ _ _ _ c.self.invariant.2 first.within read first.ready stays.0),
    )

pub follow_first-requires : goal.follow_first-requires
follow_first-requires g c =
    let read = rw c.from.ensures at c.index_mut-it.ensures.value in
    let first = chosen_first _ _ _ _ c.self.invariant.1 (rw (← c.self.view_is) at c.requires.chosen) read in
    first.first

pub invariant_of-self-then-is_none : goal.invariant_of-self-then-is_none
invariant_of-self-then-is_none g c =
    let f = c.follow_first.ensures in
    let read = rw c.from.ensures at c.index_mut-it.ensures.value in
    let first = chosen_first _ _ _ _ c.self.invariant.1 (rw (← c.self.view_is) at c.requires.chosen) read in (
      search rules,
      rw c.from.ensures (lists_set _ _ _ _ _ c.self.invariant.1 first.within f.ordered (f.here ∙ c.ready_by-ready_by.ensures) f.others),
      rw c.from.ensures (keeps_noted _ _ _ _ _ _ c.self.invariant.2 first.within read (wake_ready c.index_mut-it.result.now first.ready) c.note.ensures),
    )

pub invariant_of-self-else-is_none : goal.invariant_of-self-else-is_none
invariant_of-self-else-is_none g c =
    let f = c.follow_first.ensures in
    let read = rw c.from.ensures at c.index_mut-it.ensures.value in
    let first = chosen_first _ _ _ _ c.self.invariant.1 (rw (← c.self.view_is) at c.requires.chosen) read in
    let is : is_ready c.use_tick.new.self ≡ true = grind (arith, common_steps) in (
      search rules,
      rw c.from.ensures (lists_set _ _ _ _ _ c.self.invariant.1 first.within f.ordered (f.here ∙ c.ready_by-ready_by.ensures) f.others),
      rw c.from.ensures (keeps_ready _ _ _ _ _ c.self.invariant.2 first.within read first.ready is),
    )

pub returns-then-is_none : goal.returns-then-is_none
returns-then-is_none g c =
    let read = rw c.from.ensures at c.index_mut-it.ensures.value in
    let first = chosen_first _ _ _ _ c.self.invariant.1 (rw (← c.self.view_is) at c.requires.chosen) read in
    rw (← c.self.view_is) (written (with_unit c.args.done) _ _ _ _ _ c.from.ensures first.within c.index_mut-it.ensures.value c.use_tick.ensures.face)

pub returns-else-is_none : goal.returns-else-is_none
returns-else-is_none g c =
    let read = rw c.from.ensures at c.index_mut-it.ensures.value in
    let first = chosen_first _ _ _ _ c.self.invariant.1 (rw (← c.self.view_is) at c.requires.chosen) read in
    rw (← c.self.view_is) (written (with_unit c.args.done) _ _ _ _ _ c.from.ensures first.within c.index_mut-it.ensures.value c.use_tick.ensures.face)

pub index_mut-it-requires : goal.index_mut-it-requires
index_mut-it-requires g c = grind (arith, common_steps)

pub use_tick-requires-clause-some : goal.use_tick-requires-clause-some
use_tick-requires-clause-some g c = grind (arith, common_steps)

pub use_tick-requires-clause-room : goal.use_tick-requires-clause-room
use_tick-requires-clause-room g c = grind (arith, common_steps)
