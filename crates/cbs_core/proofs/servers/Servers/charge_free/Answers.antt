use Rattle.std.proofs.Common.{◌≡◌, false, sym, ap, ◌∙◌, arith, rules}
use Rattle.std.proofs.lemmas.List.{get_or_read}
use Rattle.cbs_steps.specs.Faces.{no_face, face_at, ready_by, with_charge}
use Rattle.cbs_lists.proofs.Lists.{written}
use Rattle.cbs_core.proofs.ReadyServers.{lists_set}
use Rattle.cbs_core.proofs.Waiting.{keeps_noted}
use Rattle.cbs_steps.proofs.Waiting.{wake_free}
use Rattle.cbs_core.proofs.servers.Servers.charge_free.Given.{Over}
use Rattle.cbs_core.proofs.servers.Servers.charge_free.Goals as goal

-- the server that is read is the one that is charged
here : (g : Over) (c : goal.After-charge-arg-1 g) → face_at c.args.self.now c.args.server ≡ c.index_mut-it.result.now
here g c =
    let within = rw (← c.self.view_is) at c.requires.within in
    let read = rw c.from.ensures at c.index_mut-it.ensures.value in
    rw (← c.self.view_is) (sym (get_or_read c.self.inside.servers.items c.args.server c.index_mut-it.result.now within read no_face))

pub charge-requires : goal.charge-requires
charge-requires g c =
    let may = rw (here g c) at c.requires.may in
    record { some = may.some; few = may.few; free = may.free; begun = may.begun; room = may.room; counted = let k = may.counted in omega arith }

pub follow-requires : goal.follow-requires
follow-requires g c = record {
  known = let few = c.self.invariant.0 in let within = rw (← c.self.view_is) at c.requires.within in omega arith;
  ordered = c.self.invariant.1.ordered;
  before =
      let within = rw (← c.self.view_is) at c.requires.within in
      let read = rw c.from.ensures at c.index_mut-it.ensures.value in
      c.self.invariant.1.each c.args.server
      ∙ (sym (ap ready_by (get_or_read c.self.inside.servers.items c.args.server c.index_mut-it.result.now within read no_face))
      ∙ sym c.ready_by-before.ensures);
}

pub invariant_of-self : goal.invariant_of-self
invariant_of-self g c =
    let x = c.index_mut-it.result.now in
    let f = c.follow.ensures in
    let within = rw (← c.self.view_is) at c.requires.within in
    let read = rw c.from.ensures at c.index_mut-it.ensures.value in
    let same : face_at c.self.inside.servers.items c.args.server ≡ x = sym (get_or_read c.self.inside.servers.items c.args.server x within read no_face) in
    let free : x.state.throttled ≡ false = rw same at (rw (← c.self.view_is) at c.requires.free) in (
      search rules,
      rw c.from.ensures (lists_set _ _ _ _ _ c.self.invariant.1 within f.ordered (f.here ∙ c.ready_by.ensures) f.others),
      rw c.from.ensures (keeps_noted _ _ _ _ _ _ c.self.invariant.2 within read (wake_free x free) c.note.ensures),
    )

pub returns : goal.returns
returns g c =
    let within = rw (← c.self.view_is) at c.requires.within in
    let read = rw c.from.ensures at c.index_mut-it.ensures.value in
    rw (← c.self.view_is) (written (with_charge c.args.ticks c.args.for_unit) _ _ _ _ _ c.from.ensures within c.index_mut-it.ensures.value c.charge.ensures.face)
