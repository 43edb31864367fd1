use Rattle.std.proofs.Common.{◌≡◌, ◌++◌, length, take, drop, map, set, true, sym, ◌∙◌, ap, arith}
use Rattle.std.proofs.lemmas.List.{get_or_read, take_all, drop_all, append-nil, length-map, length-set}
use Rattle.cbs_steps.specs.Faces.{no_face, face_at, with_charge, with_replenishment}
use Rattle.cbs_lists.proofs.Lists.{written}
use Rattle.cbs_core.proofs.ReadyServers.{lists_same, waits_unready}
use Rattle.cbs_core.proofs.servers.Servers.charge_throttled.Given.{Over}
use Rattle.cbs_core.proofs.servers.Servers.charge_throttled.Goals as goal

-- the server that is read is the one that is charged
here : (g : Over) (c : goal.After-index_mut g) → face_at c.args.self.now c.args.server ≡ c.index_mut.result.now
here g c =
    let within = rw (← c.self.view_is) at c.requires.within in
    let read = rw c.from.ensures at c.index_mut.ensures.value in
    rw (← c.self.view_is) (sym (get_or_read c.self.inside.servers.items c.args.server c.index_mut.result.now within read no_face))

pub charge-requires : goal.charge-requires
charge-requires g c =
    let may = rw (here g c) at c.requires.may in
    record { some = may.some; few = may.few; free = may.free; begun = may.begun; room = may.room; counted = let k = may.counted in omega arith }

pub replenish_all-self-inside-requires : goal.replenish_all-self-inside-requires
replenish_all-self-inside-requires g c =
    let items = c.self.inside.servers.items in
    let x = c.index_mut.result.now in
    let y = c.charge.new.self in
    let within = rw (← c.self.view_is) at c.requires.within in
    let read = rw c.from.ensures at c.index_mut.ensures.value in
    let here : face_at items c.args.server ≡ x = sym (get_or_read items c.args.server x within read no_face) in
    let t : x.state.throttled ≡ true = rw here at (rw (← c.self.view_is) at c.requires.throttled) in
    let same = waits_unready y (c.charge.ensures.waits t) ∙ sym (waits_unready x t) in
    let few = c.self.invariant.0 in
    record {
      clock = c.requires.clock;
      few = rw c.deref_mut.ensures.value (omega (arith, length-set items c.from.result y));
      listed = rw (c.deref_mut.ensures.value, c.from.ensures) (lists_same items c.self.inside.ready c.args.server x y c.self.invariant.1 within read same);
    }

-- there are as many servers after the replenishment
size : (g : Over) (c : goal.After-self-3-1 g) → length c.replenish_all-self-inside.new.servers ≡ length c.self.inside.servers.items
size g c = ap length c.replenish_all-self-inside.ensures.servers ∙ length-map c.deref_mut.result.now (with_replenishment c.args.now)
    ∙ ap length c.deref_mut.ensures.value ∙ length-set c.self.inside.servers.items c.from.result c.charge.new.self

-- so they are all that is left
whole : (g : Over) (c : goal.After-self-3-1 g) → (let new = c.replenish_all-self-inside.new.servers in
    take c.self.inside.servers.len (new ++ drop (length new) (set c.self.inside.servers.items c.from.result c.charge.new.self)) ≡ new)
whole g c =
    let new = c.replenish_all-self-inside.new.servers in
    let ys = set c.self.inside.servers.items c.from.result c.charge.new.self in
    let l = length-set c.self.inside.servers.items c.from.result c.charge.new.self in
    let n = size g c in
    let m : length c.deref_mut.result.now ≡ length ys = ap length c.deref_mut.ensures.value in
    rw (drop_all (length new) ys (omega arith), append-nil new) (take_all c.self.inside.servers.len new (omega (arith, c.deref_mut.ensures.len)))

pub invariant_of-self : goal.invariant_of-self
invariant_of-self g c =
    let e = c.replenish_all-self-inside.ensures in
    let few = c.self.invariant.0 in
    rw (whole g c) (omega (arith, size g c), e.listed, e.waits)

pub returns : goal.returns
returns g c =
    let within = rw (← c.self.view_is) at c.requires.within in
    let changed = written (with_charge c.args.ticks c.args.for_unit) _ _ _ _ _ c.from.ensures within c.index_mut.ensures.value c.charge.ensures.face in
    whole g c ∙ c.replenish_all-self-inside.ensures.servers ∙ ap (map (with_replenishment c.args.now)) (c.deref_mut.ensures.value ∙ rw (← c.self.view_is) changed)
