-- A server that a plan refuses, and entries that spell no reservation.
use Rattle.std.proofs.Common.{◌≡◌, ℕ, ◌<◌, List, length, get_or, map, take, Option, Some, None, Ok, Err, refl, sym, ap, ◌∙◌}
use Rattle.std.specs.Prelude.{slice_get, option_map, IfSome, MatchOption}
use Rattle.std.proofs.lemmas.Option.{slice_get-get_or, slice_get-map}
use Rattle.std.proofs.lemmas.List.{take-map}
use Rattle.toml.specs.Data.{Data, Members}
use Rattle.cbs_rate.specs.Bound.{Fraction}
use Rattle.cbs_rate.specs.Rate.{Rate}
use Rattle.cbsrun_toml_tables.specs.declared.fault.FileKind.{FileKind}
use Rattle.cbsrun_faults.specs.declared.refused.Refused.{Refused}
use Rattle.cbsrun_faults.specs.Refused.{bound_at, reservation_of, tick_in, AreReservations, IsRefused, IsNotRefused, IsRefusedAt}

-- no list has the reservations of entries one of which spells none
pub none_spelled : {X : Type 0} (tick : Option ℕ) (seen : X → Data) (xs : List X) (i : ℕ) (x : X) (kind : FileKind) → i < length xs → x ≡ get_or xs i x
    → reservation_of tick (seen x) ≡ Err kind → (rates : List Rate) → ¬ (AreReservations tick (map seen xs) rates)
none_spelled tick seen xs i x kind lt is fault rates all = spelled (slice_get rates i) (sym left ∙ (ap (λ l. slice_get l i) all ∙ slice_get-map Ok rates i))
  where
    here : slice_get xs i ≡ Some x
    here = slice_get-get_or xs i x lt ∙ ap Some (sym is)

    left : slice_get (map (reservation_of tick) (map seen xs)) i ≡ Some (Err kind)
    left = rw (slice_get-map (reservation_of tick) (map seen xs) i, slice_get-map seen xs i, here, fault) refl

    spelled : (o : Option Rate) → ¬ (Some (Err kind) ≡ option_map Ok o)
    spelled None e = cc
    spelled (Some r) e = cc

-- what is refused after the entries before is refused in the document, and what is not is not
refused_in : (top : Members) (tick : Option ℕ) (entries : List Data) (server : ℕ) (bound : Fraction) (asked : Rate) (o : Option Refused)
    → tick ≡ tick_in top → bound_at top ≡ Ok bound → option_map (reservation_of tick) (slice_get entries server) ≡ Some (Ok asked)
    → MatchOption o (IsNotRefused tick bound (take server entries) asked) (IsRefused bound (take server entries) asked)
    → IfSome o (λ r. (r.number ≡ server) × (r.tick ≡ tick) × (r.plan.bound ≡ bound))
    → MatchOption o ((r : Refused) → ¬ (IsRefusedAt top entries server r)) (IsRefusedAt top entries server)
refused_in top tick entries server bound asked None tick_is bound_is entry_is none named = refused
  where
    refused : (r : Refused) → ¬ (IsRefusedAt top entries server r)
    refused r h =
        let t : tick ≡ r.tick = tick_is ∙ sym h.tick in
        let b : bound ≡ r.plan.bound = let e = sym bound_is ∙ h.bound in cc in
        let a : asked ≡ r.reservation = let e = sym (rw t at entry_is) ∙ h.entry in cc in
        let not = rw (t, b, a) at none in
        let free = not r.plan h.refusal.plan in
        let why = h.refusal.why in
        cc
refused_in top tick entries server bound asked (Some r) tick_is bound_is entry_is h named =
    let t = sym named.1 in
    let b = sym named.2 in
    let a = sym h.reservation in
    record {
      number = named.0;
      tick = named.1 ∙ tick_is;
      bound = rw b at bound_is;
      entry = rw (t, a) at entry_is;
      refusal = rw (b, a) at h;
    }

-- the same, of values that are seen as data
pub refused_among : {X : Type 0} (seen : X → Data) (top : Members) (tick : Option ℕ) (xs : List X) (server : ℕ) (x : X) (bound : Fraction) (asked : Rate) (o : Option Refused)
    → server < length xs → x ≡ get_or xs server x → tick ≡ tick_in top → bound_at top ≡ Ok bound → reservation_of tick (seen x) ≡ Ok asked
    → MatchOption o (IsNotRefused tick bound (map seen (take server xs)) asked) (IsRefused bound (map seen (take server xs)) asked)
    → IfSome o (λ r. (r.number ≡ server) × (r.tick ≡ tick) × (r.plan.bound ≡ bound))
    → MatchOption o ((r : Refused) → ¬ (IsRefusedAt top (map seen xs) server r)) (IsRefusedAt top (map seen xs) server)
refused_among seen top tick xs server x bound asked o lt is tick_is bound_is asked_is after named =
    refused_in top tick (map seen xs) server bound asked o tick_is bound_is entry (rw (take-map seen server xs) after) named
  where
    here : slice_get xs server ≡ Some x
    here = slice_get-get_or xs server x lt ∙ ap Some (sym is)

    entry : option_map (reservation_of tick) (slice_get (map seen xs) server) ≡ Some (Ok asked)
    entry = rw (slice_get-map seen xs server, here, asked_is) refl
