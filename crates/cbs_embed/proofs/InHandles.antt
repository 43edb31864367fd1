-- A call on what a handle holds is a call on the handle.
use Rattle.std.specs.Prelude.{◌≡◌, Option, Some, None, Result, Err}
use Rattle.std.proofs.Common.{refl}
use Rattle.cbs_embed.specs.Calls.{TheHouse, TheClient, InHouse, InClient, OnHeld, RefusesHouse, RefusesClient}
use Rattle.cbs_embed.specs.declared.held.Held.{Held}
use Rattle.cbs_embed.specs.declared.held.Held.TheVariants.{House, Client}
use Rattle.cbs_embed.specs.declared.refusal.Refusal.{Refusal}

module _ {T : Type 0} {answer : Result T Refusal} {e : Refusal} where
  -- a call on a house that a handle refuses, since it holds none
  pub no_house : (Does : TheHouse → Result T Refusal → TheHouse → Type 0) (old : Option Held) {new : Option Held} → RefusesHouse old e → new ≡ old
      → answer ≡ Err e → OnHeld (InHouse Does) old answer new
  no_house Does None why same is = rw (same, is, why) (refl, refl)
  no_house Does (Some (House h)) why same is = absurd why
  no_house Does (Some (Client c)) why same is = rw (same, is, why) (Client c, refl, (refl, refl))

  -- a call on a client that a handle refuses, since it holds none
  pub no_client : (Does : TheClient → Result T Refusal → TheClient → Type 0) (old : Option Held) {new : Option Held} → RefusesClient old e → new ≡ old
      → answer ≡ Err e → OnHeld (InClient Does) old answer new
  no_client Does None why same is = rw (same, is, why) (refl, refl)
  no_client Does (Some (House h)) why same is = rw (same, is, why) (House h, refl, (refl, refl))
  no_client Does (Some (Client c)) why same is = absurd why

module _ {T : Type 0} {old new : Option Held} {answer : Result T Refusal} where
  -- what was done to the house that the handle holds
  pub on_house : (Does : TheHouse → Result T Refusal → TheHouse → Type 0) {h after : TheHouse} → old ≡ Some (House h) → new ≡ Some (House after)
      → Does h answer after → OnHeld (InHouse Does) old answer new
  on_house Does {after = after} was is does = rw (was, is) (House after, refl, (after, refl, does))

  -- what was done to the client that the handle holds
  pub on_client : (Does : TheClient → Result T Refusal → TheClient → Type 0) {c after : TheClient} → old ≡ Some (Client c) → new ≡ Some (Client after)
      → Does c answer after → OnHeld (InClient Does) old answer new
  on_client Does {after = after} was is does = rw (was, is) (Client after, refl, (after, refl, does))
