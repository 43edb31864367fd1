-- A house in a handle, and what stays so of it from call to call.
use Rattle.std.proofs.Common.{◌≡◌, Option, Some, None, Result, Ok, refl}
use Rattle.cbs_embed.specs.Calls.{TheHouse, OnHeld, InHouse}
use Rattle.cbs_embed.specs.declared.held.Held.{Held}
use Rattle.cbs_embed.specs.declared.held.Held.TheVariants.{House, Client}
use Rattle.cbs_embed.specs.declared.refusal.Refusal.{Refusal}

-- the house that is held, if one is, is so
abbrev pub IsHeld : (TheHouse → Type 0) → Option Held → Type 0
IsHeld Is held = (h : TheHouse) → held ≡ Some (House h) → Is h

-- a house that is held is the only one
only : (held : Option Held) (a h : TheHouse) → held ≡ Some (House a) → held ≡ Some (House h) → h ≡ a
only held a h e f = cc

pub opened : (Is : TheHouse → Type 0) (held : Option Held) (a : TheHouse) → held ≡ Some (House a) → Is a → IsHeld Is held
opened Is held a e is h f = rw (only held a h e f) is

-- a call that keeps a house so keeps it so in a handle
pub called : {T : Type 0} (Does : TheHouse → Result T Refusal → TheHouse → Type 0) (Is : TheHouse → Type 0) (told : T)
    → ((a b : TheHouse) → Does a (Ok told) b → Is a → Is b)
    → (old new : Option Held) → OnHeld (InHouse Does) old (Ok told) new → IsHeld Is old → IsHeld Is new
called Does Is told keeps None new k is = absurd (cc k.0)
called Does Is told keeps (Some (Client c)) new k is = absurd (let e = k.2.0 in cc)
called Does Is told keeps (Some (House a)) new k is = λ h f.
    let e : new ≡ Some (House k.2.0) = cc in
    opened Is new k.2.0 e (keeps a k.2.0 k.2.2 (is a refl)) h f
