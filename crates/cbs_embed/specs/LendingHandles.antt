-- What a handle holds after it was lent.
use Rattle.std.specs.Prelude.{◌≡◌, Some, Result}
use Rattle.std.specs.Borrow.{LendsSoOk, MutBor, Fml}
use Rattle.cbs_embed.specs.Calls.{TheHouse, TheClient}
use Rattle.cbs_embed.specs.Handles.{held_by}
use Rattle.cbs_embed.specs.Lending.{house_row, client_row}
use Rattle.cbs_embed.specs.contracts.handle.Handle as handle
use Rattle.cbs_embed.specs.contracts.held.Held as held
use Rattle.cbs_embed.specs.declared.handle.Handle.{Handle}
use Rattle.cbs_embed.specs.declared.held.Held.{Held}
use Rattle.cbs_embed.specs.declared.held.Held.TheVariants.{House, Client}
use Rattle.cbs_embed.specs.declared.refusal.Refusal.{Refusal}

-- after the loan the handle holds the last value of r, or it holds what it held
abbrev pub LendsOpen : MutBor Handle → Result (MutBor Held) Refusal → Fml
LendsOpen h r = LendsSoOk handle.the_row held.the_row h r (λ n w. held_by n ≡ Some w) (λ n. held_by n ≡ held_by h.now)

-- after the loan the handle holds the house that is left, or it holds what it held
abbrev pub LendsOpenHouse : MutBor Handle → Result (MutBor TheHouse) Refusal → Fml
LendsOpenHouse h r = LendsSoOk handle.the_row house_row h r (λ n w. held_by n ≡ Some (House w)) (λ n. held_by n ≡ held_by h.now)

-- after the loan the handle holds the client that is left, or it holds what it held
abbrev pub LendsOpenClient : MutBor Handle → Result (MutBor TheClient) Refusal → Fml
LendsOpenClient h r = LendsSoOk handle.the_row client_row h r (λ n w. held_by n ≡ Some (Client w)) (λ n. held_by n ≡ held_by h.now)
