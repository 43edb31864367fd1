-- What is left after a value was lent: in a box, and in what a handle may hold.
use Rattle.std.specs.Prelude.{Some, Result}
use Rattle.std.specs.Borrow.{Lends, LendsIfOk, MutBor, Fml, RattleType}
use Rattle.std_heap.specs.contracts.Global as heap
use Rattle.std_heap.specs.contracts.GlobalAllocator.TheImpl as allocator
use Rattle.cbs_clients.specs.contracts.house.House as house
use Rattle.cbs_clients.specs.contracts.client.Client as client
use Rattle.cbs_embed.specs.Calls.{TheHouse, TheClient}
use Rattle.cbs_embed.specs.contracts.job.UnitJob as job
use Rattle.cbs_embed.specs.contracts.job.UnitJobWork.TheImpl as work
use Rattle.cbs_embed.specs.contracts.box_ptr.BoxPtr as pointer
use Rattle.cbs_embed.specs.contracts.held.Held as held
use Rattle.cbs_embed.specs.declared.box_ptr.BoxPtr.{BoxPtr}
use Rattle.cbs_embed.specs.declared.held.Held.{Held}
use Rattle.cbs_embed.specs.declared.held.Held.TheVariants.{House, Client}
use Rattle.cbs_embed.specs.declared.refusal.Refusal.{Refusal}

-- a house and a client for the host's jobs, as types in memory
abbrev pub house_row : RattleType
house_row = house.the_row job.the_row heap.the_row work.ghosts allocator.ghosts

abbrev pub client_row : RattleType
client_row = client.the_row job.the_row heap.the_row work.ghosts allocator.ghosts

-- the pointer of a box that has w in it
abbrev pub with_held : BoxPtr → Held → BoxPtr
with_held p w = record { ptr = p.ptr; alloc = p.alloc; held = Some w }

-- after the loan the box has the last value of r in it
abbrev pub LendsHeld : MutBor BoxPtr → MutBor Held → Fml
LendsHeld p r = Lends pointer.the_row held.the_row p r (with_held p.now)

-- after the loan this is the house that is left, or it is as it was
abbrev pub LendsHouse : MutBor Held → Result (MutBor TheHouse) Refusal → Fml
LendsHouse h r = LendsIfOk held.the_row house_row h r House h.now

-- after the loan this is the client that is left, or it is as it was
abbrev pub LendsClient : MutBor Held → Result (MutBor TheClient) Refusal → Fml
LendsClient h r = LendsIfOk held.the_row client_row h r Client h.now
