-- A poll that does not say that there is no such server is of one that the house has.
use Rattle.std.proofs.Common.{◌≢◌, ℕ, refl}
use Rattle.cbs_clients.specs.Houses.{Polled}
use Rattle.cbs_host.specs.declared.poll.Poll.{Poll}
use Rattle.cbs_host.specs.declared.poll.Poll.TheVariants.{Nothing, Took, Closed, Full, OutOfMemory, NoSuchServer}
use Rattle.cbs_embed.specs.Calls.{TheHouse, HasServer}
use Rattle.cbs_embed.specs.Jobs.{counting}

-- the server of such a poll
pub polled_server : (a b : TheHouse) (s : ℕ) (p : Poll) → Polled counting a s p b → p ≢ NoSuchServer → HasServer s a
polled_server a b s Nothing polled other = polled.1
polled_server a b s Full polled other = polled.1.within
polled_server a b s OutOfMemory polled other = polled.1.is_open.within
polled_server a b s NoSuchServer polled other = absurd (other refl)
polled_server a b s (Took q) polled other = polled.2.is_open.within
polled_server a b s Closed polled other = polled.1.is_open.within
