-- What is dropped leaves the core, and so the time.
use Rattle.std.proofs.Common.{◌≡◌, sym, subst}
use Rattle.cbs_core.specs.Held.{CoreHeld}
use Rattle.cbs_steps.specs.declared.reply.Ran.{Ran}
use Rattle.cbs_steps.specs.declared.reply.Ran.TheVariants.{Idle, ClockEnd, Unit, Done}
use Rattle.cbs_clients.specs.Houses.{core_of}
use Rattle.cbs_embed.specs.Calls.{TheHouse, Drops}
use Rattle.cbs_embed.specs.declared.job.UnitJob.{UnitJob}

-- after a result was dropped the core is the same
same_core : (r : Ran) (a b : TheHouse) → Drops r a b → core_of b ≡ core_of a
same_core Idle a b same = rw same
same_core ClockEnd a b same = rw same
same_core (Unit s q) a b same = rw same
same_core (Done c) a b dropped = dropped.core

-- so what is so of it stays so
pub drops_keep : (Held : CoreHeld UnitJob → Type 0) (r : Ran) (a b : TheHouse) → Drops r a b → Held (core_of a) → Held (core_of b)
drops_keep Held r a b drops held = subst Held (sym (same_core r a b drops)) held
