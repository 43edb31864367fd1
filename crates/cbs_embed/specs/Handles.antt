-- What a handle holds.
use Rattle.std.specs.Prelude.{Option}
use Rattle.cbs_embed.specs.declared.held.Held.{Held}
use Rattle.cbs_embed.specs.declared.handle.Handle.{Handle}

-- what a handle holds: a house or a client, or nothing if it is not open
abbrev pub held_by : Handle → Option Held
held_by handle = handle.at.held
