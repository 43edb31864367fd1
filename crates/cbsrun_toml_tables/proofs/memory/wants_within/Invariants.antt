use Rattle.std.proofs.Common.{◌≡◌, ◌+◌, take}
use Rattle.std.specs.Prelude.{sum_by}
use Rattle.cbsrun_toml_tables.specs.Memory.{byte_wants}
use Rattle.cbsrun_toml_tables.proofs.memory.wants_within.Given as goal

abbrev pub invariant-loop-byte : goal.invariant-loop-byte
invariant-loop-byte l = l.left + sum_by byte_wants (take l.byte-index l.bytes) ≡ l.fn.bound
