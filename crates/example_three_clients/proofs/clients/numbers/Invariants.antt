use Rattle.std.proofs.Common.{◌≡◌, length}
use Rattle.example_three_clients.proofs.clients.numbers.Given as goal

abbrev pub invariant-loop-unit : goal.invariant-loop-unit
invariant-loop-unit l = length l.numbers.items ≡ l.unit
