use Rattle.std.proofs.Common.{◌≡◌}
use Rattle.cbs_clients.specs.Calls.{LooksAtRing}
use Rattle.cbs_clients.proofs.client.Client.send_within.Given as goal

abbrev pub invariant-loop-try : goal.invariant-loop-try
invariant-loop-try g l = record { looked : LooksAtRing l.initial.self l.self; task : l.task ≡ l.initial.task }
