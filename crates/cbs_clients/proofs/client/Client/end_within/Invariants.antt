use Rattle.cbs_clients.specs.Calls.{LooksAtRing}
use Rattle.cbs_clients.proofs.client.Client.end_within.Given as goal

abbrev pub invariant-loop-try : goal.invariant-loop-try
invariant-loop-try g l = LooksAtRing l.initial.self l.self
