use Rattle.std.proofs.Common.{◌≡◌}
use Rattle.std.specs.Prelude.{drop}
use Rattle.cbs_embed.specs.Plans.{setup_refusal, setup_with}
use Rattle.cbs_embed.proofs.planning.take_all.Given as goal

abbrev pub invariant-loop-server : goal.invariant-loop-server
invariant-loop-server l =
    (setup_refusal l.initial.setup l.initial.servers ≡ setup_refusal l.setup (drop l.server-index l.initial.servers))
    × (setup_with l.initial.setup l.initial.servers ≡ setup_with l.setup (drop l.server-index l.initial.servers))
