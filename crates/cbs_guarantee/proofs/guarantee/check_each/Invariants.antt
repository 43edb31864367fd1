use Rattle.std.proofs.Common.{take}
use Rattle.cbs_guarantee.specs.Sources.{HaveStreams}
use Rattle.cbs_guarantee.proofs.guarantee.check_each.Given as goal

-- each source so far has a stream
abbrev pub invariant-loop-source : goal.invariant-loop-source
invariant-loop-source l = HaveStreams l.server (take l.source-index l.sources)
