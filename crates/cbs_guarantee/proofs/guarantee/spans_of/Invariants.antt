use Rattle.std.proofs.Common.{◌≡◌, ◌*◌, ◌≤◌, length, take}
use Rattle.cbs_rate.specs.Plan.{IsPlan}
use Rattle.cbs_guarantee.specs.Sources.{streams_of}
use Rattle.cbs_guarantee.specs.Streams.{all_spans}
use Rattle.cbs_guarantee.proofs.guarantee.spans_of.Given as goal

-- the plan has the streams so far, and the sum is that of their spans
abbrev pub invariant-loop-source : goal.invariant-loop-source
invariant-loop-source l = record {
  plan : IsPlan l.plan;
  bound : l.plan.bound ≡ record { num = 1; den = 1 };
  rates : l.plan.rates ≡ streams_of l.server (take l.source-index l.sources);
  spans : l.spans ≡ all_spans l.plan.rates;
  few : l.spans ≤ length l.plan.rates * 1000000000;
}
