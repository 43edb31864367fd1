use Rattle.std.proofs.Common.{◌≡◌, ◌∙◌, ap, take, arith}
use Rattle.std.proofs.lemmas.Grind.{common_steps}
use Rattle.std.proofs.lemmas.List.{take_all}
use Rattle.std.proofs.lemmas.Result.{err_from_is_err_and}
use Rattle.cbs_guarantee.specs.Sources.{streams_of}
use Rattle.cbs_guarantee.specs.Streams.{all_spans}
use Rattle.cbs_guarantee.proofs.Sources.{reason_alone, reason_refused, borne_of}
use Rattle.cbs_guarantee.proofs.guarantee.spans_of.Goals as goal

pub returns-in_err-stream : goal.returns-in_err-stream
returns-in_err-stream c = let p = err_from_is_err_and c.from_residual-in_err-stream.result c.from_residual-in_err-stream.ensures.1 in
    rw (p.1, p.2) record {
      answer = reason_alone c.args.server c.args.sources.now c.loop-source.source-index _ c.in_err-stream.field-0.0 (omega arith) c.in_err-stream.ensures;
      short = tt;
    }

pub returns-in_err-admit : goal.returns-in_err-admit
returns-in_err-admit c = let p = err_from_is_err_and c.from_residual-in_err-admit.result c.from_residual-in_err-admit.ensures.1 in
    rw (p.1, p.2) record {
      answer = reason_refused c.args.server c.args.sources.now c.loop-source.source-index _ c.in_err-admit.field-0.0
          c.loop-source.plan c.in_ok-stream.stream (omega arith)
          c.in_ok-check_each.ensures c.loop-source.invariant.bound c.loop-source.invariant.rates c.in_ok-stream.ensures.0 c.in_err-admit.ensures.answer;
      short = tt;
    }

pub returns : goal.returns
returns c =
    let all : take c.loop-source.source-index c.args.sources.now ≡ c.args.sources.now =
    take_all c.loop-source.source-index c.args.sources.now c.loop-source-test.false in
    let rates : c.loop-source.plan.rates ≡ streams_of c.args.server c.args.sources.now = rw all at c.loop-source.invariant.rates in
    let borne = borne_of c.args.server c.args.sources.now c.loop-source.plan c.loop-source.invariant.plan rates c.in_ok-check_each.ensures.each in
    record {
      answer = (c.loop-source.invariant.spans ∙ ap all_spans rates, borne);
      short = let few = c.loop-source.invariant.plan.few in omega arith;
    }

pub loop-source-init : goal.loop-source-init
loop-source-init c = grind (arith, common_steps)

pub loop-source-preserved : goal.loop-source-preserved
loop-source-preserved c = grind (arith, common_steps)
