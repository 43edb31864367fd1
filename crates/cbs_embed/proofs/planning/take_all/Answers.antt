use Rattle.std.proofs.Common.{◌≡◌, [], ap, sym, ◌∙◌}
use Rattle.std.proofs.lemmas.List.{drop_all}
use Rattle.std.proofs.lemmas.Result.{err_from_is_err_and}
use Rattle.std.specs.Prelude.{drop}
use Rattle.cbs_embed.specs.Plans.{setup_refusal, setup_with}
use Rattle.cbs_embed.proofs.Admissions.{refusal_goes_on, with_goes_on, refusal_stops, refusal_none, with_none}
use Rattle.cbs_embed.proofs.planning.take_all.Goals as goal

pub returns-in_err-take_in-clause-answer : goal.returns-in_err-take_in-clause-answer
returns-in_err-take_in-clause-answer c =
    let p = err_from_is_err_and c.from_residual.result c.from_residual.ensures.1 in
    rw (p.1, p.2) (c.loop-server.invariant.0 ∙ refusal_stops c.loop-server.setup c.args.servers.now c.loop-server.server-index _
    c.loop-server-test.true c.in_err-take_in.ensures.answer)

pub loop-server-preserved : goal.loop-server-preserved
loop-server-preserved c =
    let setup = c.loop-server.setup in
    let servers = c.args.servers.now in
    let i = c.loop-server.server-index in
    let taken = c.in_ok-take_in.ensures in (
      c.loop-server.invariant.0 ∙ refusal_goes_on setup servers i _ c.loop-server-test.true taken.answer taken.setup,
      c.loop-server.invariant.1 ∙ with_goes_on setup servers i _ c.loop-server-test.true taken.setup,
    )

pub returns : goal.returns
returns c =
    let setup = c.loop-server.setup in
    let over : drop c.loop-server.server-index c.args.servers.now ≡ [] =
    drop_all c.loop-server.server-index c.args.servers.now c.loop-server-test.false in record {
      answer = c.loop-server.invariant.0 ∙ ap (setup_refusal setup) over ∙ refusal_none setup;
      setup = sym (c.loop-server.invariant.1 ∙ ap (setup_with setup) over ∙ with_none setup);
    }
