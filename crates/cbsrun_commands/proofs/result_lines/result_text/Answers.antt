use Rattle.std.proofs.Common.{◌≡◌, ◌∙◌, length, ap, arith}
use Rattle.cbs_clients.specs.Houses.{core_of, results_of}
use Rattle.cbsrun_commands.specs.ResultLines.{kept_lines}
use Rattle.cbsrun_commands.proofs.ResultLines.{line_more}
use Rattle.cbsrun_commands.proofs.result_lines.result_text.Goals as goal

pub loop-server-preserved : goal.loop-server-preserved
loop-server-preserved c =
    let l = c.loop-server in
    let found = rw c.unwrap-results.ensures at c.results.ensures.ok in
    line_more (results_of c.args.house.now) l.server _ _ (rw found.1 at c.in_ok-append_line.ensures) l.invariant

pub returns : goal.returns
returns c =
    let all : c.loop-server.server ≡ length (core_of c.args.house.now).faces =
    omega (arith, c.servers-server-end.ensures.value, c.loop-server-test.false) in
    c.loop-server.invariant ∙ ap (kept_lines (results_of c.args.house.now)) all
