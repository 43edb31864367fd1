use Rattle.std.proofs.Common.{arith}
use Rattle.std.proofs.lemmas.Result.{err_from_is_err_and, on_err_weaker, on_ok_weaker}
use Rattle.cbsrun_lines.proofs.LineSteps.{begins, none_ends, nothing_written, ok_both, wrote_shown}
use Rattle.cbsrun_lines.proofs.lines.write_lines.Goals as goal

pub returns-in_err-lines-clause-written : goal.returns-in_err-lines-clause-written
returns-in_err-lines-clause-written g c =
    let p = err_from_is_err_and c.from_residual.result c.from_residual.ensures.1 in
    rw (p.1, p.2) (nothing_written (g.R.Run.run c.args.run.now).seen _)

pub end-requires : goal.end-requires
end-requires g c = λ well.
    let steps = (g.R.Run.run c.args.run.now).seen in
    let shown = c.show-shown in
    let old = g.O.ByteOutput.state c.args.out.now in
    let mid = g.O.ByteOutput.state shown.new.lent in
    let start = begins c.in_ok-lines.lines old c.in_ok-lines.ensures.0 c.in_ok-lines.ensures.1 in
    let wrote = wrote_shown shown.new.view old mid steps shown.result
    (on_ok_weaker shown.result (λ seen. seen (c.in_ok-lines.lines, c.args.out.now) start) shown.ensures.seen)
    (on_err_weaker shown.result (λ stops. let h = stops (c.in_ok-lines.lines, c.args.out.now) start in
    record { later = h.later; done = h.done; all = h.all; wrote = h.seen }) shown.ensures.stopped) in
    let same = none_ends shown.new.view old mid steps shown.result wrote well in
    let few = c.requires in
    omega arith

pub returns-clause-written : goal.returns-clause-written
returns-clause-written g c =
    let steps = (g.R.Run.run c.args.run.now).seen in
    let shown = c.show-shown in
    let old = g.O.ByteOutput.state c.args.out.now in
    let mid = g.O.ByteOutput.state shown.new.lent in
    let start = begins c.in_ok-lines.lines old c.in_ok-lines.ensures.0 c.in_ok-lines.ensures.1 in
    c.end.ensures.written old steps (wrote_shown shown.new.view old mid steps shown.result
    (on_ok_weaker shown.result (λ seen. seen (c.in_ok-lines.lines, c.args.out.now) start) shown.ensures.seen)
    (on_err_weaker shown.result (λ stops. let h = stops (c.in_ok-lines.lines, c.args.out.now) start in
    record { later = h.later; done = h.done; all = h.all; wrote = h.seen }) shown.ensures.stopped))

pub returns-clause-lawful : goal.returns-clause-lawful
returns-clause-lawful g c = ok_both _ c.end.result c.show-shown.result c.end.ensures.shown c.show-shown.ensures.lawful
