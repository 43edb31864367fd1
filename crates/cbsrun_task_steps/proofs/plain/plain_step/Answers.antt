use Rattle.std.proofs.Common.{codes, refl, arith}
use Rattle.cbsrun_task_steps.proofs.PlainSteps.{op_read, run_word, submit_word, advance_word, close_word, run_step}
use Rattle.cbsrun_task_steps.proofs.plain.plain_step.Goals as goal

pub returns-in-Some : goal.returns-in-Some
returns-in-Some c =
    run_step c.args.layout c.args.terms c.args.s.now c.in-Some.op.now c.in_ok-rest.rest.now
    (op_read c.args.layout c.args.s.now c.in_ok-at.at.now c.in-Some.op.now (codes "\"run\"") (codes "run") c.in_ok-at.ensures
    c.in-Some.ensures (omega arith) refl refl (run_word c.in-Some.op.now)) c.in_ok-rest.ensures

pub returns-in-Some-after_word : goal.returns-in-Some-after_word
returns-in-Some-after_word c =
    c.submit_step.ensures c.args.s.now
    (op_read c.args.layout c.args.s.now c.in_ok-at.at.now c.in-Some-after_word.op.now (codes "\"submit\"") (codes "submit") c.in_ok-at.ensures
    c.in-Some-after_word.ensures (omega arith) refl refl (submit_word c.in-Some-after_word.op.now))

pub returns-in-Some-after_word-2 : goal.returns-in-Some-after_word-2
returns-in-Some-after_word-2 c =
    c.advance_step.ensures c.args.s.now
    (op_read c.args.layout c.args.s.now c.in_ok-at.at.now c.in-Some-after_word-2.op.now (codes "\"advance\"") (codes "advance") c.in_ok-at.ensures
    c.in-Some-after_word-2.ensures (omega arith) refl refl (advance_word c.in-Some-after_word-2.op.now))

pub returns-in-Some-after_word-3 : goal.returns-in-Some-after_word-3
returns-in-Some-after_word-3 c =
    c.close_step.ensures c.args.s.now
    (op_read c.args.layout c.args.s.now c.in_ok-at.at.now c.in-Some-after_word-3.op.now (codes "\"close\"") (codes "close") c.in_ok-at.ensures
    c.in-Some-after_word-3.ensures (omega arith) refl refl (close_word c.in-Some-after_word-3.op.now))
