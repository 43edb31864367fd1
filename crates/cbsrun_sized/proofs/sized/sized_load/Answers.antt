use Rattle.std.proofs.Common.{arith, sym, ◌∙◌}
use Rattle.std.proofs.lemmas.Result.{err_from_is_err_and}
use Rattle.cbsrun_sized.proofs.Remedies.{enough_if_none, is_there, not_enough_if_some}
use Rattle.cbsrun_sized.proofs.sized.sized_load.Goals as goal

pub returns-in_err-load-clause-err : goal.returns-in_err-load-clause-err
returns-in_err-load-clause-err c =
    let p = err_from_is_err_and c.from_residual-in_err-load.result c.from_residual-in_err-load.ensures.1 in
    rw (p.1, p.2) (c.in_err-load.ensures.err c.args.sketch.now c.args.all)

pub returns-in-Some-clause-err : goal.returns-in-Some-clause-err
returns-in-Some-clause-err c =
    let f = c.in_ok-load.load in
    let loads = c.in_ok-server_loads.field-0.items in
    let are = c.in_ok-server_loads.ensures in
    let completed = c.is_completed.ensures c.args.all (rw c.deref-3.ensures.value c.in_ok-reservations.ensures.ok) c.if-not-is_completed.false in
    let late = rw c.deref-4.ensures.value at c.in-Some.ensures in
    let lt = is_there f loads are c.in-Some.server late.0 in
    let count = completed.count in
    (f, completed, omega arith, not_enough_if_some f loads are c.in-Some.server lt late.1)

pub returns-clause-ok : goal.returns-clause-ok
returns-clause-ok c =
    let f = c.in_ok-load.load in
    let loads = c.in_ok-server_loads.field-0.items in
    let are = c.in_ok-server_loads.ensures in
    let none = rw c.deref-4.ensures.value at c.in-None.ensures in
    let count = are.count in
    record {
      f = f;
      spelled = rw c.in_ok-load.ensures.ok.1 c.in_ok-load.ensures.ok.0;
      completed = c.is_completed.ensures c.args.all (rw c.deref-3.ensures.value c.in_ok-reservations.ensures.ok) c.if-not-is_completed.false;
      in_time = λ s lt. enough_if_none f loads are s lt (none s (omega arith));
    }

pub returns-then-not-are_admitted-clause-err : goal.returns-then-not-are_admitted-clause-err
returns-then-not-are_admitted-clause-err c =
    c.not_admitted.ensures c.args.sketch.now c.args.all (record {
      rates = c.in_ok-reservations.reservations.items;
      reservations = c.in_ok-reservations.ensures.ok;
      refused = rw (c.deref-2.ensures.value, c.bound.ensures) at (sym c.are_admitted.ensures ∙ c.if-not-are_admitted.true);
    })
