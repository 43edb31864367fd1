use Rattle.std.proofs.Common.{refl, ap}
use Rattle.cbsrun_text.specs.Columns.{plain}
use Rattle.cbsrun_text.proofs.Rows.{consed, row_is}
use Rattle.cbsrun_check_text.proofs.servers.server_row.Goals as goal

pub returns : goal.returns
returns c =
    row_is c.cells.result _ _ c.cells.ensures
    (consed refl
    (consed (ap plain c.mode_word.ensures)
    (consed (rw c.budget-2.ensures.value refl)
    (consed (rw c.period-2.ensures.value refl)
    (consed (rw (c.new-share.ensures.part, c.new-share.ensures.whole, c.budget.ensures.value, c.period.ensures.value) refl)
    (consed (rw (c.new-share.ensures.part, c.new-share.ensures.whole, c.budget.ensures.value, c.period.ensures.value) refl)
    (consed refl refl)))))))
