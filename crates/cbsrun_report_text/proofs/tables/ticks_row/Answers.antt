use Rattle.std.proofs.Common.{refl, ap}
use Rattle.cbsrun_text.specs.Columns.{plain}
use Rattle.cbsrun_text.proofs.Rows.{consed, row_is}
use Rattle.cbsrun_report_text.proofs.tables.ticks_row.Goals as goal

pub returns : goal.returns
returns c =
    row_is c.cells.result _ _ c.cells.ensures
    (consed (ap plain c.deref.ensures)
    (consed (rw (c.budget-budget.ensures.value, c.period-period.ensures.value) refl)
    (consed (rw (c.new.ensures.part, c.new.ensures.whole, c.from-2.ensures, c.budget-budget.ensures.value, c.period-period.ensures.value) refl)
    (consed (rw (c.new-asked.ensures.part, c.new-asked.ensures.whole, c.from.ensures, c.is_asked_too_much.ensures) refl)
    (consed (rw (c.new-2.ensures.part, c.new-2.ensures.whole, c.from-3.ensures) refl)
    (consed refl (consed refl (consed refl refl))))))))
