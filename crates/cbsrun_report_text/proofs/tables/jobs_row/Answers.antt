use Rattle.std.proofs.Common.{decimal, refl, ap}
use Rattle.cbsrun_text.specs.Columns.{plain}
use Rattle.cbsrun_text.proofs.Rows.{consed, row_is}
use Rattle.cbsrun_report_text.proofs.tables.jobs_row.Goals as goal

pub returns : goal.returns
returns c =
    row_is c.cells.result _ _ c.cells.ensures
    (consed (ap plain c.deref.ensures)
    (consed (ap (λ n. plain (decimal n)) c.released.ensures.value)
    (consed (rw c.from-refused.ensures refl)
    (consed refl (consed refl (consed c.late_shown.ensures (consed refl refl)))))))
