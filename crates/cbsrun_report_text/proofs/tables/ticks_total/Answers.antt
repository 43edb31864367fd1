use Rattle.std.proofs.Common.{refl}
use Rattle.cbsrun_text.proofs.Rows.{consed, row_is}
use Rattle.cbsrun_report_text.proofs.tables.ticks_total.Goals as goal

pub returns : goal.returns
returns c =
    row_is c.cells.result _ _ c.cells.ensures
    (consed refl
    (consed refl
    (consed (rw (c.new-reserved.ensures.part, c.new-reserved.ensures.whole, c.from.ensures) refl)
    (consed (rw (c.new-asked.ensures.part, c.new-asked.ensures.whole, c.of.ensures.value, c.deref-2.ensures.value) refl)
    (consed (rw (c.new.ensures.part, c.new.ensures.whole, c.of-run.ensures.value, c.deref.ensures.value) refl)
    (consed (rw (c.of-run.ensures.value, c.deref.ensures.value) refl)
    (consed (rw (c.of-2.ensures.value, c.deref-3.ensures.value) refl)
    (consed (rw (c.of-3.ensures.value, c.deref-4.ensures.value) refl) refl))))))))
