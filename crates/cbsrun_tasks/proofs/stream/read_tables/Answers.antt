use Rattle.std.proofs.Common.{◌≡◌, codes, Some, None, ap, ◌∙◌, refl}
use Rattle.toml.specs.Data.{array}
use Rattle.toml.specs.Tables.{close}
use Rattle.toml.specs.View.{table_view}
use Rattle.cbsrun_toml.specs.Reading.{closed, EndsArrays, insert_member}
use Rattle.cbsrun_tasks.proofs.Documents.{document_err}
use Rattle.cbsrun_tasks.proofs.stream.read_tables.Goals as goal

pub returns-in-None-clause-value : goal.returns-in-None-clause-value
returns-in-None-clause-value c n doc e h =
    let ends : EndsArrays (codes "step") n doc c.args.s.now (table_view c.in_ok-table.table) None =
    rw c.in-None.is at (c.in_ok-table.ensures n doc.0 doc.1 e h) in
    ends

pub returns-in_err-read-in-Some-clause-value : goal.returns-in_err-read-in-Some-clause-value
returns-in_err-read-in-Some-clause-value c n doc e h =
    let ends : EndsArrays (codes "step") n doc c.args.s.now (table_view c.in_ok-table.table) (Some c.in-Some.body) =
    rw c.in-Some.is at (c.in_ok-table.ensures n doc.0 doc.1 e h) in
    let (m, now, less, same, free, read) = ends in
    document_err c.from_residual-in_err-read-in-Some.result _ c.in_err-read-in-Some.field-0.0 _ c.from_residual-in_err-read-in-Some.ensures.1 (λ y p. p) λ refused.
    ap closed (read ∙ c.in_err-read-in-Some.ensures m now less refused)

pub returns-in_ok-read-in-Some-clause-value : goal.returns-in_ok-read-in-Some-clause-value
returns-in_ok-read-in-Some-clause-value c n doc e h =
    let ends : EndsArrays (codes "step") n doc c.args.s.now (table_view c.in_ok-table.table) (Some c.in-Some.body) =
    rw c.in-Some.is at (c.in_ok-table.ensures n doc.0 doc.1 e h) in
    let (m, now, less, same, free, read) = ends in
    let (ds, whole, read_all, is, spells) = c.in_ok-read-in-Some.ensures m now less in
    let here : close whole.0 ≡ insert_member (codes "step") (array ds) (table_view c.in_ok-table.table) = rw (← same) is in (
      ds,
      ap closed (read ∙ read_all) ∙ rw here refl,
      free,
      spells,
    )
