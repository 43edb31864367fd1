use Rattle.std.proofs.Common.{◌≡◌, ◌∙◌, true, false, [], Ok, inl, inr, sym, append-nil}
use Rattle.std.specs.Prelude.{string_bytes}
use Rattle.toml.specs.View.{table_view}
use Rattle.cbsrun_toml_tables.specs.Documents.{document}
use Rattle.cbsrun_other_faults.proofs.Told.{none_told}
use Rattle.cbsrun_other_faults.proofs.others.append_others_of.Goals as goal

not_both : true ≡ false → ⊥
not_both e = cc

pub returns-in-Ok : goal.returns-in-Ok
returns-in-Ok c =
    let read : document c.args.bytes.now ≡ Ok (table_view c.in-Ok.top) = c.in-Ok.ensures in
    let top : table_view c.new.result.top.now ≡ table_view c.in-Ok.top = c.new.ensures.document.top in
    rw read (rw top at c.append_others.ensures)

pub returns-else-eq : goal.returns-else-eq
returns-else-eq c =
    elim c.in-Err.ensures [
      | inl m ↦ let is : c.eq.result ≡ true = rw m at c.eq.ensures in absurd (not_both (sym is ∙ c.if-eq.false))
      | inr e ↦ rw e (λ free. ([], none_told c.args.most, free, sym (append-nil c.args.page.now.text)))
    ]
