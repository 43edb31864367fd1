use Rattle.std.proofs.Common.{inl, inr, sym, ◌∙◌}
use Rattle.std.specs.Str.{is_utf8}
use Rattle.std.proofs.lemmas.Bool.{cases_Bool, false≢true}
use Rattle.std.proofs.lemmas.Str.{is_utf8-from_IsUtf8, IsUtf8-from_is_utf8}
use Rattle.toml.specs.Errors.{IsMemory}
use Rattle.cbsrun_toml_tables.proofs.documents.document.Goals as goal

pub returns-in-Ok : goal.returns-in-Ok
returns-in-Ok c = rw (is_utf8-from_IsUtf8 c.args.bytes.now c.in-Ok.ensures.ok.0, c.in-Ok.ensures.ok.1)

pub returns-in-Err-2 : goal.returns-in-Err-2
returns-in-Err-2 c =
    let other = λ (h : IsMemory c.in-Err.error). false≢true (sym c.if-is_memory.false ∙ c.is_memory.ensures.1 h) in
    elim (cases_Bool (is_utf8 c.args.bytes.now)) [
      | inl y ↦ inr (rw (y, c.in-Err.ensures.refused other (IsUtf8-from_is_utf8 c.args.bytes.now y)))
      | inr n ↦ inr (rw n)
    ]
