use Rattle.std.proofs.Common.{◌≡◌, ◌∙◌, ◌⊎◌, ap, sym, List, ℕ, Ok, Err, inl, inr}
use Rattle.cbsrun_loads.specs.Spelling.{load}
use Rattle.cbsrun_toml_tables.specs.Documents.{no_memory}
use Rattle.cbsrun_toml_tables.specs.Fields.{seen}
use Rattle.cbsrun_toml_tables.specs.declared.fault.FileFault.{FileFault}
use Rattle.cbsrun_options.specs.declared.actions.Changes.{Changes}
use Rattle.cbsrun_commands.specs.Outputs.{changed, changed_load}
use Rattle.cbsrun_commands.proofs.reading.load_file.Goals as goal

-- a fault of the bytes is one of the changed load
same_fault : (changes : Changes) (bytes : List ℕ) (e : FileFault) → (e ≡ no_memory) ⊎ (load bytes ≡ Err e)
    → (e ≡ no_memory) ⊎ (changed_load changes bytes ≡ Err e)
same_fault changes bytes e (inl memory) = inl memory
same_fault changes bytes e (inr read) = inr (ap (seen (changed changes)) read)

pub returns-in-Ok : goal.returns-in-Ok
returns-in-Ok c = ap (seen (changed c.args.changes)) c.in-Ok.ensures ∙ ap Ok (sym c.changed.ensures)

pub returns-in-Err : goal.returns-in-Err
returns-in-Err c = same_fault c.args.changes c.args.bytes.now _ c.in-Err.ensures
