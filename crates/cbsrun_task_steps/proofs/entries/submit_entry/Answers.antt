use Rattle.std.proofs.Common.{◌≡◌, ℕ, ◌≤◌, Bool, true, false, List, length, map, Ok, Err, refl, sym, rules}
use Rattle.std.proofs.lemmas.Bool.{leb-true, and_parts}
use Rattle.std.proofs.lemmas.List.{length-map}
use Rattle.std.specs.Prelude.{if◌then◌else◌}
use Rattle.toml.specs.Data.{Data}
use Rattle.toml.specs.View.{view}
use Rattle.cbs_rate.specs.Limits.{most_units}
use Rattle.cbsrun_toml_tables.specs.declared.fault.FileKind.{FileKind}
use Rattle.cbsrun_toml_tables.specs.Fields.{sized}
use Rattle.cbsrun_task_steps.specs.Entries.{submit_entry}
use Rattle.cbsrun_task_steps.proofs.entries.submit_entry.Goals as goal

-- a test was passed if it gave no fault
passed : (b : Bool) (e : FileKind) (x y : Unit {0}) → (if b then Ok x else Err e) ≡ Ok y → b ≡ true
passed true e x y is = refl
passed false e x y is = cc

-- what is sized has no more than the most values
few_sized : (low high : ℕ) (ds : List Data) → sized low high ds ≡ Ok (tt {0}) → length ds ≤ high
few_sized low high ds is = leb-true _ _ (and_parts _ _ (passed _ _ _ _ is)).1

pub returns-in_err-fields-clause-step : goal.returns-in_err-fields-clause-step
unfolding submit_entry
returns-in_err-fields-clause-step c = search rules

pub returns-in_err-server-clause-step : goal.returns-in_err-server-clause-step
unfolding submit_entry
returns-in_err-server-clause-step c = search rules

pub returns-in_err-sized-clause-step : goal.returns-in_err-sized-clause-step
unfolding submit_entry
returns-in_err-sized-clause-step c = search rules

pub returns-in_err-units-clause-step : goal.returns-in_err-units-clause-step
unfolding submit_entry
returns-in_err-units-clause-step c = search rules

pub returns-in_err-job-clause-step : goal.returns-in_err-job-clause-step
unfolding submit_entry
returns-in_err-job-clause-step c = search rules

pub returns-clause-step : goal.returns-clause-step
unfolding submit_entry
returns-clause-step c = search rules

pub returns-clause-named : goal.returns-clause-named
returns-clause-named c = c.in_ok-server.ensures.high

pub job_of-requires : goal.job_of-requires
job_of-requires c =
    let few = few_sized 1 most_units (map view c.deref.result.now) (sym c.in_ok-sized.ensures) in
    rw (c.in_ok-units.ensures.len, c.deref-2.ensures.value, ← c.deref.ensures.value) (rw length-map at few)
