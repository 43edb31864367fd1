use Rattle.std.proofs.Common.{inl, inr, map, string_bytes, sym, ◌∙◌}
use Rattle.std.proofs.lemmas.Result.{err_from_is_err_and}
use Rattle.toml.specs.View.{view}
use Rattle.cbsrun_toml_tables.specs.declared.fault.Place.TheVariants.{Server}
use Rattle.cbsrun_toml_tables.specs.Documents.{at, no_memory}
use Rattle.cbsrun_toml_tables.proofs.Places.{Gives-at, gives_ok, gives_err, at_ok}
use Rattle.cbsrun_toml_tables.proofs.TakenIn.{taken_on, taken_ends, taken_done}
use Rattle.cbsrun_loads.specs.Spelling.{Named, admitted_entry}
use Rattle.cbsrun_loads.proofs.file.servers_of.Goals as goal

pub returns-in_err-at-clause-servers : goal.returns-in_err-at-clause-servers
returns-in_err-at-clause-servers c =
    let i = c.loop-i.i in
    let v = c.index-entries-i.result in
    let so_far : Named = record { names = map string_bytes c.loop-i.names.items; setup = c.loop-i.setup } in
    let next : Named = record { names = map string_bytes c.admit_entry.new.names.items; setup = c.admit_entry.new.setup } in
    let p = err_from_is_err_and c.from_residual.result c.from_residual.ensures.1 in
    let given = Gives-at (Server i) (λ _. next) c.admit_entry.result (admitted_entry c.args.tick so_far (view v)) c.admit_entry.ensures.servers in
    let fault = gives_err no_memory (λ _. next) (at (Server i) c.admit_entry.result) _ c.in_err-at.field-0.0 given (sym c.at.ensures ∙ c.in_err-at.was) in
    rw (p.1, p.2) (elim fault [
      | inl m ↦ inl m
      | inr f ↦ inr (taken_ends view (admitted_entry c.args.tick) i so_far c.args.entries.now v _ c.in_err-at.field-0.0 c.loop-i-test.true
          (rw (← c.index-entries-i.is) f) c.loop-i.invariant.so_far)
    ])

pub loop-i-preserved : goal.loop-i-preserved
loop-i-preserved c =
    let i = c.loop-i.i in
    let v = c.index-entries-i.result in
    let so_far : Named = record { names = map string_bytes c.loop-i.names.items; setup = c.loop-i.setup } in
    let next : Named = record { names = map string_bytes c.admit_entry.new.names.items; setup = c.admit_entry.new.setup } in
    let given = Gives-at (Server i) (λ _. next) c.admit_entry.result (admitted_entry c.args.tick so_far (view v)) c.admit_entry.ensures.servers in
    let took = gives_ok no_memory (λ _. next) (at (Server i) c.admit_entry.result) _ c.in_ok-at.field-0 given (sym c.at.ensures ∙ c.in_ok-at.was) in
    let is = at_ok (Server i) c.admit_entry.result c.in_ok-at.field-0 (sym c.at.ensures ∙ c.in_ok-at.was) in
    record {
      so_far = taken_on view (admitted_entry c.args.tick) i so_far next c.args.entries.now v _ c.loop-i-test.true (rw (← c.index-entries-i.is) took)
          c.loop-i.invariant.so_far;
      named = rw is at c.admit_entry.ensures.named;
    }

pub returns-clause-servers : goal.returns-clause-servers
returns-clause-servers c =
    taken_done view (admitted_entry c.args.tick) c.loop-i.i (record { names = map string_bytes c.loop-i.names.items; setup = c.loop-i.setup })
    c.args.entries.now _
    c.loop-i-test.false c.loop-i.invariant.so_far
