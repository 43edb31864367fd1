use Rattle.std.proofs.Common.{◌≡◌, ℕ, [], Ok, map, string_bytes, sym, refl, arith, Vec, List, length, Err, inl, inr}
use Rattle.std.specs.declared.alloc.Global.{Global}
use Rattle.std.proofs.lemmas.List.{length-map}
use Rattle.std.proofs.lemmas.Result.{err_from_is_err_and}
use Rattle.std.proofs.lemmas.Grind.{common_steps}
use Rattle.toml.specs.View.{view, table_view}
use Rattle.cbs_rules.specs.Setups.{no_servers}
use Rattle.cbsrun_toml_tables.specs.declared.fault.Place.TheVariants.{Source as AtSource}
use Rattle.cbsrun_toml_tables.specs.Documents.{at, taken_in}
use Rattle.cbsrun_toml_tables.specs.Fields.{each_from}
use Rattle.cbsrun_entries.specs.Sources.{sources_view}
use Rattle.cbsrun_loads.specs.Due.{due_in_plan, source_entry}
use Rattle.cbsrun_loads.specs.Spelling.{Named, load_in, admitted_entry}
use Rattle.cbsrun_loads.specs.TopTables.{top_table, top_view}
use Rattle.cbsrun_loads.proofs.Pairs.{paired_terms, paired_listed}
use Rattle.cbsrun_loads.proofs.file.load_in.Goals as goal

-- found without these, but only by the last of several tactics
pub returns-in-Err : goal.returns-in-Err
unfolding load_in
returns-in-Err c = grind (arith, common_steps)

pub returns-in_err-names : goal.returns-in_err-names
unfolding load_in
returns-in_err-names c = grind (arith, common_steps)

pub returns-in_err-sources : goal.returns-in_err-sources
unfolding load_in
returns-in_err-sources c =
    let top : top_table (table_view c.args.table.now) ≡ Ok (top_view c.in-Ok.top) = sym c.in-Ok.ensures.value in
    let named : Named = record { names = map string_bytes c.in_ok-names.names.items; setup = c.in_ok-names.setup } in
    let servers : taken_in (admitted_entry c.in-Ok.top.tick) 0 (record { names = []; setup = no_servers c.in-Ok.top.bound })
    (map view c.in-Ok.top.servers.now.items) ≡ Ok named =
    rw c.deref.ensures.value at c.in_ok-names.ensures.servers in
    let p = err_from_is_err_and c.from_residual-in_err-sources.result c.from_residual-in_err-sources.ensures.1 in
    rw (p.1, p.2) (elim c.in_err-sources.ensures.sources [
      | inl m ↦ inl m
      | inr f ↦
          let sources : each_from 0 (λ i entry. at (AtSource i)
          (source_entry c.in-Ok.top.tick (map string_bytes c.in_ok-names.names.items) (due_in_plan c.in_ok-names.setup.plan.rates) entry))
          (map view c.in-Ok.top.sources.now.items) ≡ Err c.in_err-sources.field-0.0 =
          rw (c.deref-2.ensures.value, c.plan.ensures.value, c.deref-3.ensures.value) at f in
          inr (rw (top, servers, sources) refl)
    ])

pub returns : goal.returns
unfolding load_in
returns c =
    let top : top_table (table_view c.args.table.now) ≡ Ok (top_view c.in-Ok.top) = sym c.in-Ok.ensures.value in
    let named : Named = record { names = map string_bytes c.in_ok-names.names.items; setup = c.in_ok-names.setup } in
    let servers : taken_in (admitted_entry c.in-Ok.top.tick) 0 (record { names = []; setup = no_servers c.in-Ok.top.bound })
    (map view c.in-Ok.top.servers.now.items) ≡ Ok named =
    rw c.deref.ensures.value at c.in_ok-names.ensures.servers in
    let sources : each_from 0 (λ i entry. at (AtSource i)
    (source_entry c.in-Ok.top.tick (map string_bytes c.in_ok-names.names.items) (due_in_plan c.in_ok-names.setup.plan.rates) entry))
    (map view c.in-Ok.top.sources.now.items) ≡ Ok (sources_view (c.in_ok-sources.sources, c.in_ok-sources.listed)) =
    rw (c.deref-2.ensures.value, c.plan.ensures.value, c.deref-3.ensures.value) at c.in_ok-sources.ensures.sources in
    let ls : List (List ℕ) = map (λ (v : Vec ℕ Global). v.items) c.in_ok-sources.listed.items in
    let same : length ls ≡ length c.in_ok-sources.sources.items = rw length-map c.in_ok-sources.ensures.paired in
    let terms = paired_terms c.in_ok-sources.sources.items ls same in
    let listed = paired_listed c.in_ok-sources.sources.items ls same in
    rw (top, servers, sources, terms, listed) refl

pub invariant_of-result : goal.invariant_of-result
invariant_of-result c =
    let count = rw c.deref-3.ensures.value at c.in_ok-sources.ensures.count in
    record {
      named = grind (arith, common_steps);
      moded = grind (arith, common_steps);
      some_backlog = c.in-Ok.ensures.backlog.0;
      small_backlog = c.in-Ok.ensures.backlog.1;
      some_ticks = c.in-Ok.ensures.until.0;
      few_ticks = c.in-Ok.ensures.until.1;
      few_sources = omega (arith, c.in-Ok.ensures.sources);
      lawful = rw (c.deref-2.ensures.value, c.in_ok-names.ensures.named) at c.in_ok-sources.ensures.lawful;
      listed = c.in_ok-sources.ensures.listed;
    }
