use Rattle.std.proofs.Common.{◌≡◌, ◌∙◌, true, false, [], Ok, Err, map, sym, ap, arith, inl, inr}
use Rattle.toml.specs.View.{view, table_view}
use Rattle.cbsrun_toml_tables.specs.declared.fault.FileFault.{FileFault}
use Rattle.cbsrun_toml_tables.specs.declared.fault.FileKind.TheVariants.{OutOfMemory}
use Rattle.cbsrun_toml_tables.specs.Documents.{taken_in}
use Rattle.cbsrun_loads.specs.Faults.{entry_faults, load_faults, none_named}
use Rattle.cbsrun_loads.specs.Spelling.{admitted_entry, named_view}
use Rattle.cbsrun_loads.specs.TopTables.{top_table, top_view}
use Rattle.cbsrun_loads.proofs.faults.load_faults.Goals as goal

not_both : true ≡ false → ⊥
not_both e = cc

pub note-requires : goal.note-requires
note-requires c = let none = (c.new-faults.ensures 0).count in omega (arith, none)

pub returns-in-Err-clause-faults : goal.returns-in-Err-clause-faults
unfolding load_faults
returns-in-Err-clause-faults c =
    let top : top_table (table_view c.args.table.now) ≡ Err c.in-Err.kind = sym c.in-Err.ensures.value in
    rw top (c.in_ok-note-in-Err.ensures.noted [] (c.new-faults.ensures c.args.most))

pub returns-in-Ok-servers_of-clause-faults : goal.returns-in-Ok-servers_of-clause-faults
unfolding load_faults entry_faults
returns-in-Ok-servers_of-clause-faults c =
    let top : top_table (table_view c.args.table.now) ≡ Ok (top_view c.in-Ok.top) = sym c.in-Ok.ensures.value in
    let servers : taken_in (admitted_entry c.in-Ok.top.tick) 0 (none_named c.in-Ok.top.bound) (map view c.in-Ok.top.servers.now.items)
    ≡ Ok (named_view c.in-Ok-servers_of.names.items c.in-Ok-servers_of.setup) =
    rw c.deref.ensures.value at c.in-Ok-servers_of.ensures.servers in
    let told = rw (c.deref-in-Ok-servers_of.ensures.value, c.plan.ensures.value, c.deref-in-Ok-servers_of-2.ensures.value) at c.source_faults.ensures in
    rw (top, servers) told

pub returns-clause-faults : goal.returns-clause-faults
unfolding load_faults entry_faults
returns-clause-faults c =
    let top : top_table (table_view c.args.table.now) ≡ Ok (top_view c.in-Ok.top) = sym c.in-Ok.ensures.value in
    let told = rw c.deref-2.ensures.value at c.server_faults.ensures in
    elim c.in-Err-servers_of.ensures.servers [
      | inl m ↦
          let kind : c.in-Err-servers_of.fault.kind ≡ OutOfMemory = ap (λ (f : FileFault). f.kind) m in
          let is : c.eq.result ≡ true = rw kind at c.eq.ensures in
          absurd (not_both (sym is ∙ c.if-eq.false))
      | inr fault ↦
          let servers : taken_in (admitted_entry c.in-Ok.top.tick) 0 (none_named c.in-Ok.top.bound) (map view c.in-Ok.top.servers.now.items)
          ≡ Err c.in-Err-servers_of.fault = rw c.deref.ensures.value at fault in
          rw (top, servers) told
    ]
