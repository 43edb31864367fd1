use Rattle.std.proofs.Common.{◌≡◌, ℕ, List, [], Ok, Bor, Option, Some, None, map, option_map, length, string_bytes, sym, refl}
use Rattle.std.specs.Prelude.{is_some}
use Rattle.toml.specs.View.{view, table_view}
use Rattle.cbs_rules.specs.Setups.{no_servers}
use Rattle.cbsrun_loads.specs.Spelling.{Named, admitted_entry}
use Rattle.cbsrun_toml_tables.specs.Documents.{taken_in}
use Rattle.cbsrun_records.specs.Spelling.{record_in, steps_in}
use Rattle.cbsrun_records.specs.TopTables.{top_table, top_view}
use Rattle.cbsrun_records.proofs.file.record_in.Goals as goal

-- a tape is there, however it is seen
seen_tape : (tape : Option (Bor (List ℕ))) → is_some (option_map (λ (t : Bor (List ℕ)). t.now) tape) ≡ is_some tape
seen_tape None = refl
seen_tape (Some t) = refl

pub returns : goal.returns
unfolding record_in
returns c =
    let tape = option_map (λ (t : Bor (List ℕ)). t.now) c.args.tape in
    let top : top_table (is_some tape) (table_view c.args.table.now) ≡ Ok (top_view c.in-Ok.top) =
    rw (seen_tape c.args.tape, ← c.is_some.ensures) (sym c.in-Ok.ensures.value) in
    let named : Named = record { names = map string_bytes c.in_ok-names.names.items; setup = c.in_ok-names.setup } in
    let servers : taken_in (admitted_entry c.in-Ok.top.tick) 0 (record { names = []; setup = no_servers c.in-Ok.top.bound })
    (map view c.in-Ok.top.servers.now.items) ≡ Ok named =
    rw c.deref.ensures.value at c.in_ok-names.ensures.servers in
    let entries : steps_in (length c.in_ok-names.setup.plan.rates) (map view c.in-Ok.top.steps.now) tape ≡ Ok c.in_ok-entries.entries.items =
    rw (c.len-servers.ensures.value, c.plan.ensures.value) at c.in_ok-entries.ensures.entries in
    rw (top, servers, entries) refl
