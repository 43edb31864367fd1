use Rattle.std.proofs.Common.{◌≡◌, codes, Ok, Err, map, length, inr, refl, sym, ap, ◌∙◌, rules}
use Rattle.toml.specs.Data.{array, no_items}
use Rattle.toml.specs.View.{view, table_view, members_view}
use Rattle.toml.specs.declared.value.Value.{Array}
use Rattle.toml.proofs.Views.{view-Array}
use Rattle.cbs_rules.specs.Setups.{no_servers}
use Rattle.cbsrun_toml_tables.specs.Documents.{taken_in}
use Rattle.cbsrun_tasks.specs.Spelling.{admitted_entry}
use Rattle.cbsrun_tasks.specs.TopTables.{top_table, top_view}
use Rattle.cbsrun_toml.specs.Reading.{insert_member}
use Rattle.cbsrun_toml.proofs.Members.{members_view-insert_entry}
use Rattle.cbsrun_tasks.proofs.ReadApart.{top_fault, setup_fault, steps_fault, whole_file}
use Rattle.cbsrun_tasks.proofs.file.finish.Goals as goal

pub returns-in-Err : goal.returns-in-Err
returns-in-Err c bytes utf8 h =
    let (ds, parsed, none, spells) = rw c.in_ok-read.was at h in
    let ms = table_view c.args.document.table in
    let seen_table : table_view c.insert.new.self ≡ insert_member (codes "step") (array no_items) ms =
    ap members_view c.in-Ok-insert.ensures.entries ∙ members_view-insert_entry c.args.document.table.entries c.in-Ok.key (Array c.new.result)
    ∙ rw (c.in-Ok.ensures.ok, view-Array c.new.result, c.new.ensures.items) refl in
    let bad : top_table (insert_member (codes "step") (array no_items) ms) ≡ Err c.in-Err.kind = rw seen_table at (sym c.in-Err.ensures.value) in
    inr (rw c.faulty-in-Err.ensures (top_fault bytes ds ms utf8 parsed none c.in-Err.kind bad))

pub returns-in-Err-setup_of : goal.returns-in-Err-setup_of
returns-in-Err-setup_of c bytes utf8 h =
    let (ds, parsed, none, spells) = rw c.in_ok-read.was at h in
    let ms = table_view c.args.document.table in
    let seen_table : table_view c.insert.new.self ≡ insert_member (codes "step") (array no_items) ms =
    ap members_view c.in-Ok-insert.ensures.entries ∙ members_view-insert_entry c.args.document.table.entries c.in-Ok.key (Array c.new.result)
    ∙ rw (c.in-Ok.ensures.ok, view-Array c.new.result, c.new.ensures.items) refl in
    let good : top_table (insert_member (codes "step") (array no_items) ms) ≡ Ok (top_view c.in-Ok-top_table.top) =
    rw seen_table at (sym c.in-Ok-top_table.ensures.value) in
    let bad : taken_in (admitted_entry c.in-Ok-top_table.top.mode) 0 (no_servers c.in-Ok-top_table.top.bound) (map view c.in-Ok-top_table.top.servers.now.items)
    ≡ Err c.in-Err-setup_of.fault = rw (← c.deref.ensures.value) (sym c.in-Err-setup_of.ensures) in
    inr (setup_fault bytes ds ms utf8 parsed none (top_view c.in-Ok-top_table.top) good c.in-Err-setup_of.fault bad)

pub returns : goal.returns
returns c bytes utf8 h =
    let (ds, parsed, none, spells) = rw c.in_ok-read.was at h in
    let ms = table_view c.args.document.table in
    let seen_table : table_view c.insert.new.self ≡ insert_member (codes "step") (array no_items) ms =
    ap members_view c.in-Ok-insert.ensures.entries ∙ members_view-insert_entry c.args.document.table.entries c.in-Ok.key (Array c.new.result)
    ∙ rw (c.in-Ok.ensures.ok, view-Array c.new.result, c.new.ensures.items) refl in
    let good : top_table (insert_member (codes "step") (array no_items) ms) ≡ Ok (top_view c.in-Ok-top_table.top) =
    rw seen_table at (sym c.in-Ok-top_table.ensures.value) in
    let taken : taken_in (admitted_entry c.in-Ok-top_table.top.mode) 0 (no_servers c.in-Ok-top_table.top.bound)
    (map view c.in-Ok-top_table.top.servers.now.items)
    ≡ Ok c.in-Ok-setup_of.setup = rw (← c.deref.ensures.value) (sym c.in-Ok-setup_of.ensures) in
    let set = c.are_of.ensures c.if-not-are_of.false in
    let same : c.in-Ok-top_table.top.format ≡ c.args.document.terms.format = set.0 in
    let count : length c.in-Ok-setup_of.setup.plan.rates ≡ c.args.document.terms.servers = search rules in
    let spelled = spells.0 ∙ sym c.in-Err-into_steps.ensures.steps in
    inr (steps_fault bytes ds ms utf8 parsed none (top_view c.in-Ok-top_table.top) good c.in-Ok-setup_of.setup taken _ (rw (count, same) spelled))

pub returns-in-Ok-into_steps : goal.returns-in-Ok-into_steps
returns-in-Ok-into_steps c bytes utf8 h =
    let (ds, parsed, none, spells) = rw c.in_ok-read.was at h in
    let ms = table_view c.args.document.table in
    let seen_table : table_view c.insert.new.self ≡ insert_member (codes "step") (array no_items) ms =
    ap members_view c.in-Ok-insert.ensures.entries ∙ members_view-insert_entry c.args.document.table.entries c.in-Ok.key (Array c.new.result)
    ∙ rw (c.in-Ok.ensures.ok, view-Array c.new.result, c.new.ensures.items) refl in
    let good : top_table (insert_member (codes "step") (array no_items) ms) ≡ Ok (top_view c.in-Ok-top_table.top) =
    rw seen_table at (sym c.in-Ok-top_table.ensures.value) in
    let taken : taken_in (admitted_entry c.in-Ok-top_table.top.mode) 0 (no_servers c.in-Ok-top_table.top.bound)
    (map view c.in-Ok-top_table.top.servers.now.items)
    ≡ Ok c.in-Ok-setup_of.setup = rw (← c.deref.ensures.value) (sym c.in-Ok-setup_of.ensures) in
    let set = c.are_of.ensures c.if-not-are_of.false in
    let same : c.in-Ok-top_table.top.format ≡ c.args.document.terms.format = set.0 in
    let count : length c.in-Ok-setup_of.setup.plan.rates ≡ c.args.document.terms.servers = search rules in
    let spelled = spells.0 ∙ sym c.in-Ok-into_steps.ensures.steps in
    whole_file bytes ds ms utf8 parsed none (top_view c.in-Ok-top_table.top) good c.in-Ok-setup_of.setup taken _ (rw (count, same) spelled)
