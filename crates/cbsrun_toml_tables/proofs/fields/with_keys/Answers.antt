use Rattle.std.proofs.Common.{refl}
use Rattle.toml.specs.View.{table_view}
use Rattle.cbsrun_toml_tables.specs.Fields.{with_keys}
use Rattle.cbsrun_toml_tables.proofs.Tables.{has_only-either, has_all-view}
use Rattle.cbsrun_toml_tables.proofs.fields.with_keys.Goals as goal

pub returns-then-not-are_among : goal.returns-then-not-are_among
unfolding with_keys
returns-then-not-are_among c =
    let only = has_only-either c.args.required.now c.args.optional.now c.args.table.now.entries in
    rw (← only, ← c.are_among.ensures, c.if-not-are_among.true) refl

pub returns-then-not-has_all : goal.returns-then-not-has_all
unfolding with_keys
returns-then-not-has_all c =
    let only = has_only-either c.args.required.now c.args.optional.now c.args.table.now.entries in
    let all = has_all-view c.args.required.now (table_view c.args.table.now) in
    rw (← only, ← c.are_among.ensures, c.if-not-are_among.false, all, ← c.has_all.ensures, c.if-not-has_all.true) refl

pub returns : goal.returns
unfolding with_keys
returns c =
    let only = has_only-either c.args.required.now c.args.optional.now c.args.table.now.entries in
    let all = has_all-view c.args.required.now (table_view c.args.table.now) in
    rw (← only, ← c.are_among.ensures, c.if-not-are_among.false, all, ← c.has_all.ensures, c.if-not-has_all.false) refl
