use Rattle.std.proofs.Common.{◌≡◌, [], true, false, Some, None, is_some, string_bytes, sym, subst, ◌∙◌}
use Rattle.toml.specs.Data.{get_member}
use Rattle.toml.specs.Tables.{put}
use Rattle.toml.specs.View.{table_view, view}
use Rattle.cbsrun_toml.specs.Reading.{nodes_of}
use Rattle.cbsrun_toml.proofs.Puts.{put_new, put_again, is_none, has_key, nodes_of-insert}
use Rattle.cbsrun_toml.proofs.values.put.Goals as goal

pub returns-then-contains_key : goal.returns-then-contains_key
returns-then-contains_key c e =
    let k = string_bytes c.in_ok-key.key in
    let there : is_some (get_member k (table_view c.args.table.now)) ≡ true =
    sym (has_key k c.args.table.now.entries) ∙ rw (← c.as_str.ensures.value) (sym c.contains_key.ensures ∙ c.if-contains_key.true) in
    subst (λ q. put q (view c.args.value) (nodes_of (table_view c.args.table.now)) ≡ None) (sym c.in_ok-key.ensures.key)
    (put_again k (view c.args.value) (table_view c.args.table.now) there)

pub returns-in-Ok : goal.returns-in-Ok
returns-in-Ok c =
    let k = string_bytes c.in_ok-key.key in
    let none : is_some (get_member k (table_view c.args.table.now)) ≡ false =
    sym (has_key k c.args.table.now.entries) ∙ rw (← c.as_str.ensures.value) (sym c.contains_key.ensures ∙ c.if-contains_key.false) in
    let done : put ([], k) (view c.args.value) (nodes_of (table_view c.args.table.now)) ≡ Some (nodes_of (table_view c.insert.new.self)) =
    put_new k (view c.args.value) (table_view c.args.table.now) (is_none k _ none)
    ∙ rw (c.in-Ok.ensures.entries, nodes_of-insert c.args.table.now.entries c.in_ok-key.key c.args.value) in
    subst (λ q. put q (view c.args.value) (nodes_of (table_view c.args.table.now)) ≡ Some (nodes_of (table_view c.insert.new.self)))
    (sym c.in_ok-key.ensures.key) done
