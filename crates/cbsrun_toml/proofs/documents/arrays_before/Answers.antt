use Rattle.std.proofs.Common.{◌≡◌, ◌==◌, ◌-◌, length, false, le_refl, Some, None, [], ◌∷◌, string_bytes, refl, sym, ap, ◌∙◌, rules, arith}
use Rattle.std.proofs.lemmas.Grind.{common_steps}
use Rattle.std.proofs.lemmas.Slice.Eq.{bytes_eq-Decides}
use Rattle.toml_parser.specs.Lexical.{skip_blank}
use Rattle.toml.specs.Data.{array, table, push_item, get_member}
use Rattle.toml.specs.Parse.{line}
use Rattle.toml.specs.Tables.{open_array, insert, close, array_table}
use Rattle.toml.specs.View.{view, table_view, members_view}
use Rattle.toml.specs.declared.value.Value.{Array}
use Rattle.toml.proofs.Views.{view-Array}
use Rattle.cbsrun_toml.proofs.Puts.{has_key, is_none}
use Rattle.cbsrun_toml.proofs.Arrays.{at_end, refused_line, no_node, refused_tables, begins, next_lines, next_members}
use Rattle.cbsrun_toml.proofs.Members.{members_view-insert_entry}
use Rattle.cbsrun_toml_tokens.proofs.Results.{stops_by}
use Rattle.cbsrun_toml.proofs.documents.arrays_before.Goals as goal

pub arrays-init : goal.arrays-init
arrays-init c = (search rules, le_refl _, λ n root path e h. (n, root, path, record { so_far = refl; same = e; room = h }))

pub returns-then-is_empty : goal.returns-then-is_empty
returns-then-is_empty c n root path e h =
    let l = c.arrays in
    let (m, now, last, far) = l.invariant.2 n root path e h in
    let start_is = c.skip_blank-start.ensures.rest in
    let over : length (skip_blank l.rest.now) ≡ 0 = grind (arith, common_steps) in
    at_end far over

pub returns-in_err-key : goal.returns-in_err-key
returns-in_err-key c n root path e h =
    let l = c.arrays in
    let (m, now, last, far) = l.invariant.2 n root path e h in
    let start_is = c.skip_blank-start.ensures.rest in
    let more : (length (skip_blank l.rest.now) == 0) ≡ false = grind (arith, common_steps) in
    stops_by _ _ c.from_residual.result c.in_err-key.field-0.0 _ c.from_residual.ensures.1 (λ y p. p) λ refused.
    refused_line far more (rw start_is at (c.in_err-key.ensures.value refused))

pub returns-then-eq : goal.returns-then-eq
returns-then-eq c n root path e h =
    let l = c.arrays in
    let (m, now, last, far) = l.invariant.2 n root path e h in
    let start_is = c.skip_blank-start.ensures.rest in
    let more : (length (skip_blank l.rest.now) == 0) ≡ false = grind (arith, common_steps) in
    let key = string_bytes c.in_ok-key.key in
    let is_last : key ≡ c.args.last.now = sym c.as_str-in-arrays.ensures.value ∙ (bytes_eq-Decides _ _).0 (sym c.if-eq.ensures) in
    let read : line (skip_blank l.rest.now) ≡ Some ((([], c.args.last.now), array_table), c.in_ok-key.body.now) =
    rw (← is_last) (rw start_is at c.in_ok-key.ensures.value) in
    let own : get_member key (table_view l.table) ≡ None =
    is_none key (table_view l.table) (sym (has_key key l.table.entries) ∙ rw (← c.as_str.ensures.value) (sym c.contains_key.ensures ∙ c.if-contains_key.false)) in
    let free : get_member c.args.last.now (table_view l.table) ≡ None = rw is_last at own in
    let shorter = c.in_ok-key.ensures.shorter in
    let before = c.skip_blank-start.ensures.within in
    let room = far.room in
    begins far more c.args.last.now c.in_ok-key.body.now read free (omega arith)

pub returns-in_err-tables : goal.returns-in_err-tables
returns-in_err-tables c n root path e h =
    let l = c.arrays in
    let (m, now, last, far) = l.invariant.2 n root path e h in
    let start_is = c.skip_blank-start.ensures.rest in
    let more : (length (skip_blank l.rest.now) == 0) ≡ false = grind (arith, common_steps) in
    let key = string_bytes c.in_ok-key.key in
    let read : line (skip_blank l.rest.now) ≡ Some ((([], key), array_table), c.in_ok-key.body.now) = rw start_is at c.in_ok-key.ensures.value in
    let free : get_member key (table_view l.table) ≡ None =
    is_none key (table_view l.table) (sym (has_key key l.table.entries) ∙ rw (← c.as_str.ensures.value) (sym c.contains_key.ensures ∙ c.if-contains_key.false)) in
    let none = no_node far more key c.in_ok-key.body.now read free in
    let shorter = c.in_ok-key.ensures.shorter in
    let before = c.skip_blank-start.ensures.within in
    let room = far.room in
    let is : c.as_str-in-arrays-2.result.now ≡ key = c.as_str-in-arrays-2.ensures.value in
    stops_by _ _ c.from_residual-in_err-tables.result c.in_err-tables.field-0.0 _ c.from_residual-in_err-tables.ensures.1 (λ y p. p) λ refused.
    let bad = rw is at (c.in_err-tables.ensures.value (m - 1) now) in
    refused_tables far more key c.in_ok-key.body.now read free
    (bad none (omega arith) refused)

pub arrays-preserved : goal.arrays-preserved
arrays-preserved c =
    let shorter = c.in_ok-key.ensures.shorter in
    let before = c.skip_blank-start.ensures.within in
    let within = c.in_ok-tables.ensures.within in (
      search rules,
      omega (arith, c.arrays.invariant.1),
      λ n root path e h.
          let l = c.arrays in
          let (m, now, last, far) = l.invariant.2 n root path e h in
          let room = far.room in
          let start_is = c.skip_blank-start.ensures.rest in
          let more : (length (skip_blank l.rest.now) == 0) ≡ false = grind (arith, common_steps) in
          let key = string_bytes c.in_ok-key.key in
          let body = c.in_ok-key.body.now in
          let read : line (skip_blank l.rest.now) ≡ Some ((([], key), array_table), body) = rw start_is at c.in_ok-key.ensures.value in
          let free : get_member key (table_view l.table) ≡ None =
          is_none key (table_view l.table) (sym (has_key key l.table.entries) ∙ rw (← c.as_str.ensures.value) (sym c.contains_key.ensures ∙ c.if-contains_key.false)) in
          let none = no_node far more key body read free in
          let is : c.as_str-in-arrays-2.result.now ≡ key = c.as_str-in-arrays-2.ensures.value in
          let good = rw is at (c.in_ok-tables.ensures.value (m - 1) now) in
          let (k, space, done, latest, lines_are, items_are) = good none (omega arith) in
          let d = view (Array c.in_ok-tables.tables) in
          let array_is : d ≡ array (push_item done (table (close latest))) = rw (view-Array c.in_ok-tables.tables, items_are) refl in
          let new : table_view c.insert.new.self ≡ _ =
          ap members_view c.in-Ok.ensures.entries ∙ members_view-insert_entry l.table.entries c.in_ok-key.key (Array c.in_ok-tables.tables) in (
            k,
            insert key (open_array done latest) now,
            key ∷ [],
            record {
              so_far = next_lines far more key body read free k done latest c.in_ok-tables.after.now lines_are;
              same = next_members far more key body read free k done latest c.in_ok-tables.after.now d array_is ∙ sym new;
              room = space;
            },
          ),
    )
