use Rattle.std.proofs.Common.{◌≡◌, ◌==◌, ◌-◌, true, false, le_refl, ◌∙◌, rules, arith}
use Rattle.std.proofs.Common.{Some}
use Rattle.toml_parser.specs.Strings.{Key}
use Rattle.toml_parser.specs.Reading.{key_view}
use Rattle.toml.specs.Parse.{key_equals}
use Rattle.toml.specs.View.{table_view}
use Rattle.std.proofs.Common.{◌<◌, ◌||◌, length}
use Rattle.toml.proofs.Turns.{val_atom, val_open_array, val_open_table, val_deep}
use Rattle.toml.proofs.Views.{view-Array, view-Table}
use Rattle.toml.proofs.Turns.{keyval_ok, keyval_no_key, keyval_no_value}
use Rattle.toml.proofs.Turns.{items_end, items_more, items_bad, items_bad_end, members_end, members_more, members_bad, members_bad_put, members_bad_end}
use Rattle.toml.proofs.Views.{items_view-push}
use Rattle.cbsrun_toml_tokens.proofs.Results.{gives_err}
use Rattle.cbsrun_toml.proofs.Puts.{close-nodes_of}
use Rattle.toml_parser.specs.Lexical.{first, skip_blank}
use Rattle.toml.specs.Parse.{val}
use Rattle.std.proofs.lemmas.Grind.{common_steps}
use Rattle.cbsrun_toml.proofs.values.+value.Goals as goal

pub array-items-init : goal.array-items-init
array-items-init c c' = (search rules, le_refl _, λ n h. (n, h, rw c'.new-found.ensures.items))

pub array-returns-then-first-eq93-clause-value : goal.array-returns-then-first-eq93-clause-value
array-returns-then-first-eq93-clause-value c c' n h =
    let l = c'.items in
    let (m, room, loop) = l.invariant.2 n h in
    let closing : (first (skip_blank l.rest.now) == 93) ≡ true = grind (arith, common_steps) in
    loop ∙ items_end (val c'.args.depth) m _ l.rest.now (omega arith) closing ∙ rw (c'.skip.ensures.rest, c'.skip_blank-start.ensures.rest)

pub array-returns-in_err-item-clause-value : goal.array-returns-in_err-item-clause-value
array-returns-in_err-item-clause-value c c' n h =
    let l = c'.items in
    let start_is = c'.skip_blank-start.ensures.rest in
    let other : (first (skip_blank l.rest.now) == 93) ≡ false = grind (arith, common_steps) in
    let (m, room, loop) = l.invariant.2 n h in
    gives_err _ c'.from_residual.result _ c'.in_err-item.field-0.0 _ c'.from_residual.ensures.1 (λ y p. p) λ refused.
    loop ∙ items_bad (val c'.args.depth) m _ l.rest.now (omega arith) other (rw start_is at (c'.in_err-item.ensures.value refused))

pub array-returns-in_err-rest-clause-value : goal.array-returns-in_err-rest-clause-value
array-returns-in_err-rest-clause-value c c' n h =
    let l = c'.items in
    let start_is = c'.skip_blank-start.ensures.rest in
    let other : (first (skip_blank l.rest.now) == 93) ≡ false = grind (arith, common_steps) in
    let (m, room, loop) = l.invariant.2 n h in
    gives_err _ c'.from_residual-in_err-rest.result _ c'.in_err-rest.field-0.0 _ c'.from_residual-in_err-rest.ensures.1 (λ y p. p) λ refused.
    loop ∙ items_bad_end (val c'.args.depth) m _ l.rest.now _ _ (omega arith) other (rw start_is at c'.in_ok-item.ensures.value)
    (c'.in_err-rest.ensures.value refused)

pub array-items-preserved : goal.array-items-preserved
array-items-preserved c c' =
    let l = c'.items in
    let start_is = c'.skip_blank-start.ensures.rest in
    let other : (first (skip_blank l.rest.now) == 93) ≡ false = grind (arith, common_steps) in
    let shorter = c'.in_ok-item.ensures.shorter in
    let within = c'.in_ok-rest.ensures.within in
    let before = c'.skip_blank-start.ensures.within in (
      search rules,
      omega (arith, l.invariant.1),
      λ n h.
          let (m, room, loop) = l.invariant.2 n h in (
            m - 1,
            omega arith,
            loop ∙ items_more (val c'.args.depth) m _ l.rest.now _ _ _ (omega arith) other
                (rw start_is at c'.in_ok-item.ensures.value) c'.in_ok-rest.ensures.value
                ∙ rw (c'.in-Ok.ensures.items, items_view-push c'.items.found.items c'.in_ok-item.item),
          ),
    )

pub inline_table-members-init : goal.inline_table-members-init
inline_table-members-init c c' = (search rules, le_refl _, λ n h. (n, h, rw c'.new-found.ensures.empty))

pub inline_table-returns-then-first-eq125-clause-value : goal.inline_table-returns-then-first-eq125-clause-value
inline_table-returns-then-first-eq125-clause-value c c' n h =
    let l = c'.members in
    let (m, room, loop) = l.invariant.2 n h in
    let closing : (first (skip_blank l.rest.now) == 125) ≡ true = grind (arith, common_steps) in
    loop ∙ members_end (val c'.args.depth) m _ l.rest.now (omega arith) closing
    ∙ rw (c'.skip.ensures.rest, c'.skip_blank-start.ensures.rest, close-nodes_of (table_view l.found))

pub inline_table-returns-in_err-key-clause-value : goal.inline_table-returns-in_err-key-clause-value
inline_table-returns-in_err-key-clause-value c c' n h =
    let l = c'.members in
    let start_is = c'.skip_blank-start.ensures.rest in
    let other : (first (skip_blank l.rest.now) == 125) ≡ false = grind (arith, common_steps) in
    let (m, room, loop) = l.invariant.2 n h in
    gives_err _ c'.from_residual.result _ c'.in_err-key.field-0.0 _ c'.from_residual.ensures.1 (λ y p. p) λ refused.
    loop ∙ members_bad (val c'.args.depth) m _ l.rest.now (omega arith) other
    (keyval_no_key (val c'.args.depth) _ (rw start_is at (c'.in_err-key.ensures.value refused)))

pub inline_table-returns-in_err-member-clause-value : goal.inline_table-returns-in_err-member-clause-value
inline_table-returns-in_err-member-clause-value c c' n h =
    let l = c'.members in
    let start_is = c'.skip_blank-start.ensures.rest in
    let other : (first (skip_blank l.rest.now) == 125) ≡ false = grind (arith, common_steps) in
    let key : Key = key_view c'.in_ok-key.key in
    let read_key : key_equals (skip_blank l.rest.now) ≡ Some (key, c'.in_ok-key.at_value.now) =
    rw c'.skip_blank-start.ensures.rest at c'.in_ok-key.ensures.value in
    let (m, room, loop) = l.invariant.2 n h in
    gives_err _ c'.from_residual-in_err-member.result _ c'.in_err-member.field-0.0 _ c'.from_residual-in_err-member.ensures.1 (λ y p. p) λ refused.
    loop ∙ members_bad (val c'.args.depth) m _ l.rest.now (omega arith) other
    (keyval_no_value (val c'.args.depth) _ _ key read_key (c'.in_err-member.ensures.value refused))

pub inline_table-returns-in_err-put-clause-value : goal.inline_table-returns-in_err-put-clause-value
inline_table-returns-in_err-put-clause-value c c' n h =
    let l = c'.members in
    let start_is = c'.skip_blank-start.ensures.rest in
    let other : (first (skip_blank l.rest.now) == 125) ≡ false = grind (arith, common_steps) in
    let key : Key = key_view c'.in_ok-key.key in
    let read_key : key_equals (skip_blank l.rest.now) ≡ Some (key, c'.in_ok-key.at_value.now) =
    rw c'.skip_blank-start.ensures.rest at c'.in_ok-key.ensures.value in
    let read = keyval_ok (val c'.args.depth) (skip_blank l.rest.now) _ _ key _ read_key c'.in_ok-member.ensures.value in
    let (m, room, loop) = l.invariant.2 n h in
    gives_err _ c'.from_residual-in_err-put.result _ c'.in_err-put.field-0.0 _ c'.from_residual-in_err-put.ensures.1 (λ y p. p) λ refused.
    loop ∙ members_bad_put (val c'.args.depth) m _ l.rest.now key _ _ (omega arith) other read (c'.in_err-put.ensures refused)

pub inline_table-returns-in_err-rest-clause-value : goal.inline_table-returns-in_err-rest-clause-value
inline_table-returns-in_err-rest-clause-value c c' n h =
    let l = c'.members in
    let start_is = c'.skip_blank-start.ensures.rest in
    let other : (first (skip_blank l.rest.now) == 125) ≡ false = grind (arith, common_steps) in
    let key : Key = key_view c'.in_ok-key.key in
    let read_key : key_equals (skip_blank l.rest.now) ≡ Some (key, c'.in_ok-key.at_value.now) =
    rw c'.skip_blank-start.ensures.rest at c'.in_ok-key.ensures.value in
    let read = keyval_ok (val c'.args.depth) (skip_blank l.rest.now) _ _ key _ read_key c'.in_ok-member.ensures.value in
    let (m, room, loop) = l.invariant.2 n h in
    gives_err _ c'.from_residual-in_err-rest.result _ c'.in_err-rest.field-0.0 _ c'.from_residual-in_err-rest.ensures.1 (λ y p. p) λ refused.
    let good = c'.in_ok-put.ensures in
    loop ∙ members_bad_end (val c'.args.depth) m _ _ l.rest.now key _ _ (omega arith) other read good (c'.in_err-rest.ensures.value refused)

pub inline_table-members-preserved : goal.inline_table-members-preserved
inline_table-members-preserved c c' =
    let l = c'.members in
    let start_is = c'.skip_blank-start.ensures.rest in
    let other : (first (skip_blank l.rest.now) == 125) ≡ false = grind (arith, common_steps) in
    let key : Key = key_view c'.in_ok-key.key in
    let read_key : key_equals (skip_blank l.rest.now) ≡ Some (key, c'.in_ok-key.at_value.now) =
    rw c'.skip_blank-start.ensures.rest at c'.in_ok-key.ensures.value in
    let read = keyval_ok (val c'.args.depth) (skip_blank l.rest.now) _ _ key _ read_key c'.in_ok-member.ensures.value in
    let shorter = c'.in_ok-key.ensures.shorter in
    let shorter_again = c'.in_ok-member.ensures.shorter in
    let within = c'.in_ok-rest.ensures.within in
    let before = c'.skip_blank-start.ensures.within in (
      search rules,
      omega (arith, l.invariant.1),
      λ n h.
          let (m, room, loop) = l.invariant.2 n h in (
            m - 1,
            omega arith,
            loop ∙ members_more (val c'.args.depth) m _ _ l.rest.now key _ _ _ (omega arith) other read c'.in_ok-put.ensures
                c'.in_ok-rest.ensures.value,
          ),
    )

pub value-returns-then-byte-ne123-clause-value : goal.value-returns-then-byte-ne123-clause-value
value-returns-then-byte-ne123-clause-value c c' =
    let s = c'.args.s.now in
    let a : (first s == 91) ≡ false = grind (arith, common_steps) in
    let b : (first s == 123) ≡ false = grind (arith, common_steps) in
    rw (val_atom c'.args.depth s a b) c'.atom.ensures.value

pub value-returns-then-depth-eq0-clause-value : goal.value-returns-then-depth-eq0-clause-value
value-returns-then-depth-eq0-clause-value c c' refused =
    let s = c'.args.s.now in
    let bracket : ((first s == 91) || (first s == 123)) ≡ true = grind (arith, common_steps) in
    let zero : c'.args.depth ≡ 0 = omega arith in
    rw zero (val_deep s bracket)

pub value-returns-in_err-items-clause-value : goal.value-returns-in_err-items-clause-value
value-returns-in_err-items-clause-value c c' =
    let s = c'.args.s.now in
    let some : 0 < c'.args.depth = omega arith in
    let a : (first s == 91) ≡ true = grind (arith, common_steps) in
    gives_err _ c'.from_residual.result _ c'.in_err-items.field-0.0 _ c'.from_residual.ensures.1 (λ y p. p) λ refused.
    val_open_array c'.args.depth s some a ∙ rw (← c'.skip.ensures.rest, c'.in_err-items.ensures.value (length s) c'.skip.ensures.shorter refused)

pub value-returns-in_err-members-clause-value : goal.value-returns-in_err-members-clause-value
value-returns-in_err-members-clause-value c c' =
    let s = c'.args.s.now in
    let some : 0 < c'.args.depth = omega arith in
    let a : (first s == 91) ≡ false = grind (arith, common_steps) in
    let b : (first s == 123) ≡ true = grind (arith, common_steps) in
    gives_err _ c'.from_residual-in_err-members.result _ c'.in_err-members.field-0.0 _ c'.from_residual-in_err-members.ensures.1 (λ y p. p) λ refused.
    val_open_table c'.args.depth s some a b ∙ rw (
      ← c'.skip-else-byte-eq91.ensures.rest,
      c'.in_err-members.ensures.value (length s) c'.skip-else-byte-eq91.ensures.shorter refused,
    )

pub value-returns-in_ok-items-clause-value : goal.value-returns-in_ok-items-clause-value
value-returns-in_ok-items-clause-value c c' =
    let s = c'.args.s.now in
    let some : 0 < c'.args.depth = omega arith in
    let a : (first s == 91) ≡ true = grind (arith, common_steps) in
    val_open_array c'.args.depth s some a ∙ rw (
      ← c'.skip.ensures.rest,
      c'.in_ok-items.ensures.value (length s) c'.skip.ensures.shorter,
      view-Array c'.in_ok-items.items,
    )

pub value-returns-in_ok-members-clause-value : goal.value-returns-in_ok-members-clause-value
value-returns-in_ok-members-clause-value c c' =
    let s = c'.args.s.now in
    let some : 0 < c'.args.depth = omega arith in
    let a : (first s == 91) ≡ false = grind (arith, common_steps) in
    let b : (first s == 123) ≡ true = grind (arith, common_steps) in
    val_open_table c'.args.depth s some a b ∙ rw (
      ← c'.skip-else-byte-eq91.ensures.rest,
      c'.in_ok-members.ensures.value (length s) c'.skip-else-byte-eq91.ensures.shorter,
      view-Table c'.in_ok-members.members,
    )
