use Rattle.std.proofs.Common.{◌≡◌, ◌∙◌, ap, sym, subst, refl, rules, Bool, length, map, Option, Some, None, List, string_bytes, ℕ}
use Rattle.std.specs.Prelude.{option_map}
use Rattle.std.proofs.lemmas.Bool.{true≢false}
use Rattle.std.proofs.lemmas.List.{length-map}
use Rattle.clap.specs.Words.{Row, Text, subcommand_rows_of, rows_of, found_of}
use Rattle.cbsrun_options.specs.Actions.{action_name}
use Rattle.cbsrun_options.specs.Options.{Said, Asks, are_enough}
use Rattle.cbsrun_command_line.specs.Words.{said_in}
use Rattle.cbsrun_options.specs.declared.actions.Action.{Action}
use Rattle.cbsrun_command_line.proofs.words.asked_in.Goals as goal

-- the name and the rows, which two calls returned, together
both_are : {B : Type 0} (o : Option B) (name : B → Text) (rows : B → List Row) (t : Text) (rs : List Row) → Some t ≡ option_map name o
    → Some rs ≡ option_map (λ (p : Text × List Row). p.1) (option_map {U = Text × List Row} (λ b. (name b, rows b)) o)
    → option_map {U = Text × List Row} (λ b. (name b, rows b)) o ≡ Some (t, rs)
both_are None name rows t rs p q = absurd cc
both_are (Some b) name rows t rs p q =
    let e : t ≡ name b = cc in
    let f : rs ≡ rows b = cc in
    rw (e, f) refl

same_name : (p q : Text × List Row) → Some p ≡ Some q → p.0 ≡ q.0
same_name p q e = let same : p ≡ q = cc in ap (λ (r : Text × List Row). r.0) same

same_rows : (p q : Text × List Row) → Some p ≡ Some q → p.1 ≡ q.1
same_rows p q e = let same : p ≡ q = cc in ap (λ (r : Text × List Row). r.1) same

not_both : {A : Type 0} (o : Option A) {x : A} → o ≡ None → o ≡ Some x → ⊥
not_both o p q = absurd cc

same_form : (a : Action) (r s : Said) → r ≡ s → Asks r a → Asks s a
same_form a r s e asks = subst (λ (x : Said). Asks x a) e asks

-- whether there are enough files, by the rows
enough_in : {A : Type 0} (text : A → Text) (s r : Said) (n : ℕ) (files : List A) (texts : List Text) (enough : Bool) → s ≡ r → map text files ≡ texts
    → n ≡ length files → enough ≡ are_enough s n → are_enough r (length texts) ≡ enough
enough_in text s r n files texts enough p q e h = rw (← p, ← q, length-map files text, ← e) (sym h)

pub returns-clause-ok : goal.returns-clause-ok
returns-clause-ok c =
    let rows = rows_of (found_of c.in-Some.inner.now) in
    let entered : subcommand_rows_of c.args.matches.now ≡ Some (c.in-Some.name.now, rows) =
    both_are _ _ _ _ _ (rw c.in-Some.is at c.subcommand.ensures.name) (rw c.in-Some.is at c.subcommand.ensures.rows) in
    let named : Some (c.in-Some.name.now, rows) ≡ Some (action_name c.in-Some-action_of.action, rows) =
    ap (λ (t : Text). Some (t, rows)) c.in-Some-action_of.ensures.0 in (
      rows,
      entered ∙ named,
      record {
        action = same_form c.in-Some-action_of.action _ _ c.options_in-options.ensures c.in-Some-action_of.ensures.1;
        files = c.in_ok-files.ensures;
        enough = enough_in string_bytes _ _ c.len.result c.in_ok-files.files.items _ _ c.options_in-options.ensures c.in_ok-files.ensures (search rules) c.are_enough.ensures
            ∙ c.if-not-are_enough.false;
        servers = c.in_ok-servers.ensures;
      },
    )

pub returns-in_default-action_of-clause-refused : goal.returns-in_default-action_of-clause-refused
returns-in_default-action_of-clause-refused c = λ asked named.
    let inner = c.in-Some.inner.now in
    let entered : subcommand_rows_of c.args.matches.now ≡ Some (c.in-Some.name.now, rows_of (found_of inner)) =
    both_are _ _ _ _ _ (rw c.in-Some.is at c.subcommand.ensures.name) (rw c.in-Some.is at c.subcommand.ensures.rows) in
    let same : rows_of (found_of inner) ≡ named.0 = same_rows _ _ (sym entered ∙ named.1) in
    absurd (c.in_default-action_of.ensures asked.action (
      same_name _ _ (sym entered ∙ named.1),
      same_form asked.action _ _ (ap said_in (sym same) ∙ sym c.options_in-options.ensures) named.2.action,
    ))

pub returns-then-not-are_enough-clause-refused : goal.returns-then-not-are_enough-clause-refused
returns-then-not-are_enough-clause-refused c = λ asked named.
    let rows = rows_of (found_of c.in-Some.inner.now) in
    let entered : subcommand_rows_of c.args.matches.now ≡ Some (c.in-Some.name.now, rows) =
    both_are _ _ _ _ _ (rw c.in-Some.is at c.subcommand.ensures.name) (rw c.in-Some.is at c.subcommand.ensures.rows) in
    let same : rows ≡ named.0 = same_rows _ _ (sym entered ∙ named.1) in
    let enough = enough_in string_bytes _ _ c.len.result c.in_ok-files.files.items _ _ c.options_in-options.ensures c.in_ok-files.ensures (search rules) c.are_enough.ensures
    ∙ c.if-not-are_enough.true in
    absurd (true≢false (sym (rw (← same) at named.2.enough) ∙ enough))
