-- The steps that tables spell which are read pair by pair.
use Rattle.std.proofs.Common.{◌≡◌, ℕ, pos, ◌+◌, ◌≤◌, ◌<◌, ◌==◌, true, false, List, [], ◌∷◌, ◌++◌, codes, length, map, drop, Some}
use Rattle.std.proofs.Common.{is_some, Ok, refl, ap, sym, ◌∙◌, arith, inl, inr}
use Rattle.std.proofs.lemmas.Bool.{cases_Bool}
use Rattle.std.proofs.lemmas.Bool.Decides.{nat_tests}
use Rattle.std.proofs.lemmas.List.{length-append, length-map, map-append}
use Rattle.std.proofs.lemmas.List.Folds.{list_all-append}
use Rattle.std.specs.List.{list_all}
use Rattle.std.specs.Prelude.{nat_le, nat_lt}
use Rattle.toml_parser.specs.Lexical.{first}
use Rattle.toml.specs.Data.{Data, table, string, integer, array, as_integer, Items, no_items, push_item}
use Rattle.toml.specs.Parse.{val, atom, items}
use Rattle.toml.specs.Tables.{Nodes, no_nodes, node, value, put, close}
use Rattle.toml.proofs.OnLiterals.{toml_on_literals}
use Rattle.toml.proofs.Turns.{val_array}
use Rattle.cbs_steps.specs.declared.step.Step.TheVariants as step
use Rattle.cbs_job.specs.declared.file.FileJob.{FileJob}
use Rattle.cbs_rate.specs.Limits.{greatest_number, most_units}
use Rattle.cbsrun_toml_tables.specs.Fields.{list_of, number, each, each_from, with_keys, integer_at, text_at, items_at}
use Rattle.cbsrun_task_steps.specs.declared.terms.Terms.{Terms}
use Rattle.cbsrun_toml_plain.specs.declared.pairs.Layout.{Layout}
use Rattle.cbsrun_task_steps.specs.Entries.{job_of, step_entry, submit_entry, submit_fields, run_entry, advance_entry, close_entry, longest_advance}
use Rattle.cbsrun_task_steps.proofs.MoreSteps.{list_of-push}
use Rattle.cbsrun_toml_plain.specs.Pairs.{Opens, Follows, Ends, Reads, under, IsValue}
use Rattle.cbsrun_toml_plain.proofs.Tables.{first_read, next_read, table_read, table_shortens, word_value}
use Rattle.cbsrun_task_steps.specs.Plain.{op_pair, AreUnits, SpellsStep}

-- the words of the operations, each read whatever follows it
pub run_word : (rest : List ℕ) → atom (codes "\"run\"" ++ rest) ≡ Some (string (codes "run"), rest)
unfolding toml_on_literals
run_word rest = refl

pub advance_word : (rest : List ℕ) → atom (codes "\"advance\"" ++ rest) ≡ Some (string (codes "advance"), rest)
unfolding toml_on_literals
advance_word rest = refl

pub close_word : (rest : List ℕ) → atom (codes "\"close\"" ++ rest) ≡ Some (string (codes "close"), rest)
unfolding toml_on_literals
close_word rest = refl

pub submit_word : (rest : List ℕ) → atom (codes "\"submit\"" ++ rest) ≡ Some (string (codes "submit"), rest)
unfolding toml_on_literals
submit_word rest = refl

-- the pairs in the order of their keys
pub put_op : (d : Data) → put ([], codes "op") d no_nodes ≡ Some (node (codes "op") (value d) no_nodes)
unfolding toml_on_literals
put_op d = refl

put_ticks : (d e : Data) → put ([], codes "ticks") e (node (codes "op") (value d) no_nodes)
    ≡ Some (node (codes "op") (value d) (node (codes "ticks") (value e) no_nodes))
unfolding toml_on_literals
put_ticks d e = refl

put_server : (d e : Data) → put ([], codes "server") e (node (codes "op") (value d) no_nodes)
    ≡ Some (node (codes "op") (value d) (node (codes "server") (value e) no_nodes))
unfolding toml_on_literals
put_server d e = refl

-- what the entries spell
run_spells : (t : Terms) → step_entry t.format t.servers (table (close (op_pair (codes "run")))) ≡ Ok step.Run
unfolding step_entry run_entry text_at
run_spells t = refl

advance_spells : (t : Terms) (ticks : ℕ) → ticks ≤ longest_advance t.format
    → step_entry t.format t.servers (table (close (node (codes "op") (value (string (codes "advance")))
    (node (codes "ticks") (value (integer (pos ticks))) no_nodes)))) ≡ Ok (step.Advance ticks)
unfolding step_entry advance_entry with_keys integer_at text_at
advance_spells t ticks most =
    let some : nat_le 0 ticks ≡ true = grind (arith, nat_tests) in
    let fits : nat_le ticks (longest_advance t.format) ≡ true = grind (arith, nat_tests) in
    rw (some, fits) refl

close_spells : (t : Terms) (server : ℕ) → server < t.servers
    → step_entry t.format t.servers (table (close (node (codes "op") (value (string (codes "close")))
    (node (codes "server") (value (integer (pos server))) no_nodes)))) ≡ Ok (step.Close server)
unfolding step_entry close_entry with_keys integer_at text_at
close_spells t server few =
    let fits : nat_lt server t.servers ≡ true = grind (arith, nat_tests) in
    rw fits refl

-- units, one by one
pub no_units : (us : List ℕ) → us ≡ [] → AreUnits us no_items
no_units us none = rw none (record { items = refl; most = refl })

-- one more number that fits is one more unit
pub more_units : (us vs : List ℕ) (ds : Items) (n : ℕ) → AreUnits us ds → n ≤ greatest_number → vs ≡ us ++ n ∷ [] → AreUnits vs (push_item ds (integer (pos n)))
more_units us vs ds n are most is =
    let here : nat_le n greatest_number ≡ true = grind (arith, nat_tests) in
    record {
      items = rw is (list_of-push ds (integer (pos n)) ∙ ap (λ xs. xs ++ integer (pos n) ∷ []) are.items ∙ sym (map-append (λ n. integer (pos n)) us (n ∷ [])));
      most = rw (is, list_all-append (λ n. nat_le n greatest_number) us (n ∷ []), are.most, here) refl;
    }

-- units are integers
units_integers : (us : List ℕ) → list_all (λ d. is_some (as_integer d)) (map (λ n. integer (pos n)) us) ≡ true
units_integers [] = refl
units_integers (u ∷ us) = units_integers us

-- numbers that fit are read as they are
each_units : (i : ℕ) (us : List ℕ) → list_all (λ n. nat_le n greatest_number) us ≡ true
    → each_from i (λ _. number 0 greatest_number) (map (λ n. integer (pos n)) us) ≡ Ok us
unfolding each_from
each_units i [] all = refl
each_units i (u ∷ us) all = elim (cases_Bool (nat_le u greatest_number)) [
  | inl here ↦
      let some : nat_le 0 u ≡ true = grind (arith, nat_tests) in
      rw (some, here, each_units (i + 1) us (rw here at all)) refl
  | inr not ↦ let g : false ≡ true = rw not at all in cc
]

-- the pairs of a submit
abbrev submit_pairs : ℕ → List ℕ → Items → Nodes
submit_pairs server kind ds =
    node (codes "job") (value (string kind)) (node (codes "op") (value (string (codes "submit")))
    (node (codes "server") (value (integer (pos server))) (node (codes "units") (value (array ds)) no_nodes)))

submit_spells : (t : Terms) (server : ℕ) (kind units : List ℕ) (ds : Items) (job : FileJob) → server < t.servers → AreUnits units ds
    → 0 < length units → length units ≤ most_units
    → job_of kind units ≡ Ok job → step_entry t.format t.servers (table (close (submit_pairs server kind ds))) ≡ Ok (step.Submit server job)
unfolding step_entry submit_entry submit_fields with_keys integer_at text_at items_at
submit_spells t server kind units ds job few are some most is =
    let ints : list_all (λ d. is_some (as_integer d)) (list_of ds) ≡ true = rw are.items (units_integers units) in
    let count : length (list_of ds) ≡ length units = rw are.items (length-map units (λ n. integer (pos n))) in
    let low : nat_le 1 (length (list_of ds)) ≡ true = rw count (grind (arith, nat_tests)) in
    let high : nat_le (length (list_of ds)) most_units ≡ true = rw count (grind (arith, nat_tests)) in
    let every : each (number 0 greatest_number) (list_of ds) ≡ Ok units = rw are.items (each_units 0 units are.most) in
    let fits : nat_lt server t.servers ≡ true = grind (arith, nat_tests) in
    rw (ints, fits, low, high, every, is) refl

put_job : (d e k : Data) → put ([], codes "job") k (node (codes "op") (value d) (node (codes "server") (value e) no_nodes))
    ≡ Some (node (codes "job") (value k) (node (codes "op") (value d) (node (codes "server") (value e) no_nodes)))
unfolding toml_on_literals
put_job d e k = refl

put_units : (d e k u : Data) → put ([], codes "units") u (node (codes "job") (value k) (node (codes "op") (value d) (node (codes "server") (value e) no_nodes)))
    ≡ Some (node (codes "job") (value k) (node (codes "op") (value d) (node (codes "server") (value e) (node (codes "units") (value u) no_nodes))))
unfolding toml_on_literals
put_units d e k u = refl

-- the kinds of jobs
sum_word : (rest : List ℕ) → atom (codes "\"sum\"" ++ rest) ≡ Some (string (codes "sum"), rest)
unfolding toml_on_literals
sum_word rest = refl

peak_word : (rest : List ℕ) → atom (codes "\"peak\"" ++ rest) ≡ Some (string (codes "peak"), rest)
unfolding toml_on_literals
peak_word rest = refl

pub sum_kind : (layout : Layout) (s rest : List ℕ) → s ≡ codes "\"sum\"" ++ rest → IsValue layout s (string (codes "sum")) rest
sum_kind layout s rest is = rw is (word_value layout (codes "\"sum\"" ++ rest) rest (codes "sum") refl refl (sum_word rest))

pub peak_kind : (layout : Layout) (s rest : List ℕ) → s ≡ codes "\"peak\"" ++ rest → IsValue layout s (string (codes "peak")) rest
peak_kind layout s rest is = rw is (word_value layout (codes "\"peak\"" ++ rest) rest (codes "peak") refl refl (peak_word rest))

-- an array of units
pub units_read : (layout : Layout) (s inner rest : List ℕ) (ds : Items) → (first s == 91) ≡ true → inner ≡ drop 1 s
    → items (val (under layout)) (length s) no_items inner ≡ Some (ds, rest)
    → IsValue layout s (array ds) rest
units_read layout s inner rest ds opens is read = val_array (under layout) s opens ∙ rw (← is, read) refl

-- the word of an operation was read, which `quoted` spells
pub op_read : (layout : Layout) (text at op quoted word : List ℕ) → Opens layout text (codes "op") at → at ≡ quoted ++ op → 0 < length quoted
    → (first (quoted ++ op) == 91) ≡ false → (first (quoted ++ op) == 123) ≡ false → atom (quoted ++ op) ≡ Some (string word, op)
    → Reads layout text (op_pair word) op
op_read layout text at op quoted word opens is some no_array no_table read =
    let count : length at ≡ length quoted + length op = ap length is ∙ length-append quoted op in
    let value_is : IsValue layout at (string word) op = rw is (word_value layout (quoted ++ op) op word no_array no_table read) in
    first_read layout text (codes "op") at op (string word) (op_pair word) opens value_is (omega arith) (put_op (string word))

module _ (layout : Layout) (t : Terms) (text : List ℕ) where
  -- the steps, each from the pairs that were read
  pub run_step : (after rest : List ℕ) → Reads layout text (op_pair (codes "run")) after → Ends layout after rest → SpellsStep layout t text step.Run rest
  run_step after rest reads ends = record {
    pairs = op_pair (codes "run");
    read = table_read layout text after rest (op_pair (codes "run")) reads ends;
    spells = run_spells t;
    named = tt;
    shorter = table_shortens layout text after rest (op_pair (codes "run")) reads ends;
  }

  pub advance_step : (op at after rest : List ℕ) (ticks : ℕ) → Reads layout text (op_pair (codes "advance")) op → Follows layout op (codes "ticks") at
      → IsValue layout at (integer (pos ticks)) after → length after < length at → ticks ≤ longest_advance t.format → Ends layout after rest
      → SpellsStep layout t text (step.Advance ticks) rest
  advance_step op at after rest ticks reads follows read less most ends =
      let word = string (codes "advance") in
      let all = next_read layout text (codes "ticks") op at after (integer (pos ticks)) (op_pair (codes "advance")) _ reads follows read less
      (put_ticks word (integer (pos ticks))) in
      record {
        pairs = _;
        read = table_read layout text after rest _ all ends;
        spells = advance_spells t ticks most;
        named = tt;
        shorter = table_shortens layout text after rest _ all ends;
      }

  pub close_step : (op at after rest : List ℕ) (server : ℕ) → Reads layout text (op_pair (codes "close")) op → Follows layout op (codes "server") at
      → IsValue layout at (integer (pos server)) after → length after < length at → server < t.servers → Ends layout after rest
      → SpellsStep layout t text (step.Close server) rest
  close_step op at after rest server reads follows read less few ends =
      let word = string (codes "close") in
      let all = next_read layout text (codes "server") op at after (integer (pos server)) (op_pair (codes "close")) _ reads follows read less
      (put_server word (integer (pos server))) in
      record {
        pairs = _;
        read = table_read layout text after rest _ all ends;
        spells = close_spells t server few;
        named = few;
        shorter = table_shortens layout text after rest _ all ends;
      }

  pub submit_step : (op at_server after_server at_job after_job at_units after_units rest : List ℕ) (server : ℕ) (kind units : List ℕ) (ds : Items)
      (job : FileJob)
      → Reads layout text (op_pair (codes "submit")) op
      → Follows layout op (codes "server") at_server → IsValue layout at_server (integer (pos server)) after_server → length after_server < length at_server
      → Follows layout after_server (codes "job") at_job → IsValue layout at_job (string kind) after_job → length after_job < length at_job
      → Follows layout after_job (codes "units") at_units → IsValue layout at_units (array ds) after_units → length after_units < length at_units
      → Ends layout after_units rest
      → server < t.servers → AreUnits units ds → 0 < length units → length units ≤ most_units → job_of kind units ≡ Ok job
      → SpellsStep layout t text (step.Submit server job) rest
  submit_step op at_server after_server at_job after_job at_units after_units rest server kind units ds job reads server_follows server_read server_less
      job_follows job_read job_less units_follow units_are units_less ends few are some most is =
      let d = string (codes "submit") in
      let e = integer (pos server) in
      let two = next_read layout text (codes "server") op at_server after_server e (op_pair (codes "submit")) _ reads server_follows server_read
      server_less (put_server d e) in
      let three = next_read layout text (codes "job") after_server at_job after_job (string kind) _ _ two job_follows job_read job_less
      (put_job d e (string kind)) in
      let all = next_read layout text (codes "units") after_job at_units after_units (array ds) _ (submit_pairs server kind ds) three units_follow
      units_are units_less (put_units d e (string kind) (array ds)) in
      record {
        pairs = submit_pairs server kind ds;
        read = table_read layout text after_units rest (submit_pairs server kind ds) all ends;
        spells = submit_spells t server kind units ds job few are some most is;
        named = few;
        shorter = table_shortens layout text after_units rest (submit_pairs server kind ds) all ends;
      }
