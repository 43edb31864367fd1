-- One more entry of the steps.
use Rattle.std.proofs.Common.{◌≡◌, ◌∙◌, ℕ, suc, ◌+◌, List, [], ◌∷◌, ◌++◌, length, Option, Some, None, is_some}
use Rattle.std.proofs.Common.{true, false, Result, Ok, Err, IfOk, refl, ap, sym, arith, add-zero}
use Rattle.std.proofs.lemmas.Bool.{true≢false, false≢true}
use Rattle.toml.specs.Data.{Data, Items, no_items, item, push_item}
use Rattle.cbs_steps.specs.declared.step.Step.{Step}
use Rattle.cbs_job.specs.declared.file.FileJob.{FileJob}
use Rattle.cbsrun_toml_tables.specs.declared.fault.FileKind.{FileKind}
use Rattle.cbsrun_toml_tables.specs.declared.fault.FileFault.{FileFault}
use Rattle.cbsrun_toml_tables.specs.declared.fault.Place.TheVariants.{Step as AtStep}
use Rattle.cbsrun_task_steps.specs.Entries.{step_entry}
use Rattle.cbsrun_toml_tables.specs.Fields.{◌>>=◌, each_from, list_of}
use Rattle.cbsrun_toml_tables.specs.Documents.{at}
use Rattle.std.specs.Borrow.{Bor}
use Rattle.std.specs.Result.{IsErrAnd}
use Rattle.toml_parser.specs.Lexical.{Read}
use Rattle.cbsrun_toml_tokens.specs.declared.stop.Stop.{Stop}
use Rattle.cbsrun_toml_tokens.specs.declared.stop.Stop.TheVariants.{NotToml}
use Rattle.cbsrun_task_steps.specs.declared.steps.StepsRead.{StepsRead}
use Rattle.cbsrun_task_steps.specs.declared.terms.Terms.{Terms}
use Rattle.std.specs.Prelude.{All}
use Rattle.std.proofs.lemmas.List.Elements.{All-nil}
use Rattle.cbsrun_task_steps.specs.Entries.{IsFileStep}
use Rattle.cbsrun_task_steps.specs.Steps.{outcome, ReadsSteps}

-- one more item is one more of the list
pub list_of-push : (ds : Items) (d : Data) → list_of (push_item ds d) ≡ list_of ds ++ d ∷ []
list_of-push no_items d = refl
list_of-push (item e ds) d = ap (λ t. e ∷ t) (list_of-push ds d)

-- three results in a row, in either grouping
regroup : {E B : Type 0} (r : Result B E) (s : Result (List B) E) (t : Result B E)
    → (r >>= (λ a. (s >>= (λ vs. t >>= (λ v. Ok (vs ++ v ∷ [])))) >>= (λ vs. Ok (a ∷ vs))))
    ≡ ((r >>= (λ a. s >>= (λ vs. Ok (a ∷ vs)))) >>= (λ vs. t >>= (λ v. Ok (vs ++ v ∷ []))))
regroup (Err e) s t = refl
regroup (Ok a) (Err e) t = refl
regroup (Ok a) (Ok vs) (Err e) = refl
regroup (Ok a) (Ok vs) (Ok v) = refl

-- one more element
pub each_more : {E A B : Type 0} (i : ℕ) (f : ℕ → A → Result B E) (xs : List A) (x : A)
    → each_from i f (xs ++ x ∷ []) ≡ (each_from i f xs >>= (λ vs. f (i + length xs) x >>= (λ v. Ok (vs ++ v ∷ []))))
unfolding each_from
each_more i f [] x = rw (add-zero) refl
each_more i f (y ∷ ys) x =
    let n : i + 1 + length ys ≡ i + suc (length ys) = omega arith in
    rw (each_more (i + 1) f ys x, n) (regroup (f i y) (each_from (i + 1) f ys) (f (i + suc (length ys)) x))

-- one more step is one more
len_step : {E B : Type 0} (r : Result B E) (s : Result (List B) E) (n : ℕ) → IfOk s (λ vs. length vs ≡ n)
    → IfOk (r >>= (λ a. s >>= (λ vs. Ok (a ∷ vs)))) (λ vs. length vs ≡ suc n)
len_step (Err e) s n h = tt
len_step (Ok a) (Err e) n h = tt
len_step (Ok a) (Ok vs) n h = ap suc h

-- as many values as elements
pub each_length : {E A B : Type 0} (i : ℕ) (f : ℕ → A → Result B E) (xs : List A) → IfOk (each_from i f xs) (λ vs. length vs ≡ length xs)
unfolding each_from
each_length i f [] = refl
each_length i f (x ∷ xs) = len_step (f i x) (each_from (i + 1) f xs) (length xs) (each_length (i + 1) f xs)

-- what an entry spells at its place
abbrev pub entry_at : Terms → ℕ → Data → Result (Step FileJob) FileFault
entry_at t i entry = at (AtStep i) (step_entry t.format t.servers entry)

-- after a fault no entry counts
pub after_fault : (t : Terms) (steps : List (Step FileJob)) (fault : Option FileKind) (ds : List Data) (d : Data) → is_some fault ≡ true
    → each_from 0 (entry_at t) ds ≡ outcome steps fault → each_from 0 (entry_at t) (ds ++ d ∷ []) ≡ outcome steps fault
after_fault t steps None ds d some h = absurd (false≢true some)
after_fault t steps (Some kind) ds d some h = each_more 0 (entry_at t) ds d ∙ rw h refl

-- a step after others, with no fault so far, is taken
pub one_more : (t : Terms) (steps : List (Step FileJob)) (step : Step FileJob) (fault : Option FileKind) (ds : List Data) (d : Data)
    → is_some fault ≡ false → step_entry t.format t.servers d ≡ Ok step
    → each_from 0 (entry_at t) ds ≡ outcome steps fault → each_from 0 (entry_at t) (ds ++ d ∷ []) ≡ outcome (steps ++ step ∷ []) fault
one_more t steps step (Some kind) ds d none given h = absurd (true≢false none)
one_more t steps step None ds d none given h = each_more 0 (entry_at t) ds d ∙ rw (h, given) refl

-- a fault after steps with no fault is the first
pub first_fault : (t : Terms) (steps : List (Step FileJob)) (kind : FileKind) (fault : Option FileKind) (ds : List Data) (d : Data)
    → is_some fault ≡ false → step_entry t.format t.servers d ≡ Err kind
    → each_from 0 (entry_at t) ds ≡ outcome steps fault → each_from 0 (entry_at t) (ds ++ d ∷ []) ≡ outcome steps (Some kind)
first_fault t steps kind (Some other) ds d none given h = absurd (true≢false none)
first_fault t steps kind None ds d none given h =
    let same : length steps ≡ length ds = rw h at (each_length {E = FileFault} {A = Data} {B = Step FileJob} 0 (entry_at t) ds) in
    let place : 0 + length ds ≡ length ds = omega arith in
    each_more 0 (entry_at t) ds d ∙ rw (h, place, given, same) refl

-- nothing was read yet
pub none_yet : (t : Terms) (steps : List (Step FileJob)) → steps ≡ [] → (each_from 0 (entry_at t) [] ≡ outcome steps None) × All (IsFileStep t.servers) steps
unfolding each_from
none_yet t steps e = rw e (refl, All-nil (IsFileStep t.servers))

-- an error that a `?` passes on
pub steps_err : (t : Terms) (r : Result (StepsRead × Bor (List ℕ)) Stop) (expected : Read Items) (e : Stop) (Q : Stop → Type 0)
    → IsErrAnd r Q → ((y : Stop) → Q y → y ≡ e) → (e ≡ NotToml → expected ≡ None) → ReadsSteps t r expected
steps_err t (Ok a) expected e Q h same refused = absurd h
steps_err t (Err y) expected e Q h same refused = λ n. refused (sym (same y h) ∙ n)
