use Rattle.std.proofs.Common.{◌≡◌, ◌≢◌, ◌⊎◌, ◌∙◌, ap, subst, true, refl, map, List, [], ◌∷◌, Option, Result, Ok, Err, inl, inr, string_bytes}
use Rattle.std.specs.Prelude.{IfOk, IfErr}
use Rattle.clap.specs.Simple.{HasMatchesOf}
use Rattle.clap.specs.Words.{App, Row, Text, HasKind, IsAmong, Kinds, fault_of, is_simple, is_simple_and_free}
use Rattle.clap.specs.Words.{kind_of, subcommand_of, subcommand_rows_of, takes}
use Rattle.clap.specs.declared.error.Error.{Error}
use Rattle.clap.specs.declared.error.kind.ErrorKind.{ErrorKind}
use Rattle.clap.specs.declared.error.kind.ErrorKind.TheVariants as kind
use Rattle.clap.specs.declared.parser.matches.ArgMatches.{ArgMatches}
use Rattle.clap.proofs.OnLiterals.{clap_on_literals}
use Rattle.cbsrun_command_line.specs.Faults.{HasNumberOf, TellsOfKinds, number_of, words_fault_number}
use Rattle.cbsrun_command_line.specs.Words.{command_line, IsAsked, AreTaken}
use Rattle.cbsrun_options.specs.declared.actions.Asked.{Asked}
use Rattle.cbsrun_command_line.specs.declared.fault.WordsFault.{WordsFault}
use Rattle.cbsrun_command_line.specs.declared.fault.WordsFault.TheVariants.{Usage, Help, OutOfMemory}
use Rattle.cbsrun_command_line.proofs.words.asked_by.Goals as goal

is_one : is_simple command_line ≡ true
unfolding clap_on_literals
is_one = refl

-- the words name the subcommand that was found, with its rows
found_is : (a : App) (words : List Text) (m : ArgMatches) → a ≡ command_line → HasMatchesOf a words m → subcommand_rows_of m ≡ subcommand_of command_line words
found_is a words m is has = (has (ap is_simple is ∙ is_one)).1 ∙ ap (λ (b : App). subcommand_of b words) is

-- words that are taken name a request
taken_is : (r : Result Asked WordsFault) (words : List Text) (found : Option (Text × List Row)) → found ≡ subcommand_of command_line words
    → IfErr r (λ e. (asked : Asked) → IsAsked found asked → e ≡ OutOfMemory) → IfErr r (λ e. AreTaken words → e ≡ OutOfMemory)
taken_is (Ok x) words found is h = tt
taken_is (Err e) words found is h = λ taken. h taken.asked (rw is taken.named)

pub returns-in-Ok-clause-ok : goal.returns-in-Ok-clause-ok
returns-in-Ok-clause-ok c =
    let found = found_is _ (map string_bytes c.args.words.now) c.in-Ok.matches c.in_ok-command.ensures c.in-Ok.ensures.matches in
    subst (λ (o : Option (Text × List Row)). IfOk c.asked_in.result (IsAsked o)) found c.asked_in.ensures.ok

pub returns-in-Ok-clause-refused : goal.returns-in-Ok-clause-refused
returns-in-Ok-clause-refused c =
    let found = found_is _ (map string_bytes c.args.words.now) c.in-Ok.matches c.in_ok-command.ensures c.in-Ok.ensures.matches in
    taken_is c.asked_in.result _ _ found c.asked_in.ensures.refused

pub returns-in_ok-refused-in-Err-clause-refused : goal.returns-in_ok-refused-in-Err-clause-refused
returns-in_ok-refused-in-Err-clause-refused c = λ taken.
    c.in_ok-refused-in-Err.ensures.memory (c.in-Err.ensures.passes (ap (λ (a : App). takes a (map string_bytes c.args.words.now))
    c.in_ok-command.ensures ∙ taken.taken))

-- no argument of the command has a rule on another
is_free : is_simple_and_free command_line ≡ true
unfolding clap_on_literals
is_free = refl

-- words that `clap` takes are refused for their options alone
options_wrong : (r : Result Asked WordsFault) (kinds : Kinds) → kinds ≡ [] → IfErr r (λ e. words_fault_number e ≢ 2)
    → IfErr r (λ e. (e ≡ OutOfMemory) ⊎ TellsOfKinds kinds e)
options_wrong (Ok x) kinds none h = tt
options_wrong (Err (Usage text)) kinds none h = inr (rw none refl)
options_wrong (Err (Help text)) kinds none h = absurd (h refl)
options_wrong (Err OutOfMemory) kinds none h = inl refl

-- an error of one of the kinds is told by its number
number_told : (kinds : Kinds) (k : ErrorKind) (w : WordsFault) → IsAmong k kinds → words_fault_number w ≡ number_of k → HasNumberOf kinds w
number_told [] k w among is = absurd among
number_told (x ∷ xs) k w (inl same) is = inl (is ∙ ap number_of same)
number_told (x ∷ xs) k w (inr later) is = inr (number_told xs k w later is)

kind_told : (kinds : Kinds) (e : Error) (w : WordsFault) → HasKind kinds e → (kind_of e ≡ kind.OutOfMemory → w ≡ OutOfMemory)
    → words_fault_number w ≡ number_of (kind_of e) → (w ≡ OutOfMemory) ⊎ TellsOfKinds kinds w
kind_told kinds e w (inl memory) lacks is = inl (lacks memory)
kind_told [] e w (inr among) lacks is = absurd among
kind_told (k ∷ ks) e w (inr among) lacks is = inr (number_told (k ∷ ks) (kind_of e) w among is)

-- what holds of the kinds that `clap` has for a simple command's words holds of those of this command
of_command : (P : Kinds → Type 0) (a : App) (words : List Text) → a ≡ command_line → (is_simple_and_free a ≡ true → P (fault_of a words))
    → P (fault_of command_line words)
of_command P a words is h = subst (λ (b : App). P (fault_of b words)) is (h (ap is_simple_and_free is ∙ is_free))

pub returns-in-Ok-clause-told : goal.returns-in-Ok-clause-told
returns-in-Ok-clause-told c =
    options_wrong c.asked_in.result _ (of_command (λ kinds. kinds ≡ []) _ (map string_bytes c.args.words.now) c.in_ok-command.ensures c.in-Ok.ensures.kinds)
    c.asked_in.ensures.no_help

pub returns-in_ok-refused-in-Err-clause-told : goal.returns-in_ok-refused-in-Err-clause-told
returns-in_ok-refused-in-Err-clause-told c =
    kind_told _ c.in-Err.error _ (of_command (λ kinds. HasKind kinds c.in-Err.error) _ (map string_bytes c.args.words.now) c.in_ok-command.ensures
    c.in-Err.ensures.kinds)
    c.in_ok-refused-in-Err.ensures.memory c.in_ok-refused-in-Err.ensures.kind
