-- The command line as `clap` sees it.
use Rattle.std.specs.Prelude.{◌≡◌, ◌⊎◌, List, length, [], codes, map, true, Option, Some, string_bytes, unwrap_or}
use Rattle.clap.specs.declared.builder.action.ArgAction.TheVariants.{Append, SetTrue}
use Rattle.clap.specs.Words.{App, Row, Rule, Text, all_of, fault_of, first_of, new_app, new_rule, subcommand_of, takes, with_rule, with_subcommand}
use Rattle.cbsrun_options.specs.Actions.{action_name}
use Rattle.cbsrun_options.specs.Options.{Said, Asks, are_enough}
use Rattle.cbsrun_command_line.specs.Faults.{TellsOfKinds}
use Rattle.cbsrun_options.specs.declared.actions.Asked.{Asked}
use Rattle.cbsrun_command_line.specs.declared.fault.WordsFault.{WordsFault}
use Rattle.cbsrun_command_line.specs.declared.fault.WordsFault.TheVariants.{OutOfMemory}

-- one file, which is required
abbrev pub file : Rule
file = record (new_rule (codes "FILE")) { required = true }

-- the verb of this name, which takes a file
abbrev pub on_file : Text → App
on_file name = with_rule (new_app name) file

-- the verb of this name, which takes one file or several
abbrev pub on_files : Text → App
on_files name = with_rule (new_app name) (record file { action = Some Append })

-- an option of this name, which may be left out
abbrev pub option : Text → Rule
option name = record (new_rule name) { long = Some name; value_names = 1 }

-- a verb with one more option
abbrev pub with_option : App → Text → App
with_option verb name = with_rule verb (option name)

-- a verb with one more option, which may be given several times
abbrev pub with_options : App → Text → App
with_options verb name = with_rule verb (record (option name) { action = Some Append })

-- a verb with one more option, which has no value
abbrev pub with_flag : App → Text → App
with_flag verb name = with_rule verb (record (new_rule name) { long = Some name; action = Some SetTrue })

-- a verb that also takes the form of its output, the ticks to show, and the servers to draw
abbrev pub in_a_form : App → App
in_a_form verb =
    let shown = with_option (with_option (with_option verb (codes "as")) (codes "from")) (codes "to") in
    with_options shown (codes "server")

-- a subcommand is required
abbrev pub required : App → App
required a = record a { top = record a.top { subcommand_required = true } }

-- the program has a version
abbrev pub with_version : App → App
with_version a = record a { top = record a.top { has_version = true } }

-- the program with no verb yet; one verb is required
abbrev pub bare_program : App
bare_program = required (with_version (new_app (codes "cbsrun")))

-- the verb that checks files
abbrev pub checking : App
checking = with_flag (with_option (on_files (codes "check")) (codes "as")) (codes "strict")

-- the verb that sizes a sketch
abbrev pub sizing : App
sizing = with_flag (on_file (codes "size")) (codes "all")

-- a verb that also takes what changes a load: its seed, its end, and the seeds of many runs
abbrev pub with_changes : App → App
with_changes verb = with_option (with_option (with_option verb (codes "seed")) (codes "until")) (codes "seeds")

-- the verb that simulates loads
abbrev pub simulating : App
simulating = with_flag (with_changes (in_a_form (on_files (codes "simulate")))) (codes "strict")

-- the verb that replays a task file
abbrev pub replaying : App
replaying = in_a_form (on_file (codes "replay"))

-- the program with one more verb
abbrev pub with_verb : App → App → App
with_verb program verb = with_subcommand program verb.top

-- the program, which has five subcommands
abbrev pub command_line : App
command_line =
    let planning = with_verb (with_verb (with_verb bare_program checking) sizing) simulating in
    with_verb (with_verb planning replaying) (on_file (codes "serve"))

-- the texts that the rows of a subcommand give for its options
abbrev pub said_in : List Row → Said
said_in rows = record {
  form = first_of (codes "as") rows;
  from = first_of (codes "from") rows;
  to = first_of (codes "to") rows;
  server = first_of (codes "server") rows;
  seed = first_of (codes "seed") rows;
  until = first_of (codes "until") rows;
  seeds = first_of (codes "seeds") rows;
  strict = first_of (codes "strict") rows;
  all = first_of (codes "all") rows;
}

-- the texts that the rows of a subcommand give for an option that may be given several times
abbrev pub texts_in : List Row → Text → List Text
texts_in rows name = unwrap_or (all_of name rows) []

-- what the rows of a subcommand ask for: the action, the files, and the names of the servers to draw
pub record AsksBy (rows : List Row) (asked : Asked) : Type 0 where
  pub action : Asks (said_in rows) asked.action
  pub files : map string_bytes asked.files.items ≡ texts_in rows (codes "FILE")
  pub enough : are_enough (said_in rows) (length (texts_in rows (codes "FILE"))) ≡ true
  pub servers : map string_bytes asked.servers.items ≡ texts_in rows (codes "server")

-- the subcommand that was found asks for it with its rows
abbrev pub IsAsked : Option (Text × List Row) → Asked → Type 0
IsAsked found asked = (rows : List Row) × (found ≡ Some (action_name asked.action, rows)) × AsksBy rows asked

-- the subcommand that the words name asks for the action and the files
abbrev pub Names : List Text → Asked → Type 0
Names words asked = IsAsked (subcommand_of command_line words) asked

-- the command takes the words, and they name an action and files
pub record AreTaken (words : List Text) : Type 0 where
  pub taken : takes command_line words ≡ true
  pub asked : Asked
  pub named : Names words asked

-- a fault tells why the words are refused: out of memory, or by the kinds of error that `clap` has for them
abbrev pub TellsOf : List Text → WordsFault → Type 0
TellsOf words w = (w ≡ OutOfMemory) ⊎ TellsOfKinds (fault_of command_line words) w
