-- Many simulations of a load, and what is printed of them.
use Rattle.std.specs.Prelude.{◌≡◌, ℕ, Bool, ◌+◌, ◌-◌, List}
use Rattle.cbsrun_options.specs.declared.actions.LoadSweep.{LoadSweep}
use Rattle.cbsrun_options.specs.declared.actions.Seeds.{Seeds}
use Rattle.cbsrun_options.specs.declared.actions.SweepForm.{SweepForm}
use Rattle.cbsrun_options.specs.declared.actions.SweepForm.TheVariants.{Report, Csv, Json}
use Rattle.cbsrun_loads.specs.Loads.{LoadFile}
use Rattle.cbsrun_sweeps.specs.Sweeps.{are_in_time, IsSweep}
use Rattle.cbsrun_sweeps.specs.declared.sweep.Sweep.{Sweep}
use Rattle.cbsrun_sweep_texts.specs.Csv.{sweep_csv}
use Rattle.cbsrun_sweep_texts.specs.Json.{sweep_json}
use Rattle.cbsrun_sweep_texts.specs.Texts.{sweep_text}
use Rattle.cbsrun_commands.specs.Commands.{Command, printing_command}
use Rattle.cbsrun_commands.specs.Outputs.{changed_load}

-- how many runs there are with these seeds
abbrev pub runs_of : Seeds → ℕ
runs_of s = s.last - s.first + 1

-- what is told of many runs in a form, of the load in a file with this name
abbrev pub told_in : SweepForm → List ℕ → LoadFile → Sweep → List ℕ
told_in Report name f s = sweep_text name f.tick f.names s
told_in Csv name f s = sweep_csv f.names s.servers.items
told_in Json name f s = sweep_json name f.tick f.names s

-- the text tells what the runs with these seeds tell
abbrev pub IsSweepText : SweepForm → Seeds → List ℕ → LoadFile → List ℕ → Type 0
IsSweepText form seeds name f text = (s : Sweep) × IsSweep name f seeds.first (runs_of seeds) s × (text ≡ told_in form name f s)

-- whether no job of any run was late or refused
abbrev pub AreRunsInTime : Seeds → List ℕ → LoadFile → Bool → Type 0
AreRunsInTime seeds name f answer =
    (s : Sweep) × IsSweep name f seeds.first (runs_of seeds) s × (answer ≡ are_in_time s)

-- the command that prints what many runs of a load tell
abbrev pub sweep_command : LoadSweep → List ℕ → Command LoadFile
sweep_command asked name = printing_command (changed_load asked.changes) (IsSweepText asked.form asked.seeds name)
