-- Many runs as JSON: the keys, and the value of each key.
use Rattle.std.specs.Prelude.{ℕ, List, [], ◌∷◌, ◌++◌, codes, get_or, length, map, Option, Some, None}
use Rattle.std.specs.List.{range_with_len}
use Rattle.serde_json.specs.Data.{Data, boolean, string, array, object, no_members, Members}
use Rattle.serde_json.specs.View.{items_of}
use Rattle.serde_json.specs.Written.{compact_text}
use Rattle.cbsrun_json.specs.Members.{object_of, pair_if, whole, whole_if, with_members}
use Rattle.cbsrun_sweeps.specs.Servers.{no_sweep}
use Rattle.cbsrun_sweeps.specs.Sweeps.{are_in_time}
use Rattle.cbsrun_sweeps.specs.declared.server.ServerSweep.{ServerSweep}
use Rattle.cbsrun_sweeps.specs.declared.server.Worst.{Worst}
use Rattle.cbsrun_sweeps.specs.declared.sweep.Sweep.{Sweep}
use Rattle.cbsrun_sweep_texts.specs.Texts.{last_seed}

-- the greatest response, and the seed of the first run that has it
abbrev pub worst_pair : Option Worst → Option (ℕ × ℕ)
worst_pair None = None
worst_pair (Some w) = Some (w.response, w.seed)

-- the object of a server with this name
unfoldable pub server_data : List ℕ → ServerSweep → Data
server_data name s = object_of (
    (codes "name", string name)
    ∷ (codes "late_runs", whole s.late_in)
    ∷ (codes "late_jobs", whole s.late)
    ∷ (codes "refused_runs", whole s.refused_in)
    ∷ (codes "refused_jobs", whole s.refused)
    ∷ (codes "greatest_response", pair_if (worst_pair s.worst))
    ∷ [])

-- server s
abbrev pub server_at : List (List ℕ) → List ServerSweep → ℕ → Data
server_at names sweeps s = server_data (get_or names s []) (get_or sweeps s no_sweep)

-- the members that say which runs of which file there are. The key `sweep` is the version of the object
unfoldable pub runs_terms : List ℕ → Option ℕ → Sweep → Members
runs_terms file tick s = with_members (
    (codes "sweep", whole 1)
    ∷ (codes "file", string file)
    ∷ (codes "unit", string (codes "tick"))
    ∷ (codes "tick_nanoseconds", whole_if tick)
    ∷ (codes "first_seed", whole s.first)
    ∷ (codes "last_seed", whole (last_seed s.first s.runs))
    ∷ (codes "runs", whole s.runs)
    ∷ (codes "in_time", boolean (are_in_time s))
    ∷ []) no_members

-- the object of many runs
unfoldable pub sweep_data : List ℕ → Option ℕ → List (List ℕ) → Sweep → Data
sweep_data file tick names s = object (with_members (
    (codes "servers", array (items_of (map (server_at names s.servers.items) (range_with_len 0 (length s.servers.items)))))
    ∷ []) (runs_terms file tick s))

-- .. on one line
abbrev pub sweep_json : List ℕ → Option ℕ → List (List ℕ) → Sweep → List ℕ
sweep_json file tick names s = compact_text (sweep_data file tick names s) ++ codes "\n"
