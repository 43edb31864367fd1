-- No number of many runs is a float.
use Rattle.std.proofs.Common.{◌≡◌, ℕ, false, List, [], ◌∷◌, Option, refl, map, length}
use Rattle.std.specs.List.{range_with_len}
use Rattle.serde_json.specs.View.{items_of}
use Rattle.serde_json.specs.Written.{has_float, items_have_float}
use Rattle.cbsrun_json.proofs.Plain.{pair_if_plain, whole_if_plain}
use Rattle.cbsrun_sweeps.specs.declared.server.ServerSweep.{ServerSweep}
use Rattle.cbsrun_sweeps.specs.declared.sweep.Sweep.{Sweep}
use Rattle.cbsrun_sweep_texts.specs.Json.{runs_terms, server_at, server_data, sweep_data, worst_pair}

-- a server has none
server_plain : (name : List ℕ) (s : ServerSweep) → has_float (server_data name s) ≡ false
unfolding server_data
server_plain name s = rw (pair_if_plain (worst_pair s.worst)) refl

-- nor have servers
servers_plain : (names : List (List ℕ)) (sweeps : List ServerSweep) (servers : List ℕ)
    → items_have_float (items_of (map (server_at names sweeps) servers)) ≡ false
servers_plain names sweeps [] = refl
servers_plain names sweeps (s ∷ servers) = rw (server_plain _ _) (servers_plain names sweeps servers)

-- nor have all runs
pub sweep_plain : (file : List ℕ) (tick : Option ℕ) (names : List (List ℕ)) (s : Sweep) → has_float (sweep_data file tick names s) ≡ false
unfolding sweep_data runs_terms
sweep_plain file tick names s = rw (whole_if_plain tick, servers_plain names s.servers.items (range_with_len 0 (length s.servers.items))) refl
