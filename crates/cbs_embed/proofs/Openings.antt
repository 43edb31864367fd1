-- How many handles an opened house fills.
use Rattle.std.proofs.Common.{◌≡◌, ℕ, List, Option, length, ap, sym, ◌∙◌}
use Rattle.std.proofs.lemmas.List.{length-map}
use Rattle.std.proofs.lemmas.List.FromFn.{length-range_with_len}
use Rattle.cbs_rate.specs.Rate.{Rate}
use Rattle.cbs_rules.specs.declared.mode.Mode.{Mode}
use Rattle.cbs_clients.specs.Clients.{server_of}
use Rattle.cbs_embed.specs.Openings.{Opens}
use Rattle.cbs_embed.specs.declared.held.Held.{Held}

-- one for each server
pub opens_each : (modes : List Mode) (rates : List Rate) (backlog ring : ℕ) (held : Option Held) (others : List (Option Held))
    → Opens modes rates backlog ring held others → length others ≡ length rates
opens_each modes rates backlog ring held others o =
    ap length o.hold ∙ (length-map o.clients _ ∙ (sym (length-map o.clients server_of) ∙ (ap length o.servers ∙ length-range_with_len 0 (length rates))))
