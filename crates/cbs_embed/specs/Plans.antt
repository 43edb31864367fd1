-- Which servers make a setup.
use Rattle.std.specs.Prelude.{◌≡◌, ℕ, zero, suc, List, [], ◌∷◌, Option, Some, None, Result}
use Rattle.std.specs.Result.{MatchResult}
use Rattle.std.specs.Option.{unwrap_or}
use Rattle.cbs_rate.specs.Plan.{IsGreatestBudget, Planned, admit_refusal}
use Rattle.cbs_rate.specs.Rate.{rate_refusal}
use Rattle.cbs_rate.specs.declared.error.RateError.{RateError}
use Rattle.cbs_rate.specs.declared.error.AdmitError.{AdmitError}
use Rattle.cbs_embed.specs.declared.server.Server.{Server}
use Rattle.cbs_rules.specs.Setups.{ModedPlan}
use Rattle.cbs_rules.specs.Setups as setups
use Rattle.cbs_rules.specs.declared.mode.Mode.{Mode}
use Rattle.cbs_rules.specs.declared.mode.Mode.TheVariants.{Soft, Throttled}
use Rattle.cbs_embed.specs.declared.refusal.HandleError.TheVariants.{BadMode}
use Rattle.cbs_embed.specs.declared.refusal.Refusal.{Refusal}
use Rattle.cbs_embed.specs.declared.refusal.Refusal.TheVariants as refused

-- the mode of a number, if there is one
abbrev pub mode_from : ℕ → Option Mode
mode_from zero = Some Soft
mode_from (suc zero) = Some Throttled
mode_from (suc (suc n)) = None

-- the refusal of a mode that does not exist, or else `rest`
abbrev pub mode_refusal : Option Mode → Option Refusal → Option Refusal
mode_refusal (Some m) rest = rest
mode_refusal None rest = Some (refused.Handle BadMode)

-- the first refusal of the three, or else `rest`
abbrev pub first_refusal : Option RateError → Option AdmitError → Option Mode → Option Refusal → Option Refusal
first_refusal (Some e) b m rest = Some (refused.Rate e)
first_refusal None (Some e) m rest = Some (refused.Admit e)
first_refusal None None m rest = mode_refusal m rest

-- why one server is refused, or else `rest`
abbrev pub server_refusal : Planned → Server → Option Refusal → Option Refusal
server_refusal p r rest = first_refusal (rate_refusal r.budget r.period)
    (admit_refusal p (record { budget = r.budget; period = r.period })) (mode_from r.mode) rest

-- The setup with one more server. A server whose number is no mode is refused, so its mode here does not matter
abbrev pub with_server : ModedPlan → Server → ModedPlan
with_server s r = setups.with_server s (record { budget = r.budget; period = r.period }) (unwrap_or (mode_from r.mode) Soft)

-- the setup with no server yet, whose servers may take the whole processor
abbrev pub whole_processor : ModedPlan
whole_processor = setups.no_servers (record { num = 1; den = 1 })

-- why the first of these servers that does not fit is refused, if one does not fit
unfoldable pub setup_refusal : ModedPlan → List Server → Option Refusal
setup_refusal s [] = None
setup_refusal s (r ∷ rs) = server_refusal s.plan r (setup_refusal (with_server s r) rs)

-- the setup with all of these servers added
unfoldable pub setup_with : ModedPlan → List Server → ModedPlan
setup_with s [] = s
setup_with s (r ∷ rs) = setup_with (with_server s r) rs

-- the setup takes one more server, or refuses it by the first refusal that applies to it
abbrev pub TakesServer : Planned → Server → Result (Unit {0}) Refusal → Type 0
TakesServer plan server result = MatchResult result (λ _. server_refusal plan server None ≡ None)
    (λ error. (rest : Option Refusal) → server_refusal plan server rest ≡ Some error)

-- the greatest budget with which a server of this period is admitted after these servers, or why these are refused
abbrev pub TellsGreatest : List Server → ℕ → Result ℕ Refusal → Type 0
TellsGreatest servers period result = MatchResult result
    (λ budget. (setup_refusal whole_processor servers ≡ None) × IsGreatestBudget (setup_with whole_processor servers).plan period budget)
    (λ error. setup_refusal whole_processor servers ≡ Some error)
