-- What C gets from the opening of a house, and from planning one.
use Rattle.std.specs.Prelude.{ℕ, ◌≡◌, MatchResult, Some, None, Result, List}
use Rattle.cbs_embed.specs.Openings.{OpenOf}
use Rattle.cbs_embed.specs.Plans.{setup_refusal, setup_with, whole_processor}
use Rattle.cbs_rate.specs.Plan.{IsGreatestBudget}
use Rattle.cbs_embed.specs.declared.handle.Handle.{Handle}
use Rattle.cbs_embed.specs.declared.refusal.Refusal.{Refusal}
use Rattle.cbs_embed.specs.declared.server.Server.{Server}
use Rattle.cbs_c.specs.Statuses.{status_after, shown_or}

-- a house of these servers is opened, or not, and the status says which, and why
pub record OpensForC (servers : List Server) (backlog ring : ℕ) (house house' : Handle) (clients clients' : List Handle) (status : ℕ) : Type 0 where
  pub answer : Result (Unit {0}) Refusal
  pub opens : OpenOf servers backlog ring house house' clients clients' answer
  pub told : status ≡ status_after answer

-- the status says that these servers make a plan, or why they are refused
pub record TellsAdmission (servers : List Server) (status : ℕ) : Type 0 where
  pub answer : Result (Unit {0}) Refusal
  pub admitted : MatchResult answer (λ _. setup_refusal whole_processor servers ≡ None) (λ error. setup_refusal whole_processor servers ≡ Some error)
  pub told : status ≡ status_after answer

-- the value is the greatest budget that is still admitted after these servers, or the status says why the servers
-- themselves are refused
pub record TellsBudget (servers : List Server) (period before status after : ℕ) : Type 0 where
  pub answer : Result ℕ Refusal
  pub greatest : MatchResult answer
      (λ budget. (setup_refusal whole_processor servers ≡ None) × IsGreatestBudget (setup_with whole_processor servers).plan period budget)
      (λ error. setup_refusal whole_processor servers ≡ Some error)
  pub told : status ≡ status_after answer
  pub out : after ≡ shown_or (λ budget. budget) answer before
