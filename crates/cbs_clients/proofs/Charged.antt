-- The house's result of a charge, from the core's.
use Rattle.std.proofs.Common.{◌≡◌, Option, Some, None, Ok, Err, refl, ap}
use Rattle.cbs_steps.specs.Replies.{charged}
use Rattle.cbs_steps.specs.History.{charge_reply}
use Rattle.cbs_steps.specs.declared.error.CoreError.{CoreError}
use Rattle.cbs_clients.specs.Errors.{charge_error, charge_answer}

module _ {W : Type 0} where
  -- what the core accepts, the rules do not refuse
  pub charge_made : (o : Option CoreError) → charged {W = W} (Ok tt) ≡ charge_reply o → Ok tt ≡ charge_answer o
  charge_made None e = refl
  charge_made (Some error) e = absurd cc

  -- what the core refuses, the rules refuse for the same reason
  pub charge_refused : (error : CoreError) (o : Option CoreError) → charged {W = W} (Err error) ≡ charge_reply o → Err (charge_error error) ≡ charge_answer o
  charge_refused error None e = absurd cc
  charge_refused error (Some other) e = let same : error ≡ other = cc in ap (λ x. charge_answer (Some x)) same
