-- The laws of a history hold of every one whose reservations were admitted.
use Rattle.std.proofs.Common.{◌≡◌, ℕ, List, [], ◌∷◌, length, map, refl, ap, arith}
use Rattle.cbs_job.specs.Work.{Meaning}
use Rattle.cbs_steps.specs.History.{History}
use Rattle.cbs_steps.specs.Punctual.{IsPunctual}
use Rattle.cbs_steps.specs.declared.step.Step.{Step}
use Rattle.cbs_rate.specs.Plan.{Planned, IsPlan}
use Rattle.cbs_rate.specs.Rate.{Rate}
use Rattle.cbs_rules.specs.declared.mode.Mode.{Mode}
use Rattle.cbs_steps.specs.Accounts.{new_account}
use Rattle.cbs_steps.specs.Setups.{history_of, terms_of}
use Rattle.cbs_steps.proofs.Dues.{due_kept, charged_due_kept, charged_due_end_kept}
use Rattle.cbs_steps.proofs.Ends.{charged_end_kept}
use Rattle.cbs_steps.proofs.HardTasks.{hard_kept}
use Rattle.cbs_steps.proofs.Lateness.{lateness_kept}
use Rattle.cbs_steps.proofs.OnTime.{IsAdmitted, reservation, given, on_time_after, never_late, strictly_after, strict_next, strict_is_stricter}
use Rattle.cbs_steps.proofs.PacedWorlds.{paced_kept, pace_next, paced_late}
use Rattle.cbs_steps.proofs.Promised.{paced_promise_kept}
use Rattle.cbs_steps.proofs.Promises.{promise_kept, bound_kept, charged_promise_kept}
use Rattle.cbs_steps.proofs.Supplies.{supply_kept, charged_supply_kept}
use Rattle.cbs_steps.proofs.Windows.{share_kept, cap_kept}

module _ {W : Type 0} (work : Meaning W) where
  pub punctual : (N : History W) → IsAdmitted (given work N.setup) → IsPunctual work N
  punctual N ok = record {
    on_time = on_time_after work N.setup N.steps ok;
    never_late = never_late work N.setup N.steps ok;
    strictly_on_time = strictly_after work N ok;
    strict_steps = λ x. strict_next work N x ok;
    stricter = strict_is_stricter work N ok;
    promise = promise_kept work N ok;
    bound = bound_kept work N ok;
    due = due_kept work N ok;
    hard = hard_kept work N ok;
    supply = supply_kept work N ok;
    share = share_kept work N ok;
    cap = cap_kept work N ok;
    late_by = lateness_kept work N ok;
    charged_supply = charged_supply_kept work N ok;
    charged_promise = charged_promise_kept work N ok;
    charged_due = charged_due_kept work N ok;
    charged_end = charged_end_kept work N ok;
    charged_due_end = charged_due_end_kept work N ok;
    paced = paced_kept work N ok;
    paced_steps = λ x. pace_next work N x ok;
    paced_late = paced_late work N ok;
    paced_promise = paced_promise_kept work N ok;
  }

  -- new servers have the reservations that they were given
  given_rates : (modes : List Mode) (rates : List Rate) → length modes ≡ length rates → map (reservation work) (map new_account (terms_of modes rates)) ≡ rates
  given_rates [] [] e = refl
  given_rates [] (r ∷ rates) e = cc
  given_rates (m ∷ modes) [] e = cc
  given_rates (m ∷ modes) (r ∷ rates) e = ap (λ rs. r ∷ rs) (given_rates modes rates (omega arith))

  -- so every list of steps of the servers of a plan is punctual
  pub plan_punctual : (plan : Planned) (modes : List Mode) (backlog : ℕ) → IsPlan plan → length modes ≡ length plan.rates → (steps : List (Step W))
      → IsPunctual work (history_of modes plan.rates backlog steps)
  plan_punctual plan modes backlog ok same steps =
      punctual (history_of modes plan.rates backlog steps)
      (rw (given_rates modes plan.rates same) record { lawful = ok.lawful; at_most_one = ok.at_most_one })
