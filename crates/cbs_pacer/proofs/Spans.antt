-- An idle span ends by the clock's end.
use Rattle.std.proofs.Common.{◌≤◌, ◌+◌, ℕ, arith, inl, inr}
use Rattle.std.proofs.lemmas.Bool.{cases_lt}
use Rattle.cbs_job.specs.Work.{Meaning}
use Rattle.cbs_rules.specs.Rules.{clock_end}
use Rattle.cbs_steps.specs.History.{History, world_after}
use Rattle.cbs_steps.specs.Quiet.{IsIdleSpan}
use Rattle.cbs_core.specs.Agreement.{Agrees, HasHistory}
use Rattle.cbs_core.specs.Held.{CoreHeld}

pub span_within : {W : Type 0} (work : Meaning W) (core : CoreHeld W) (n : ℕ) → HasHistory work core → core.clock ≤ clock_end
    → ((M : History W) → Agrees work core M → IsIdleSpan work (world_after work M) n) → core.clock + n ≤ clock_end
span_within work core n history early span = elim (cases_lt clock_end (core.clock + n)) [
  | inr ge ↦ ge
  | inl past ↦ absurd (history (λ M agrees.
      let within = (span M agrees).within in let clock = agrees.world.clock in absurd (omega (arith, within, clock, past, early))))
]
