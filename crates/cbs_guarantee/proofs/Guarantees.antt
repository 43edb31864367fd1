-- All that is guaranteed holds, if every list of steps is punctual.
use Rattle.std.proofs.Common.{List}
use Rattle.cbs_job.specs.Work.{Meaning}
use Rattle.cbs_steps.specs.History.{History}
use Rattle.cbs_steps.specs.Punctual.{IsPunctual}
use Rattle.cbs_steps.specs.declared.step.Step.{Step}
use Rattle.cbs_guarantee.specs.Guarantees.{IsGuaranteed}
use Rattle.cbs_guarantee.proofs.Accepting.{accepting_kept}
use Rattle.cbs_guarantee.proofs.Late.{late_kept, late_ends_kept}
use Rattle.cbs_guarantee.proofs.LateAccepting.{late_accepting_kept}
use Rattle.cbs_guarantee.proofs.Overruns.{overruns_kept, overrun_ends_kept, accepting_overruns_kept}
use Rattle.cbs_guarantee.proofs.Streams.{streams_kept, stream_ends_kept}
use Rattle.cbs_guarantee.proofs.Promised.{promised_kept}
use Rattle.cbs_guarantee.proofs.Units.{units_kept}

module _ {W : Type 0} (work : Meaning W) where
  -- one history by all of its setup
  pub guaranteed_of : (N : History W) → ((steps : List (Step W)) → IsPunctual work (record { setup = N.setup; steps = steps })) → IsGuaranteed work N
  guaranteed_of N all = record {
    streams = streams_kept work N (all N.steps).charged_due;
    stream_ends = stream_ends_kept work N (all N.steps).charged_due_end;
    late = late_kept work N (all N.steps).charged_due;
    late_ends = late_ends_kept work N (all N.steps).charged_due_end;
    late_accepting = late_accepting_kept work N (all N.steps).charged_due;
    accepting = accepting_kept work N (all N.steps).charged_due;
    overruns = overruns_kept work N (λ L. (all L).charged_due);
    overrun_ends = overrun_ends_kept work N (λ L. (all L).charged_due) (λ L. (all L).charged_due_end);
    accepting_overruns = accepting_overruns_kept work N (λ L. (all L).charged_due);
    units = units_kept work N (λ L. (all L).charged_due);
    promised = promised_kept work N (λ L. (all L).charged_due) (λ L. (all L).charged_due_end);
  }
