-- All that is guaranteed for the jobs of a server.
use Rattle.cbs_job.specs.Work.{Meaning}
use Rattle.cbs_steps.specs.History.{History}
use Rattle.cbs_guarantee.specs.Streams.{KeepsStreams, KeepsStreamEnds, KeepsAccepting}
use Rattle.cbs_guarantee.specs.Late.{KeepsLate, KeepsLateEnds, KeepsLateAccepting}
use Rattle.cbs_guarantee.specs.Promised.{KeepsPromised}
use Rattle.cbs_guarantee.specs.Overruns.{KeepsOverruns, KeepsOverrunEnds, KeepsAcceptingOverruns, KeepsUnits}

-- for several streams, and for one stream whose units are charged: each job is finished in time, and accepted
pub record IsGuaranteed {W : Type 0} (work : Meaning W) (N : History W) : Type 0 where
  pub streams : KeepsStreams work N
  pub stream_ends : KeepsStreamEnds work N
  pub late : KeepsLate work N
  pub late_ends : KeepsLateEnds work N
  pub late_accepting : KeepsLateAccepting work N
  pub accepting : KeepsAccepting work N
  pub overruns : KeepsOverruns work N
  pub overrun_ends : KeepsOverrunEnds work N
  pub accepting_overruns : KeepsAcceptingOverruns work N
  pub units : KeepsUnits work N
  pub promised : KeepsPromised work N
