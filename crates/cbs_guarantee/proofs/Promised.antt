-- What is promised for the sources of a server is kept by every list of steps.
use Rattle.std.proofs.Common.{◌≡◌, ℕ, ◌+◌, List, [], ◌∷◌, ◌++◌, arith, subst, inl, inr}
use Rattle.std.proofs.lemmas.List.Sums.{sum_by-cons}
use Rattle.cbs_job.specs.Work.{Meaning}
use Rattle.cbs_rate.specs.Rate.{Rate}
use Rattle.cbs_steps.specs.Charged.{KeepsChargedDue, KeepsChargedDueEnd}
use Rattle.cbs_steps.specs.History.{Setup, History}
use Rattle.cbs_steps.specs.Promises.{when}
use Rattle.cbs_steps.specs.declared.step.Step.{Step}
use Rattle.cbs_steps.specs.declared.step.Step.TheVariants.{Submit, Run}
use Rattle.cbs_guarantee.specs.Promised.{reservation_of, KeepsPromised}
use Rattle.cbs_guarantee.specs.Sources.{ticks_of, stream_of, streams_of, time_for}
use Rattle.cbs_guarantee.specs.Streams.{span_of, AreStreams}
use Rattle.cbs_guarantee.specs.declared.source.Source.{Source}
use Rattle.cbs_guarantee.proofs.Overruns.{overrun_ends_kept}
use Rattle.cbs_guarantee.proofs.Streams.{stream_ends_kept}
use Rattle.cbs_guarantee.proofs.Units.{units_kept}

-- the time for one source is its span, and the delay
time_for_one : (r : Rate) (source : Source) (delay : ℕ) → time_for r (source ∷ []) delay ≡ span_of r (ticks_of source) + delay
time_for_one r source delay = omega (arith, sum_by-cons (λ (x : Rate). x.budget) (stream_of r source) [])

module _ {W : Type 0} (work : Meaning W) where
  -- the first of steps that give a server the jobs of streams
  streams_front : (setup : Setup) (s : ℕ) (rates : List Rate) (of : ℕ → ℕ) (K L : List (Step W)) → AreStreams work setup s rates of (K ++ L)
      → AreStreams work setup s rates of L
  streams_front setup s rates of [] L are = are
  streams_front setup s rates of (x ∷ K) L are = streams_front setup s rates of K L are.0

  pub promised_kept : (N : History W) → ((L : List (Step W)) → KeepsChargedDue work (when N L)) → ((L : List (Step W)) → KeepsChargedDueEnd work (when N L))
      → KeepsPromised work N
  promised_kept N keeps ends = λ quiet s sources of delay within promised others jobs C K M job end.
      let r = reservation_of work N s in
      let time = promised.time in
      elim jobs [
        | inl all ↦
            let rates = streams_of r sources in
            let are = subst (λ L. AreStreams work N.setup s rates of L) end.job_of.steps all.streams in
            let front = streams_front N.setup s rates of (C ++ Run ∷ K) (Submit s job ∷ M) are in
            let by = stream_ends_kept work N (ends N.steps) quiet s rates of promised.bearable all.uncharged C K M job end front in
            omega arith
        | inr one ↦
            let source = one.one.source in
            let apart = one.one.apart in
            let alone : within ≡ time_for r (source ∷ []) delay = subst (λ xs. within ≡ time_for r xs delay) one.one.only time in
            let spans = time_for_one r source delay in
            let stream = units_kept work N keeps quiet s source.units source.overrun source.every delay one.jobs others (omega arith) in
            let by = overrun_ends_kept work N keeps ends quiet s (ticks_of source) source.every delay
            (record { stream = stream; others = others; apart = omega arith }) C K M job end in
            omega arith
      ]
