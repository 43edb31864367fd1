-- What is not enough with a backlog is not enough with a lesser one.
use Rattle.std.proofs.Common.{ℕ, ◌≤◌, List, arith, inl, inr}
use Rattle.cbs_rate.specs.Rate.{Rate}
use Rattle.cbs_guarantee.specs.declared.source.NotPromised.TheVariants as why
use Rattle.cbs_guarantee.specs.declared.source.Source.{Source}
use Rattle.cbsrun_proposals.specs.Proposals.{with_backlog, IsNotEnough}
use Rattle.cbsrun_proposals.specs.declared.wanted.Wanted.{Wanted}

pub not_enough_fewer : (sources : List Source) (w : Wanted) (server : Rate) (m n : ℕ) → n ≤ m → IsNotEnough sources (with_backlog m w) server
    → IsNotEnough sources (with_backlog n w) server
not_enough_fewer sources w server m n le (inr late) = inr late
not_enough_fewer sources w server m n le (inl (why.AsksTooMuch, is)) = inl (why.AsksTooMuch, is)
not_enough_fewer sources w server m n le (inl (why.BacklogTooSmall needed, (is, small))) = inl (why.BacklogTooSmall needed, (is, omega arith))
not_enough_fewer sources w server m n le (inl (why.SharedOverrun, is)) = inl (why.SharedOverrun, is)
not_enough_fewer sources w server m n le (inl (why.LateOverrun, is)) = inl (why.LateOverrun, is)
not_enough_fewer sources w server m n le (inl (why.BeyondLimits, is)) = inl (why.BeyondLimits, is)
