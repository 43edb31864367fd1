use Rattle.std.proofs.Common.{◌≡◌, ℕ, zero, suc, List, [], ◌∷◌, map, replicate, refl, ap}
use Rattle.cbs_queues.specs.Queues.{jobs_of}
use Rattle.cbs_queues.proofs.UnitsTakenIn.{counted_none}
use Rattle.cbs_queues.proofs.queues.Queues.new.Goals as goal

pub invariant_of-result : goal.invariant_of-result
invariant_of-result g c =
    let totals : c.in_ok-taken_in.taken_in.items ≡ replicate c.args.servers 0 =
    rw c.from.ensures at c.in_ok-taken_in.ensures.items_if_clones_equal (λ y same. same) in
    rw (c.in_ok-new.ensures.empty, totals) (counted_none g.W.Work.meaning c.args.servers)

-- empty queues have no jobs
no_jobs : {W : Type 0} (n : ℕ) → map jobs_of (replicate n []) ≡ replicate {A = List W} n []
no_jobs zero = refl
no_jobs (suc n) = ap (λ lists. [] ∷ lists) (no_jobs n)

pub returns : goal.returns
returns g c = record { empty = rw (c.in_ok-new.ensures.empty) (no_jobs c.args.servers) }
