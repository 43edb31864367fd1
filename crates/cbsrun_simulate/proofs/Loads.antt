-- The output of a job of a load is its result.
use Rattle.std.proofs.Common.{◌≡◌, ℕ, zero, suc, ◌-◌, refl}
use Rattle.cbs_job.specs.Work.{output_after, whole}
use Rattle.cbsrun_simulate.specs.Loading.{loading}
use Rattle.cbsrun_simulate.specs.declared.load_job.LoadJob.{LoadJob}

-- this holds after any number of units
same_after : (n : ℕ) (j : LoadJob) → output_after loading n j ≡ j.overrun
same_after zero j = refl
same_after (suc n) j = same_after n (record j { left = j.left - 1 })

-- this is the result of the whole job
pub constant : (j : LoadJob) → whole loading j ≡ loading.output j
constant j = same_after j.left j
