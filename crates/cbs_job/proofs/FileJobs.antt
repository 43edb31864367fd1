-- A job of a task file comes to what the job inside comes to.
use Rattle.std.proofs.Common.{◌≡◌, ℕ, zero, suc, refl}
use Rattle.cbs_job.specs.Work.{whole, output_after}
use Rattle.cbs_job.specs.Numbers.{Progress, summing, peaking}
use Rattle.cbs_job.specs.FileJobs.{of_files}
use Rattle.cbs_job.specs.declared.file.FileJob.TheVariants.{Sum, Peak}

-- a sum job of a file goes on as a sum
sum_inside : (n : ℕ) (p : Progress) → output_after of_files n (Sum p) ≡ output_after summing n p
sum_inside zero p = refl
sum_inside (suc n) p = sum_inside n (summing.after p)

-- so it comes to that sum
pub whole-Sum : (p : Progress) → whole of_files (Sum p) ≡ whole summing p
whole-Sum p = sum_inside (summing.left p) p

-- a peak job of a file goes on as a peak
peak_inside : (n : ℕ) (p : Progress) → output_after of_files n (Peak p) ≡ output_after peaking n p
peak_inside zero p = refl
peak_inside (suc n) p = peak_inside n (peaking.after p)

-- so it comes to that peak
pub whole-Peak : (p : Progress) → whole of_files (Peak p) ≡ whole peaking p
whole-Peak p = peak_inside (peaking.left p) p
