-- No number of an event's arguments is a float, so these are written in one way.
use Rattle.std.proofs.Common.{◌≡◌, ℕ, false, List, Option, Some, None, Result, IfOk, String, string_bytes, refl}
use Rattle.std.specs.declared.alloc.Global.{Global}
use Rattle.std.proofs.lemmas.Result.{IfOk-weaker}
use Rattle.serde_json.specs.Data.{Data}
use Rattle.serde_json.specs.Written.{compact_text, has_float}
use Rattle.cbsrun_json.proofs.Plain.{long_if_plain, whole_if_plain}
use Rattle.cbsrun_chart.specs.declared.jobs.ChartJob.{ChartJob}
use Rattle.cbsrun_perfetto.specs.Events.{about_data, job_args}

-- what is told of a job has no fraction
pub job_plain : (j : ℕ) (job : Option ChartJob) → has_float (job_args j job) ≡ false
unfolding job_args
job_plain j None = refl
job_plain j (Some job) = rw (whole_if_plain job.within, long_if_plain job.promised, whole_if_plain job.finish) refl

-- a name has one only if what is told of it has one
pub about_plain : (what : List ℕ) (thread : ℕ) (args : Data) → has_float args ≡ false → has_float (about_data what thread args) ≡ false
unfolding about_data
about_plain what thread args plain = rw plain refl

-- what is written of data with no float
pub written : {E : Type 0} (r : Result (String Global) E) (d : Data) → has_float d ≡ false
    → IfOk r (λ s. has_float d ≡ false → string_bytes s ≡ compact_text d) → IfOk r (λ s. string_bytes s ≡ compact_text d)
written r d plain h =
    IfOk-weaker r (λ s. has_float d ≡ false → string_bytes s ≡ compact_text d) (λ s. string_bytes s ≡ compact_text d) (λ s text. text plain) h
