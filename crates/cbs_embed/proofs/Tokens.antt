-- The token of a job is what it comes to.
use Rattle.std.proofs.Common.{◌≡◌, ℕ, zero, suc, List, [], ◌∷◌, map, refl}
use Rattle.std.specs.Option.{unwrap_or}
use Rattle.cbs_job.specs.Work.{whole, output_after}
use Rattle.cbs_job.specs.declared.completion.Completion.{Completion}
use Rattle.cbs_core.specs.Held.{front_output, held_at}
use Rattle.cbs_steps.specs.declared.reply.Ran.TheVariants as ran
use Rattle.cbs_clients.specs.Houses.{core_of, received, ComesTo, NamesJob}
use Rattle.cbs_clients.specs.Messages.{jobs_among}
use Rattle.cbs_embed.specs.Calls.{TheHouse, HasToken, NamesToken}
use Rattle.cbs_embed.specs.Jobs.{counting}
use Rattle.cbs_embed.specs.declared.job.UnitJob.{UnitJob}

-- a unit leaves the token
token_stays : (n : ℕ) (job : UnitJob) → output_after counting n job ≡ job.token
token_stays zero job = refl
token_stays (suc n) job = token_stays n (counting.after job)

-- jobs of the host come to their tokens
whole_tokens : (jobs : List UnitJob) → map (whole counting) jobs ≡ map (λ job. job.token) jobs
whole_tokens [] = refl
whole_tokens (job ∷ jobs) = rw (token_stays job.units job, whole_tokens jobs) refl

-- so a job that comes to a number has that token
comes_to_token : (h : TheHouse) (s q token : ℕ) → ComesTo counting h s q token → HasToken h s q token
comes_to_token h s q token c = rw (whole_tokens (jobs_among (received h s))) at c.told

-- the token of the first job held is that of the job of this number
pub names_first : (h : TheHouse) (s q token : ℕ) → NamesJob counting (ran.Unit s q) h
    → token ≡ unwrap_or (front_output counting (held_at (core_of h) s).jobs) 0 → NamesToken (ran.Unit s q) token h
names_first h s q token (job, rest, first, comes) is = rw (is, first) (comes_to_token h s q job.token (rw (token_stays job.units job) at comes))

-- and a completion gives it
pub names_done : (h : TheHouse) (c : Completion) → NamesJob counting (ran.Done c) h → NamesToken (ran.Done c) c.result h
names_done h c comes = comes_to_token h c.server c.seq c.result comes
