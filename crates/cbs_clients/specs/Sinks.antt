-- What a sink is given.
use Rattle.std.specs.Prelude.{ℕ, ◌≡◌, eqb, List, [], ◌∷◌, ◌++◌, length, map}
use Rattle.std.specs.List.{filter, range_with_len}
use Rattle.cbs_job.specs.declared.completion.Completion.{Completion}
use Rattle.cbs_job.specs.declared.work.Work.{Ghosts}
use Rattle.cbs_steps.specs.declared.reply.Ran.{Ran}
use Rattle.cbs_steps.specs.declared.reply.Ran.TheVariants as ran
use Rattle.cbs_clients.specs.declared.house.House.{House}
use Rattle.cbs_clients.specs.Houses.{results_of, result_count}

-- the completions of server s, in order
abbrev pub completions_for : ℕ → List Completion → List Completion
completions_for s cs = filter (λ c. eqb c.server s) cs

-- a sink was given these completions, one after another; `hears` says what each does to the sink
abbrev pub HearsEach : {S : Type 0} → (S → Completion → S → Type 0) → S → List Completion → S → Type 0
HearsEach hears old [] new = new ≡ old
HearsEach {S} hears old (c ∷ cs) new = (next : S) × hears old c next × HearsEach hears next cs new

-- a sink was given what ran, if it was a completion, and nothing else
abbrev pub HearsRun : {S : Type 0} → (S → Completion → S → Type 0) → Ran → S → S → Type 0
HearsRun hears ran.Idle old new = new ≡ old
HearsRun hears ran.ClockEnd old new = new ≡ old
HearsRun hears (ran.Unit s q) old new = new ≡ old
HearsRun hears (ran.Done c) old new = hears old c new

module _ {W A S : Type 0} {g : Ghosts W} where
  -- A sink was given the completions of the house, one after another. The results of each server are those before,
  -- followed by those of its completions, in order. The number of each completion is its place among the results.
  pub record Tells (hears : S → Completion → S → Type 0) (old_house new_house : House W A g) (old new : S) : Type 0 where
    pub completions : List Completion
    pub heard : HearsEach hears old completions new
    pub results : (s : ℕ) → results_of new_house s ≡ results_of old_house s ++ map (λ c. c.result) (completions_for s completions)
    pub numbers : (s : ℕ) → map (λ c. c.seq) (completions_for s completions)
        ≡ range_with_len (result_count old_house s) (length (completions_for s completions))
