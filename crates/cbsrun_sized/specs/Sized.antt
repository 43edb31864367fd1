-- A sketch with a reservation for each of its servers, as a load file.
use Rattle.std.specs.Prelude.{◌≡◌, ℕ, ◌<◌, Bool, false, if◌then◌else◌, get_or, length, List, [], MatchOption, Option, Some, None, Ok, Err, string_bytes}
use Rattle.cbs_guarantee.specs.Parts.{rate_at}
use Rattle.cbs_rate.specs.Rate.{Rate}
use Rattle.cbs_rules.specs.declared.mode.Mode.TheVariants.{Soft}
use Rattle.cbsrun_loads.specs.Loads.{LoadFile}
use Rattle.cbsrun_loads.specs.Sketches.{SketchFile, no_server}
use Rattle.cbsrun_loads.specs.Spelling.{load}
use Rattle.cbsrun_loads.specs.declared.sketch.Given.{Given}
use Rattle.cbsrun_proposals.specs.Proposals.{rate, rate_of, IsEnough, IsNotEnough, IsProposal}
use Rattle.cbsrun_proposals.specs.declared.remedy.Proposal.{Proposal}
use Rattle.cbsrun_sizing.specs.ServerLoads.{sources_of, wanted_in, wanted_of}
use Rattle.cbsrun_sized.specs.Admitted.{are_admitted}
use Rattle.cbsrun_sized.specs.declared.not_sized.NotSized.{NotSized}
use Rattle.cbsrun_sized.specs.declared.not_sized.NotSized.TheVariants.{OutOfMemory, NothingProposed, NotAdmitted, NotPromised, SpellsAnother}

-- the reservation that server s of a sketch has; none if all are to be proposed
abbrev pub given_in : SketchFile → Bool → ℕ → Option Given
given_in k all s = if all then None else (get_or k.servers s no_server).given

-- what is proposed for the sources of server s
abbrev pub IsProposedFor : SketchFile → ℕ → Option Rate → Type 0
IsProposedFor k s proposed = IsProposal (sources_of s k.sources) (wanted_in k s) proposed

-- the reservation of server s: the one that it has, or else the one that is proposed for its sources
abbrev pub IsReservationFor : SketchFile → Bool → ℕ → Rate → Type 0
IsReservationFor k all s r = MatchOption (given_in k all s) (IsProposedFor k s (Some r)) (λ g. r ≡ rate g.budget g.period)

-- what stands for the reservation of a server that does not exist
abbrev pub no_proposal : Proposal
no_proposal = record { budget = 0; period = 0 }

-- the reservations of the first n servers
pub record AreReservations (k : SketchFile) (all : Bool) (n : ℕ) (rates : List Proposal) : Type 0 where
  pub count : length rates ≡ n
  pub each : (s : ℕ) → s < n → IsReservationFor k all s (rate_of (get_or rates s no_proposal))

-- server s of the load has the name and the mode of the sketch, and this reservation
pub record IsSameServer (k : SketchFile) (f : LoadFile) (s : ℕ) (r : Rate) : Type 0 where
  pub named : get_or f.names s [] ≡ get_or k.names s []
  pub moded : get_or f.modes s Soft ≡ (get_or k.servers s no_server).mode
  pub reserved : rate_at f.plan.rates s ≡ r

-- the load is the sketch, with a reservation for each server
pub record IsCompleted (k : SketchFile) (all : Bool) (f : LoadFile) : Type 0 where
  pub count : length f.plan.rates ≡ length k.servers
  pub servers : (s : ℕ) → s < length k.servers → (r : Rate) × IsSameServer k f s r × IsReservationFor k all s r
  pub tick : f.tick ≡ k.tick
  pub bound : f.plan.bound ≡ k.bound
  pub backlog : f.backlog ≡ k.backlog
  pub until : f.until ≡ k.until
  pub seed : f.seed ≡ k.seed
  pub sources : f.sources ≡ k.sources
  pub listed : f.listed ≡ k.listed

-- each job of the load is promised, and in time
abbrev pub AreInTime : LoadFile → Type 0
AreInTime f = (s : ℕ) → s < length f.plan.rates → IsEnough (sources_of s f.sources) (wanted_of f s) (rate_at f.plan.rates s)

-- the text spells a load that is the sketch with a reservation for each server, and each job of that load is promised in
-- time
pub record IsSized (k : SketchFile) (all : Bool) (text : List ℕ) : Type 0 where
  pub f : LoadFile
  pub spelled : load text ≡ Ok f
  pub completed : IsCompleted k all f
  pub in_time : AreInTime f

-- one executor does not take all the reservations
pub record IsTooMuch (k : SketchFile) (all : Bool) : Type 0 where
  pub rates : List Proposal
  pub reservations : AreReservations k all (length k.servers) rates
  pub refused : are_admitted k.bound rates ≡ false

-- why a sketch is not sized. What is not admitted is the load with the reservations; who is not promised, is not so in it
abbrev pub IsWhyNot : SketchFile → Bool → NotSized → Type 0
IsWhyNot k all OutOfMemory = Unit {0}
IsWhyNot k all (NothingProposed s) = (s < length k.servers) × (given_in k all s ≡ None) × IsProposedFor k s None
IsWhyNot k all (NotAdmitted text fault) = IsTooMuch k all × (load (string_bytes text) ≡ Err fault)
IsWhyNot k all (NotPromised s) = (f : LoadFile) × IsCompleted k all f × (s < length k.servers)
    × IsNotEnough (sources_of s f.sources) (wanted_of f s) (rate_at f.plan.rates s)
IsWhyNot k all SpellsAnother = Unit {0}
