-- A core that is brought to a state in the midst of a run.
use Rattle.std.specs.Prelude.{◌≡◌, ℕ, ◌+◌, ◌*◌, ◌≤◌, ◌<◌, false, None, length}
use Rattle.cbs_rate.specs.Limits.{longest_period}
use Rattle.cbs_rules.specs.declared.mode.Mode.TheVariants.{Soft}
use Rattle.cbs_steps.specs.Faces.{Face, face_at, is_active, backlog_of}
use Rattle.cbs_core.specs.Held.{CoreHeld, running}
use Rattle.cbs_core.specs.Invariant.{IsLastUnit}
use Rattle.cbs_core.specs.declared.last_unit.LastUnit.{LastUnit}
use Rattle.cbs_core.specs.declared.past.Past.{Past}

-- what is kept of a server that shows this, but for its unfinished jobs
abbrev pub past_of : Face → Past
past_of f = record {
  state = record { reservation = f.terms.reservation; state = f.state };
  charges = f.charges;
  closed = f.closed;
  finished = f.finished;
}

-- a server that was brought to a past state: each job that it accepted is finished
abbrev pub restored : Past → Face → Face
restored p f = record f { state = p.state.state; charges = p.charges; closed = p.closed; accepted = p.finished; finished = p.finished }

-- one unfinished job more, which came before
abbrev pub with_job_back : Face → Face
with_job_back f = record f { accepted = f.accepted + 1 }

-- a server with no unfinished job may have been in this state at this tick
pub record MayHaveBeen (now : ℕ) (p : Past) (f : Face) : Type 0 where
  pub idle : is_active f ≡ false
  pub reservation : p.state.reservation ≡ f.terms.reservation
  pub free : f.terms.mode ≡ Soft → p.state.state.throttled ≡ false
  pub early : p.state.state.deadline ≤ now + (now + 1) * longest_period
  pub few_done : p.finished ≤ now
  pub few_charged : p.charges.total ≤ now

module _ {W : Type 0} where
  -- no server runs, and no job may be ended
  pub record IsStill (core : CoreHeld W) : Type 0 where
    pub stands : running core ≡ None
    pub no_end : core.last.unfinished ≡ false

  -- server s of a core that is still may be brought to a past state
  pub record MayRestore (core : CoreHeld W) (s : ℕ) (p : Past) : Type 0 where
    pub still : IsStill core
    pub within : s < length core.faces
    pub been : MayHaveBeen core.clock p (face_at core.faces s)

  -- server s of a core that is still may be given one unfinished job more, which came before
  pub record MayGiveBack (core : CoreHeld W) (s : ℕ) : Type 0 where
    pub still : IsStill core
    pub within : s < length core.faces
    pub begun : 0 < (face_at core.faces s).state.deadline
    pub few : backlog_of (face_at core.faces s) < core.backlog

  -- this may be known of the last unit of a core
  abbrev pub MayBeLast : CoreHeld W → LastUnit → Type 0
  MayBeLast core l = IsLastUnit core.clock core.faces l
