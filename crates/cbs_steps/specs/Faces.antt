-- What a server shows, without its jobs; what is read off it, and what each step does to it.
use Rattle.std.specs.Prelude.{ℕ, ◌+◌, ◌-◌, Bool, true, false, not, ◌&&◌, ◌||◌, leb, ltb, max, if◌then◌else◌, List, map, get_or, slice_get, Option, Some}
use Rattle.std.specs.Prelude.{None, Result, Ok, Err}
use Rattle.cbs_rate.specs.Rate.{Rate}
use Rattle.cbs_rules.specs.Rules.{State, Terms, fresh_state, after_arrival, after_unit, after_charge, after_replenishment}
use Rattle.cbs_rules.specs.declared.mode.Mode.TheVariants.{Soft}
use Rattle.cbs_steps.specs.Choice.{Rank}
use Rattle.cbs_steps.specs.declared.charges.Charges.{Charges}
use Rattle.cbs_steps.specs.declared.error.CoreError.{CoreError}
use Rattle.cbs_steps.specs.declared.error.CoreError.TheVariants as error
use Rattle.cbs_steps.specs.declared.view.ServerView.{ServerView}

-- no tick was charged
abbrev pub no_charges : Charges
no_charges = record { total = 0; most = 0 }

-- n ticks more are charged, with which `for_unit` ticks were charged for one unit
abbrev pub add_charge : ℕ → ℕ → Charges → Charges
add_charge n for_unit c = record { total = c.total + n; most = max c.most for_unit }

-- the mode and the reservation that the server was given, its budget, deadline, mark and overrun, and what it was
-- charged. Also whether it was closed, and how many jobs it accepted and finished
pub record Face : Type 0 where
  pub terms : Terms
  pub state : State
  pub charges : Charges
  pub closed : Bool
  pub accepted : ℕ
  pub finished : ℕ

-- a server at the start
abbrev pub new_face : Terms → Face
new_face terms = record { terms = terms; state = fresh_state; charges = no_charges; closed = false; accepted = 0; finished = 0 }

-- the face if there is no such server
abbrev pub no_face : Face
no_face = record {
  terms = record { mode = Soft; reservation = record { budget = 0; period = 0 } };
  state = fresh_state;
  charges = no_charges;
  closed = true;
  accepted = 0;
  finished = 0;
}

-- the face of server s
abbrev pub face_at : List Face → ℕ → Face
face_at faces s = get_or faces s no_face

-- active: an accepted job is not finished. A server that is not active is idle
abbrev pub is_active : Face → Bool
is_active f = ltb f.finished f.accepted

-- ready: active and not throttled
abbrev pub is_ready : Face → Bool
is_ready f = is_active f && not f.state.throttled

-- the deadline by which the server runs, if it is ready
abbrev pub ready_by : Face → Option ℕ
ready_by f = if is_ready f then Some f.state.deadline else None

-- how many accepted jobs are not finished: the backlog of the server
abbrev pub backlog_of : Face → ℕ
backlog_of f = f.accepted - f.finished

-- what the choice reads of the servers
abbrev pub ranks : List Face → List Rank
ranks faces = map (λ f. record { ready = is_ready f; deadline = f.state.deadline }) faces

-- why a close of a server is refused, if it is
abbrev pub refuses_close : Option Face → Option CoreError
refuses_close None = Some error.NoSuchServer
refuses_close (Some f) = if f.closed then Some error.Closed else None

-- why a submit to a server is refused, if it is
abbrev pub refuses_submit : ℕ → Option Face → Option CoreError
refuses_submit backlog None = Some error.NoSuchServer
refuses_submit backlog (Some f) = if f.closed then Some error.Closed else if leb backlog (backlog_of f) then Some error.BacklogFull else None

-- why a close of server s, or a submit to server s, is refused, if it is
abbrev pub close_refusal : List Face → ℕ → Option CoreError
close_refusal faces s = refuses_close (slice_get faces s)

abbrev pub submit_refusal : ℕ → List Face → ℕ → Option CoreError
submit_refusal backlog faces s = refuses_submit backlog (slice_get faces s)

-- the reservations of the servers
abbrev pub reservations : List Face → List Rate
reservations faces = map (λ f. f.terms.reservation) faces

-- what a server shows to a caller
abbrev pub view_of : Face → ServerView
view_of f = record {
  budget = f.state.budget;
  deadline = f.state.deadline;
  throttled = f.state.throttled;
  closed = f.closed;
  accepted = f.accepted;
  finished = f.finished;
}

-- the result of a view: what the server shows, or that there is no such server
abbrev pub view_reply : Option Face → Result ServerView CoreError
view_reply None = Err error.NoSuchServer
view_reply (Some f) = Ok (view_of f)

-- the result of a look at the charges: what the server was charged, or that there is no such server
abbrev pub charges_reply : Option Face → Result Charges CoreError
charges_reply None = Err error.NoSuchServer
charges_reply (Some f) = Ok f.charges

-- the state after a job came in: the arrival rule applies if the server was idle and not throttled
abbrev pub arrived : ℕ → Face → State
arrived now f = if is_active f || f.state.throttled then f.state else after_arrival f.terms.mode f.terms.reservation now f.state

-- the face after a job came in
abbrev pub with_job : ℕ → Face → Face
with_job now f = record f { state = arrived now f; accepted = f.accepted + 1 }

-- the face after a unit, which finished a job or did not
abbrev pub with_unit : Bool → Face → Face
with_unit done f = record f { state = after_unit f.terms.mode f.terms.reservation f.state; finished = if done then f.finished + 1 else f.finished }

-- the face after a charge of n ticks for its last unit, with which `for_unit` ticks were charged for that unit
abbrev pub with_charge : ℕ → ℕ → Face → Face
with_charge n for_unit f = record f { state = after_charge f.terms.mode f.terms.reservation n f.state; charges = add_charge n for_unit f.charges }

-- the face after a replenishment, if one is due
abbrev pub with_replenishment : ℕ → Face → Face
with_replenishment now f = record f { state = after_replenishment f.terms.reservation now f.state }

-- the face after a close: no job is accepted from then on
abbrev pub with_close : Face → Face
with_close f = record f { closed = true }
