-- What is known of one server after some steps. No job is kept as partly run here: there are only counts, compared with
-- sums.
use Rattle.std.specs.Prelude.{ℕ, ◌+◌, Bool, true, false, leb, List, [], ◌∷◌, ◌++◌, length, take, drop}
use Rattle.std.specs.List.{sum_by}
use Rattle.cbs_job.specs.Work.{Meaning}
use Rattle.cbs_rules.specs.Rules.{State, Terms, fresh_state, after_unit, after_charge, after_replenishment}
use Rattle.cbs_steps.specs.Searches.{greatest}
use Rattle.cbs_steps.specs.declared.charges.Charges.{Charges}
use Rattle.cbs_steps.specs.Faces.{Face, no_charges, add_charge, no_face, arrived}

-- The mode and reservation that the server was given, the jobs accepted for it, in order, and the units that it got.
-- Then its budget, deadline, mark and overrun, and what it was charged, in total and for its last unit. Then whether it
-- runs: it got the last unit of all, and no tick has passed since, except those charged for that unit. Last, whether it
-- was closed
pub record Account (W : Type 0) : Type 0 where
  pub terms : Terms
  pub accepted : List W
  pub got : ℕ
  pub state : State
  pub charges : Charges
  pub latest : ℕ
  pub runs : Bool
  pub closed : Bool

module _ {W : Type 0} where
  -- the units that the first k accepted jobs need
  abbrev pub need : Meaning W → Account W → ℕ → ℕ
  need work a k = sum_by work.left (take k a.accepted)

  -- how many jobs are finished: as many as the units got suffice for
  abbrev pub finished : Meaning W → Account W → ℕ
  finished work a = greatest (λ k. leb (need work a k) a.got) (length a.accepted)

  -- the accepted jobs after the finished ones
  abbrev pub unfinished : Meaning W → Account W → List W
  unfinished work a = drop (finished work a) a.accepted

  -- the ticks that the server took: its units, and what it was charged
  abbrev pub taken : Account W → ℕ
  taken a = a.got + a.charges.total

  -- what the server shows, without its jobs
  abbrev pub face_of : Meaning W → Account W → Face
  face_of work a = record { terms = a.terms; state = a.state; charges = a.charges; closed = a.closed; accepted = length a.accepted; finished = finished work a }

  -- a server at the start
  abbrev pub new_account : Terms → Account W
  new_account terms = record { terms = terms; accepted = []; got = 0; state = fresh_state; charges = no_charges; latest = 0; runs = false; closed = false }

  -- the account if there is no such server
  abbrev pub no_account : Account W
  no_account = record { terms = no_face.terms; accepted = []; got = 0; state = fresh_state; charges = no_charges; latest = 0; runs = false; closed = true }

  -- the account after one more job was accepted
  abbrev pub account_with_job : Meaning W → ℕ → W → Account W → Account W
  account_with_job work now job a = record a { accepted = a.accepted ++ job ∷ []; state = arrived now (face_of work a) }

  -- the account after one more unit, by the unit rule: the server runs, and is charged nothing yet for this unit
  abbrev pub account_with_unit : Account W → Account W
  account_with_unit a = record a { got = a.got + 1; state = after_unit a.terms.mode a.terms.reservation a.state; latest = 0; runs = true }

  -- the account after a charge of n ticks for the last unit, by the rule of charges
  abbrev pub account_with_charge : ℕ → Account W → Account W
  account_with_charge n a = record a {
    state = after_charge a.terms.mode a.terms.reservation n a.state;
    charges = add_charge n (a.latest + n) a.charges;
    latest = a.latest + n;
  }

  -- the account of a server that no longer runs, so that nothing more is charged for its last unit
  abbrev pub account_let_go : Account W → Account W
  account_let_go a = record a { runs = false }

  -- the account after a replenishment, if one is due
  abbrev pub account_with_replenishment : ℕ → Account W → Account W
  account_with_replenishment now a = record a { state = after_replenishment a.terms.reservation now a.state }

  -- the account after a close: no job is accepted from then on
  abbrev pub account_with_close : Account W → Account W
  account_with_close a = record a { closed = true }
