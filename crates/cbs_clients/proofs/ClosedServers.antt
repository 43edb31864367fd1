-- Whether a server is closed, by what a view of it shows.
use Rattle.std.proofs.Common.{◌≡◌, ◌↔◌, ℕ, Bool, true, false, Result, Ok, Err, length, inl, inr, arith}
use Rattle.std.specs.Prelude.{slice_get}
use Rattle.std.proofs.lemmas.Bool.{cases_lt, false≢true}
use Rattle.std.proofs.lemmas.Option.{slice_get-get_or, slice_get_past}
use Rattle.cbs_steps.specs.Faces.{no_face, view_reply}
use Rattle.cbs_core.specs.Held.{CoreHeld, IsClosed}
use Rattle.cbs_steps.specs.declared.error.CoreError.{CoreError}
use Rattle.cbs_steps.specs.declared.view.ServerView.{ServerView}

-- whether a view shows a closed server
abbrev pub shows_closed : Result ServerView CoreError → Bool
shows_closed (Ok view) = view.closed
shows_closed (Err e) = false

-- a view shows a closed server exactly if the server is there and closed
pub closed_shown : {W : Type 0} (core : CoreHeld W) (s : ℕ) (r : Result ServerView CoreError) → r ≡ view_reply (slice_get core.faces s)
    → (shows_closed r ≡ true) ↔ IsClosed core s
closed_shown core s r e = elim (cases_lt s (length core.faces)) [
  | inl lt ↦ rw (e, slice_get-get_or core.faces s no_face lt) (λ c. record { within = lt; closed = c }, λ is. is.closed)
  | inr ge ↦ rw (e, slice_get_past core.faces s ge) (λ c. absurd (false≢true c), λ is. let lt = is.within in absurd (omega arith))
]
