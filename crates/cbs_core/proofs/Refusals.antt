-- Why a submit or a close is refused, in words of what is held.
use Rattle.std.proofs.Common.{◌≡◌, ℕ, ◌≤◌, true, false, leb, length, refl, arith, Option, Some, None, inl, inr}
use Rattle.std.proofs.lemmas.Bool.{cases_lt, cases_Bool}
use Rattle.std.proofs.lemmas.Bool.Decides.{nat_tests}
use Rattle.std.proofs.lemmas.Option.{slice_get-get_or, slice_get_past}
use Rattle.cbs_steps.specs.Errors.{is_out_of_memory}
use Rattle.cbs_steps.specs.Faces.{no_face, face_at, backlog_of, submit_refusal, close_refusal}
use Rattle.cbs_core.specs.Held.{CoreHeld, IsOpen, IsClosed, Accepts, IsRefusedBy}
use Rattle.cbs_steps.specs.declared.error.CoreError.{CoreError}
use Rattle.cbs_steps.specs.declared.error.CoreError.TheVariants as error

module _ {W : Type 0} {core held : CoreHeld W} (view : core ≡ held) (s : ℕ) where
  -- why a submit to s is refused, and why a close
  abbrev submitting : Option CoreError
  submitting = submit_refusal core.backlog core.faces s

  abbrev closing : Option CoreError
  closing = close_refusal core.faces s

  -- which of the cases stands: what is held, and the refusals
  data Case : Type 0 where
    absent : length core.faces ≤ s → submitting ≡ Some error.NoSuchServer → closing ≡ Some error.NoSuchServer → Case
    shut : IsClosed core s → submitting ≡ Some error.Closed → closing ≡ Some error.Closed → Case
    full : IsOpen core s → core.backlog ≤ backlog_of (face_at core.faces s) → submitting ≡ Some error.BacklogFull
        → closing ≡ None → Case
    free : Accepts core s → closing ≡ None → Case

  -- a submit that would be accepted is not refused
  pub accepts_free : Accepts held s → None ≡ submitting
  accepts_free accepts =
      let is = rw (← view) at accepts in
      let lt = is.is_open.within in
      let few = is.few in
      let room : leb core.backlog (backlog_of (face_at core.faces s)) ≡ false = grind (arith, nat_tests) in
      rw (slice_get-get_or core.faces s no_face lt, is.is_open.unclosed, room)

  -- an open server is not refused a close
  pub open_free : IsOpen held s → None ≡ closing
  open_free opened = let is = rw (← view) at opened in rw (slice_get-get_or core.faces s no_face is.within, is.unclosed)

  -- one of the cases always stands
  case : Case
  case = elim (cases_lt s (length core.faces)) [
    | inl lt ↦
        let here = slice_get-get_or core.faces s no_face lt in
        elim (cases_Bool (face_at core.faces s).closed) [
          | inl t ↦ shut record { within = lt; closed = t } (rw (here, t)) (rw (here, t))
          | inr o ↦ elim (cases_lt (backlog_of (face_at core.faces s)) core.backlog) [
            | inl few ↦ free record { is_open = record { within = lt; unclosed = o }; few = few } (rw (here, o))
            | inr many ↦
                let n : leb core.backlog (backlog_of (face_at core.faces s)) ≡ true = grind (arith, nat_tests) in
                full record { within = lt; unclosed = o } many (rw (here, o, n)) (rw (here, o))
          ]
        ]
    | inr ge ↦ let none = slice_get_past core.faces s ge in absent ge (rw none) (rw none)
  ]

  -- and a submit that is not refused would be accepted
  pub free_accepts : None ≡ submitting → Accepts held s
  free_accepts e =
      rw (← view) (elim case [ absent ge n k ↦ cc | shut is n k ↦ cc | full is many n k ↦ cc | free is k ↦ is ])

  -- and a server that is not refused a close is open
  pub free_open : None ≡ closing → IsOpen held s
  free_open e =
      rw (← view) (elim case [ absent ge n k ↦ cc | shut is n k ↦ cc | full is many n k ↦ is | free is k ↦ is.is_open ])

  -- a refusal, in words of what is held
  pub refused_by : (e : CoreError) → Some e ≡ submitting → IsRefusedBy held s e
  refused_by e k = rw (← view) (elim case [
    | absent ge n p ↦ let same : e ≡ error.NoSuchServer = cc in rw same ge
    | shut is n p ↦ let same : e ≡ error.Closed = cc in rw same is
    | full is many n p ↦ let same : e ≡ error.BacklogFull = cc in rw same (is, many)
    | free is p ↦ let none = accepts_free (rw view at is) in cc
  ])

  -- an error out of memory is no such refusal
  pub refusal_named : (e : CoreError) → Some e ≡ submitting → is_out_of_memory e ≡ false
  refusal_named error.OutOfMemory k = let none = accepts_free (refused_by error.OutOfMemory k) in cc
  refusal_named _ k = refl
