-- Why a submit is refused, and what follows if it is not.
use Rattle.std.proofs.Common.{◌≡◌, ℕ, ◌<◌, false, leb, List, length, refl, Option, Some, None, inl, inr}
use Rattle.std.proofs.lemmas.Bool.{cases_lt, cases_Bool}
use Rattle.std.proofs.lemmas.Option.{slice_get_past}
use Rattle.cbs_steps.specs.Errors.{is_out_of_memory}
use Rattle.cbs_steps.specs.Faces.{Face, backlog_of, refuses_submit, submit_refusal}
use Rattle.cbs_steps.specs.declared.error.CoreError.{CoreError}
use Rattle.cbs_steps.specs.declared.error.CoreError.TheVariants as error

-- an error out of memory is no such refusal
pub refusal_named : (backlog : ℕ) (o : Option Face) (e : CoreError) → Some e ≡ refuses_submit backlog o → is_out_of_memory e ≡ false
refusal_named backlog None e k = let same : e ≡ error.NoSuchServer = cc in rw same refl
refusal_named backlog (Some f) e k = elim (cases_Bool f.closed) [
  | inl t ↦ let is : Some e ≡ Some error.Closed = rw t at k in let same : e ≡ error.Closed = cc in rw same refl
  | inr o ↦ elim (cases_Bool (leb backlog (backlog_of f))) [
    | inl full ↦ let is : Some e ≡ Some error.BacklogFull = rw (o, full) at k in let same : e ≡ error.BacklogFull = cc in rw same refl
    | inr few ↦ let is : Some e ≡ None = rw (o, few) at k in cc
  ]
]

-- a server whose submit is not refused is there
pub accepted_within : (backlog : ℕ) (fs : List Face) (s : ℕ) → submit_refusal backlog fs s ≡ None → s < length fs
accepted_within backlog fs s accepted = elim (cases_lt s (length fs)) [
  | inl lt ↦ lt
  | inr ge ↦ let is : Some error.NoSuchServer ≡ None = rw (slice_get_past fs s ge) at accepted in cc
]
