-- What C gets, by the result of a call.
use Rattle.std.proofs.Common.{◌≡◌, ℕ, Option, Result, Ok, Err, refl}
use Rattle.cbs_embed.specs.Statuses.{refusal_status}
use Rattle.cbs_embed.specs.declared.held.Held.{Held}
use Rattle.cbs_embed.specs.declared.refusal.Refusal.{Refusal}
use Rattle.cbs_c.specs.Statuses.{Tells}

module _ {T U : Type 0} (Does : Option Held → Result T Refusal → Option Held → Type 0) (shown : T → U) {held holds : Option Held} {before after : U} where
  -- a call that succeeds writes its value
  pub told_ok : (x : T) → Does held (Ok x) holds → after ≡ shown x → Tells Does shown held before 0 holds after
  told_ok x does out = record { answer = Ok x; does = does; told = refl; out = out }

  -- so is one that is refused
  pub told_err : (e : Refusal) {status : ℕ} → Does held (Err e) holds → status ≡ refusal_status e → after ≡ before
      → Tells Does shown held before status holds after
  told_err e does told out = record { answer = Err e; does = does; told = told; out = out }
