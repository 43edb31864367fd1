-- What C gets from a call on a handle.
use Rattle.std.specs.Prelude.{ℕ, ◌≡◌, ◌++◌, Option, Result, Ok, Err, List, [], ◌∷◌, take, drop, length}
use Rattle.cbs_embed.specs.Statuses.{refusal_status}
use Rattle.cbs_embed.specs.declared.held.Held.{Held}
use Rattle.cbs_embed.specs.declared.refusal.Refusal.{Refusal}

module _ {T : Type 0} where
  -- the status of a result
  abbrev pub status_after : Result T Refusal → ℕ
  status_after (Ok x) = 0
  status_after (Err e) = refusal_status e

  -- the caller's place after the call: the value in its form for C, or the old content after a refusal
  abbrev pub shown_or : {U : Type 0} → (T → U) → Result T Refusal → U → U
  shown_or shown (Ok x) before = shown x
  shown_or shown (Err e) before = before

-- A call did this to what a handle held, and the returned status is that of its result. The caller's place has the
-- value in its form for C, or its old content after a refusal.
pub record Tells {T U : Type 0} (Does : Option Held → Result T Refusal → Option Held → Type 0) (shown : T → U)
    (held : Option Held) (before : U) (status : ℕ) (holds : Option Held) (after : U) : Type 0 where
  pub answer : Result T Refusal
  pub does : Does held answer holds
  pub told : status ≡ status_after answer
  pub out : after ≡ shown_or shown answer before

-- the same relation as Tells, for a call without a value
pub record Answers {T : Type 0} (Does : Option Held → Result T Refusal → Option Held → Type 0) (held : Option Held) (status : ℕ)
    (holds : Option Held) : Type 0 where
  pub answer : Result T Refusal
  pub does : Does held answer holds
  pub told : status ≡ status_after answer

-- what a place of bytes has after a text was written into it: as much of the text as fits before a zero byte, this byte,
-- and what the place had after it; nothing if there is no byte
abbrev pub ended_by_zero : List ℕ → List ℕ → List ℕ
ended_by_zero text [] = []
ended_by_zero text (first ∷ rest) = take (length rest) text ++ 0 ∷ drop (length text) rest

-- A text is written with a zero byte after it, as much as fits, and the length of the whole text is returned. This does
-- not say which text a status has.
pub record WritesSomeText (before after : List ℕ) (answer : ℕ) : Type 0 where
  pub text : List ℕ
  pub written : after ≡ ended_by_zero text before
  pub whole : answer ≡ length text
