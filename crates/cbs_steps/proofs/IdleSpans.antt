-- An advance by the idle span is quiet, and none by more ticks is.
use Rattle.std.proofs.Common.{◌≡◌, ℕ, ◌+◌, ◌<◌, true, false, leb, List, [], ◌∷◌, length, map, arith, inl, inr, sym, ◌∙◌, ap, Option, Some, None}
use Rattle.std.specs.Prelude.{MatchOption}
use Rattle.std.specs.Option.{is_some}
use Rattle.std.proofs.lemmas.Bool.{cases_lt, cases_Bool}
use Rattle.std.proofs.lemmas.Bool.Decides.{nat_tests}
use Rattle.cbs_job.specs.Work.{Meaning}
use Rattle.cbs_lists.proofs.Lists.{AllByRecursion-get, AllByRecursion-make}
use Rattle.cbs_steps.specs.Choice.{IsChoice}
use Rattle.cbs_steps.specs.Faces.{Face, no_face, is_active, is_ready, ranks, with_replenishment}
use Rattle.cbs_steps.specs.History.{World, faces, ticks}
use Rattle.cbs_steps.specs.Quiet.{IsAtRest, IsIdleSpan}
use Rattle.cbs_steps.proofs.Faces.{rank_ready}
use Rattle.cbs_steps.proofs.Ticks.{ticks_none, ticks_some, replenished_faces}
use Rattle.cbs_steps.specs.Waiting.{NoneReady, span_of}
use Rattle.cbs_steps.specs.Waiting.{most, wake, wake_of}
use Rattle.cbs_steps.proofs.Waiting.{wake_idle}

-- if a server is chosen, some server is ready
pub somebody : (fs : List Face) (o : Option ℕ) → IsChoice (ranks fs) (length fs) o → is_some o ≡ true → NoneReady fs → ⊥
somebody fs None choice some rest = cc
somebody fs (Some s) choice some rest =
    let ready = sym (rank_ready fs s) ∙ choice.ready in
    let no = AllByRecursion-get (λ f. is_ready f ≡ false) fs s no_face rest choice.within in
    cc

-- and if none is chosen, none is ready
pub nobody : (fs : List Face) (o : Option ℕ) → IsChoice (ranks fs) (length fs) o → is_some o ≡ false → NoneReady fs
nobody fs None choice none = AllByRecursion-make (λ f. is_ready f ≡ false) fs no_face (λ s lt. sym (rank_ready fs s) ∙ choice s lt)
nobody fs (Some s) choice none = cc

-- before its tick a server that is not ready does not become so
sleeps : (tick : ℕ) (f : Face) → is_ready f ≡ false → tick < wake f → is_ready (with_replenishment tick f) ≡ false
sleeps tick f rest early = elim (cases_Bool (is_active f)) [
  | inl active ↦
      let t : f.state.throttled ≡ true = grind (arith, nat_tests) in
      let l = rw (active, t) at early in
      let e : leb f.state.deadline tick ≡ false = grind (arith, nat_tests) in
      rw (active, t, e)
  | inr idle ↦ rw idle
]

-- and one that does not become ready by a replenishment has a later tick
wakes : (tick : ℕ) (f : Face) → tick < most → is_ready f ≡ false → is_ready (with_replenishment tick f) ≡ false → tick < wake f
wakes tick f end rest quiet = elim (cases_Bool (is_active f)) [
  | inl active ↦
      let t : f.state.throttled ≡ true = grind (arith, nat_tests) in
      elim (cases_lt tick f.state.deadline) [
        | inl early ↦ rw (active, t) (omega arith)
        | inr due ↦ let e : leb f.state.deadline tick ≡ true = grind (arith, nat_tests) in let g = rw (active, t, e) at quiet in cc
      ]
  | inr idle ↦ rw (wake_idle f idle) end
]

-- before the least of the ticks nobody becomes ready
all_sleep : (tick : ℕ) (fs : List Face) → NoneReady fs → tick < wake_of fs → NoneReady (map (with_replenishment tick) fs)
all_sleep tick [] rest early = tt
all_sleep tick (f ∷ fs) rest early = (sleeps tick f rest.0 (omega arith), all_sleep tick fs rest.1 (omega arith))

-- and if no server becomes ready, the least of the ticks is later
all_wake : (tick : ℕ) (fs : List Face) → tick < most → NoneReady fs → NoneReady (map (with_replenishment tick) fs) → tick < wake_of fs
all_wake tick [] end rest quiet = end
all_wake tick (f ∷ fs) end rest quiet =
    let first = wakes tick f end rest.0 quiet.0 in
    let others = all_wake tick fs end rest.1 quiet.1 in
    omega arith

module _ {W : Type 0} (work : Meaning W) (w : World W) where
  -- after m ticks, one at least, each server shows what one replenishment at the last tick makes of its face
  faces_ticked : (m : ℕ) → 0 < m → faces work (ticks m w) ≡ map (with_replenishment (w.now + m)) (faces work w)
  faces_ticked m some = ap (faces work) (ticks_some m w some) ∙ replenished_faces work (w.now + m) w.accounts

  -- the span that is returned is the idle span
  pub span_is : (o : Option ℕ) → MatchOption o (¬ NoneReady (faces work w)) (λ n. NoneReady (faces work w) × (n ≡ span_of w.now (faces work w)))
      → MatchOption o (¬ IsAtRest work w) (IsIdleSpan work w)
  span_is None busy = busy
  span_is (Some n) h =
      let is = h.1 in
      record {
        at_rest = h.0;
        within = omega arith;
        quiet = λ m lt. elim (cases_lt 0 m) [
          | inl some ↦ rw (faces_ticked m some) (all_sleep (w.now + m) (faces work w) h.0 (omega arith))
          | inr le ↦ let none : m ≡ 0 = omega arith in rw (none, ticks_none w) h.0
        ];
        greatest = λ k end quiet. elim (cases_lt n k) [
          | inl more ↦
              let later = all_wake (w.now + n) (faces work w) (omega arith) h.0 (rw (faces_ticked n (omega arith)) at (quiet n more)) in
              absurd (omega arith)
          | inr le ↦ le
        ];
      }
