-- Paced, said of what the servers show, and what a paced world gives.
use Rattle.std.proofs.Common.{ℕ, [], ◌+◌, ◌≡◌, List, ◌∷◌, map, arith, refl, ap, ◌∙◌}
use Rattle.std.specs.Prelude.{◌<◌, false, slice_get, Result, IfOk}
use Rattle.std.proofs.lemmas.Simd.{map-map}
use Rattle.cbs_job.specs.Work.{Meaning}
use Rattle.cbs_rate.specs.Plan.{all_periods}
use Rattle.cbs_rate.proofs.Multiples.{all_periods_some}
use Rattle.cbs_lists.proofs.Lists.{AllByRecursion-map, AllByRecursion-mapped}
use Rattle.cbs_lists.proofs.Sums.{sum_map}
use Rattle.cbs_steps.specs.Accounts.{face_of}
use Rattle.cbs_steps.specs.Faces.{reservations, view_reply}
use Rattle.cbs_steps.specs.History.{Setup, History, faces, start, after, world_after}
use Rattle.cbs_steps.specs.OnTime.{IsAhead}
use Rattle.cbs_steps.specs.Paced.{Pace, IsPacedBy, asked, held_up, pace_of, IsWorldPaced, KeepsPaced, KeepsPace, KeepsPaceAll, KeepsPacedLateness}
use Rattle.cbs_steps.specs.Lateness.{later_charges}
use Rattle.cbs_steps.specs.Quiet.{IsQuietAdvanceAfter}
use Rattle.cbs_steps.specs.declared.error.CoreError.{CoreError}
use Rattle.cbs_steps.specs.declared.reply.Reply.{Reply}
use Rattle.cbs_steps.specs.declared.step.Step.{Step}
use Rattle.cbs_steps.specs.declared.view.ServerView.{ServerView}
use Rattle.cbs_steps.proofs.OnTimeLists.{all_grown}
use Rattle.cbs_steps.proofs.Lateness.{late_by, paced_after}
use Rattle.cbs_steps.proofs.OnTime.{IsAdmitted, given, view_by, rates_are, rates_after, sound_after}
use Rattle.cbs_steps.proofs.Paced.{IsPacedIn, paced_next}

module _ {W : Type 0} (work : Meaning W) where
  -- the reservations are those that were given
  paces_rates : (setup : Setup) (M : List (Step W)) → reservations (map (λ p. p.face) (map (pace_of work) (after work setup M).accounts)) ≡ given work setup
  paces_rates setup M =
      let w = after work setup M in
      ap reservations (map-map (λ (p : Pace). p.face) (pace_of work) w.accounts) ∙ rates_are work w.accounts ∙ rates_after work setup M

  -- paced, said of what the servers show and of the accounts
  shown_paced : (setup : Setup) (M : List (Step W)) → IsPacedIn work (all_periods (given work setup)) 0 (after work setup M) → IsWorldPaced work (after work setup M)
  shown_paced setup M on =
      let w = after work setup M in
      let P = all_periods (given work setup) in
      let here : IsPacedBy P w.now (map (pace_of work) w.accounts) = record {
        within = λ x some.
            let e = sum_map (asked P w.now x) (pace_of work) w.accounts in
            let f = sum_map (held_up x) (pace_of work) w.accounts in
            let b = on.within x (rw e at some) in
            rw (e, f) (omega arith);
        ahead = AllByRecursion-map (λ a. IsAhead w.now (face_of work a)) (λ p. IsAhead w.now p.face) (pace_of work) w.accounts (on.ahead refl) (λ a h. h);
      } in
      rw (paces_rates setup M) here

  -- and the other way round
  pub known_paced : (setup : Setup) (M : List (Step W)) → IsWorldPaced work (after work setup M) → IsPacedIn work (all_periods (given work setup)) 0 (after work setup M)
  known_paced setup M on =
      let w = after work setup M in
      let P = all_periods (given work setup) in
      let here : IsPacedBy P w.now (map (pace_of work) w.accounts) = rw (paces_rates setup M) at on in
      record {
        within = λ x some.
            let e = sum_map (asked P w.now x) (pace_of work) w.accounts in
            let f = sum_map (held_up x) (pace_of work) w.accounts in
            let b = rw (e, f) at (here.within x (rw e some)) in
            omega arith;
        ahead = λ z. AllByRecursion-mapped (λ p. IsAhead w.now p.face) (pace_of work) w.accounts here.ahead;
      }

  -- all are paced after each list of steps that advances quietly
  pub paced_kept : (M : History W) → IsAdmitted (given work M.setup) → KeepsPaced work M
  paced_kept M ok = λ quiet. shown_paced M.setup M.steps (paced_after work M.setup M.steps ok quiet)

  -- each step that advances quietly keeps them so
  pub pace_next : (M : History W) (x : Step W) → IsAdmitted (given work M.setup) → KeepsPace work M x
  pace_next M x ok = λ quiet on. shown_paced M.setup (x ∷ M.steps) (paced_next work (all_periods (given work M.setup)) M.setup.backlog (world_after work M) x
      (sound_after work M.setup M.steps ok) quiet (known_paced M.setup M.steps on))

  -- and a ready server is late by less than those with later deadlines were charged
  pub paced_late : (M : History W) → IsAdmitted (given work M.setup) → KeepsPacedLateness work M
  paced_late M ok = λ on s. late_by work (all_periods (given work M.setup)) (world_after work M) (all_periods_some (given work M.setup) ok.lawful)
      (sound_after work M.setup M.steps ok) (known_paced M.setup M.steps on) s

  -- so it is of what a server shows to a caller
  pub view_late : (M : History W) → IsAdmitted (given work M.setup) → IsWorldPaced work (world_after work M) → (s : ℕ) (r : Result ServerView CoreError)
      → r ≡ view_reply (slice_get (faces work (world_after work M)) s)
      → (let w = world_after work M in
      IfOk r (λ v. v.finished < v.accepted → v.throttled ≡ false → w.now < v.deadline + later_charges v.deadline w.accounts))
  view_late M ok on s r e =
      let w = world_after work M in
      view_by work w s r (λ d. w.now < d + later_charges d w.accounts) (paced_late M ok on s) e

  -- a new executor is paced
  pub paced_start : (setup : Setup) → IsAdmitted (given work setup) → IsWorldPaced work (start setup)
  paced_start setup ok = shown_paced setup [] (paced_after work setup [] ok tt)

  -- each list of steps that advance quietly keeps all paced
  pub paced_grown : (M : History W) (xs : List (Step W)) (rs : List (Reply W)) → IsAdmitted (given work M.setup) → KeepsPaceAll work M xs rs
  paced_grown M xs rs ok = all_grown work (IsWorldPaced work) (IsQuietAdvanceAfter work) (λ setup. IsAdmitted (given work setup)) pace_next M xs rs ok
