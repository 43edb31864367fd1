-- A core of which a job ended before its last unit: what is on time or paced stays so, and what else was changed.
use Rattle.std.proofs.Common.{◌≡◌, ℕ, zero, suc, ◌+◌, ◌≤◌, ◌<◌, true, false, ltb, List, [], ◌∷◌, length, map, drop, refl, ap, sym, ◌∙◌, arith, inl, inr, subst, Some}
use Rattle.std.specs.List.{sum_by, AllByRecursion}
use Rattle.std.proofs.lemmas.Bool.{cases_Bool}
use Rattle.std.proofs.lemmas.Bool.Decides.{nat_tests}
use Rattle.std.proofs.lemmas.Simd.{map-map}
use Rattle.cbs_job.specs.Work.{Meaning}
use Rattle.cbs_job.specs.declared.completion.Completion.{Completion}
use Rattle.cbs_rate.specs.Plan.{all_periods}
use Rattle.cbs_rules.specs.Rules.{State}
use Rattle.cbs_lists.specs.Lists.{changed_at}
use Rattle.cbs_lists.proofs.Lists.{changed_kept, AllByRecursion-map, AllByRecursion-mapped, AllByRecursion-changed_at}
use Rattle.cbs_lists.proofs.Sums.{same_sum, sum_changed-le}
use Rattle.cbs_steps.specs.Faces.{Face, no_face, face_at, reservations}
use Rattle.cbs_steps.specs.OnTime.{demand, IsAhead, IsOnTime, IsOnTimeBy}
use Rattle.cbs_steps.specs.Paced.{Pace, asked, held_up, IsPacedBy}
use Rattle.cbs_steps.proofs.Demands.{fewer-le}
use Rattle.cbs_queues.specs.Queues.{list_at}
use Rattle.cbs_core.specs.Held.{CoreHeld, is_running, may_end, with_job_ended, pace_at, paces_from, front_output, held_at, EndsJob, OthersSame, IsCorePaced}
use Rattle.cbs_core.proofs.Cores.{left_true}
use Rattle.cbs_core.proofs.Effects.{others_same, held_here}

-- a server asks for no more, if a job of it ends
demand_less : (parts now x : ℕ) (f : Face) → demand parts now x (with_job_ended f) ≤ demand parts now x f
demand_less parts now x f =
    let r = f.terms.reservation in
    elim (cases_Bool (ltb (f.finished + 1) f.accepted)) [
      | inl t ↦ let u : ltb f.finished f.accepted ≡ true = grind (arith, nat_tests) in rw (t, u) (omega arith)
      | inr n ↦ elim (cases_Bool (ltb f.finished f.accepted)) [
        | inl u ↦ rw (n, u) (fewer-le parts r now x true false f.state)
        | inr v ↦ rw (n, v) (omega arith)
      ]
    ]

-- so all stays on time
pub ended_on_time : (now : ℕ) (fs : List Face) (s : ℕ) → IsOnTime now fs → IsOnTime now (changed_at with_job_ended fs s)
ended_on_time now fs s on =
    let parts = all_periods (reservations fs) in
    let same : all_periods (reservations (changed_at with_job_ended fs s)) ≡ parts = ap all_periods (changed_kept (λ (f : Face). f.terms.reservation) with_job_ended fs s (λ f. refl)) in
    subst (λ p. IsOnTimeBy demand p now (changed_at with_job_ended fs s)) (sym same) record {
      within = λ x le.
          let before = on.within x le in
          let less = sum_changed-le (demand parts now x) (demand parts now x) with_job_ended fs s no_face (λ i lt. omega arith) (λ lt. demand_less parts now x (face_at fs s)) in
          omega arith;
      ahead = AllByRecursion-changed_at (IsAhead now) (IsAhead now) with_job_ended fs s no_face on.ahead (λ f h. h) (λ h. h);
    }

module _ {W : Type 0} (core : CoreHeld W) (s : ℕ) (queues : List (List W)) (rooms : List ℕ) (runs : is_running core s ≡ true) where
  abbrev new : CoreHeld W
  new = record { backlog = core.backlog; clock = core.clock; last = record core.last { unfinished = false }; faces = changed_at with_job_ended core.faces s; queues = queues; rooms = rooms }

  -- what pacing looks at of each server, if it does not look at the job that ended
  seen_same : {Y : Type 0} (h : Pace → Y) → ((f : Face) → h (pace_at core s (with_job_ended f)) ≡ h (pace_at core s f)) → (fs : List Face) (k i : ℕ) → k + i ≡ s
      → map h (paces_from new k (changed_at with_job_ended fs i)) ≡ map h (paces_from core k fs)
  seen_same h same [] k i e = refl
  seen_same h same (f ∷ fs) k zero e =
      let here : k ≡ s = omega arith in
      let first : h (pace_at core k (with_job_ended f)) ≡ h (pace_at core k f) = rw here (same f) in
      ap (λ y. y ∷ map h (paces_from core (k + 1) fs)) first
  seen_same h same (f ∷ fs) k (suc i) e = ap (λ ys. h (pace_at core k f) ∷ ys) (seen_same h same fs (k + 1) i (omega arith))

  abbrev before : List Pace
  before = paces_from core 0 core.faces

  abbrev after : List Pace
  after = paces_from new 0 new.faces

  -- so all stays paced: a server that runs counts as active
  paced_new : IsCorePaced core → IsCorePaced new
  paced_new on =
      let parts = all_periods (reservations (map (λ (p : Pace). p.face) before)) in
      let now = core.clock in
      let zeros : 0 + s ≡ s = omega arith in
      let rates : map (λ (p : Pace). p.face.terms.reservation) after ≡ map (λ (p : Pace). p.face.terms.reservation) before =
      seen_same (λ (p : Pace). p.face.terms.reservation) (λ f. refl) core.faces 0 s zeros in
      let same : all_periods (reservations (map (λ (p : Pace). p.face) after)) ≡ parts =
      ap all_periods (map-map (λ (f : Face). f.terms.reservation) (λ (p : Pace). p.face) after ∙ rates ∙ sym (map-map (λ (f : Face). f.terms.reservation) (λ (p : Pace). p.face) before)) in
      let ask : (x : ℕ) → sum_by (asked parts now x) after ≡ sum_by (asked parts now x) before =
      λ x. same_sum (asked parts now x) after before (seen_same (asked parts now x) (λ f. rw runs refl) core.faces 0 s zeros) in
      let held : (x : ℕ) → sum_by (held_up x) after ≡ sum_by (held_up x) before = λ x. same_sum (held_up x) after before (seen_same (held_up x) (λ f. refl) core.faces 0 s zeros) in
      let waits : State → Type 0 = λ t. t.throttled ≡ true → now < t.deadline in
      let states : map (λ (p : Pace). p.face.state) after ≡ map (λ (p : Pace). p.face.state) before = seen_same (λ (p : Pace). p.face.state) (λ f. refl) core.faces 0 s zeros in
      subst (λ p. IsPacedBy p now after) (sym same) record {
        within = λ x some. let a = ask x in let h = held x in rw (a, h) (on.within x (rw a at some));
        ahead = AllByRecursion-mapped waits (λ (p : Pace). p.face.state) after
            (subst (λ xs. AllByRecursion waits xs) (sym states) (AllByRecursion-map (λ (p : Pace). IsAhead now p.face) waits (λ (p : Pace). p.face.state) before on.ahead (λ p h. h)));
      }

module _ {W : Type 0} {old held : CoreHeld W} (view : old ≡ held) (queues : List (List W)) (faces : List Face) (rooms : List ℕ) (s : ℕ)
    (shown : faces ≡ changed_at with_job_ended old.faces s) (left : queues ≡ changed_at (drop 1) old.queues s) where
  -- all stays paced
  pub ended_paced : may_end old s ≡ true → IsCorePaced held
      → IsCorePaced (record { backlog = old.backlog; clock = old.clock; last = record old.last { unfinished = false }; faces = faces; queues = queues; rooms = rooms })
  ended_paced may on = rw shown (paced_new old s queues rooms (left_true (is_running old s) old.last.unfinished may) (subst (λ c. IsCorePaced c) (sym view) on))

  -- the job is gone, and nothing else
  pub ended_job : (work : Meaning W) (c : Completion) → s < length old.faces → s < length old.queues → c.server ≡ s → c.seq ≡ (face_at old.faces s).finished
      → front_output work (list_at old.queues s) ≡ Some c.result
      → (let new : CoreHeld W = record { backlog = old.backlog; clock = old.clock; last = record old.last { unfinished = false }; faces = faces; queues = queues; rooms = rooms } in
      EndsJob work c (held_at held s) (held_at new s) × OthersSame s held new × (c.server ≡ s))
  ended_job work c lt within server seq result =
      let last = record old.last { unfinished = false } in
      let others = others_same {old = old} refl old.clock last faces queues rooms s with_job_ended (drop 1) shown left in
      let here = held_here {old = old} refl old.clock last faces queues rooms s with_job_ended (drop 1) shown left lt within in
      rw (← view) (rw here record { number = seq; result = result; jobs = refl; accepted = refl; finished = refl; closed = refl }, others, server)
